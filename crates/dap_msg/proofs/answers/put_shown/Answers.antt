use Rattle.dap_msg.proofs.Common.{codes, refl}
use Rattle.json.specs.Print.{escape_byte}
use Rattle.dap_msg.proofs.answers.put_shown.Goals as goal

pub returns-in-Scopes : goal.returns-in-Scopes
unfolding escape_byte
returns-in-Scopes c =
    rw c.in-Scopes.is (rw c.as_slice-in-Scopes.ensures at (c.put_list.ensures (codes "scopes") refl))

pub returns-in-Variables : goal.returns-in-Variables
unfolding escape_byte
returns-in-Variables c =
    rw c.in-Variables.is
    (rw c.as_slice-in-Variables.ensures at (c.put_list-in-Variables.ensures (codes "variables") refl))
