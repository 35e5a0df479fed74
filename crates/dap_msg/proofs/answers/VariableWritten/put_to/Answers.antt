use Rattle.dap_msg.proofs.Common.{on_ok_weaker, rules, SFits, to_z-of_z, w64}
use Rattle.dap_msg.proofs.Pieces.{variable_put}
use Rattle.dap_msg.proofs.answers.VariableWritten.put_to.Goals as goal

pub returns : goal.returns
returns c =
    let fits : SFits w64 c.args.self.now.value = search rules in
    on_ok_weaker c.put-3.result
    (variable_put c.args.self.now _ _ _ _ _ _ c.in_ok-put.ensures
    (rw c.as_str.ensures at c.in_ok-put_escaped.ensures) c.in_ok-put-2.ensures
    (rw (to_z-of_z w64 c.args.self.now.value fits) at c.in_ok-put_signed.ensures)) c.put-3.ensures
