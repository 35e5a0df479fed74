use Rattle.std.proofs.Common.{refl}
use Rattle.std.specs.Fmt.{digits}
use Rattle.std.specs.Fmt.Cut.{cut_to}
use Rattle.json.specs.Print.{escape_byte}
use Rattle.dap_bodies.proofs.laws.worked_bodies.Goals as goal

pub returns-clause-events : goal.returns-clause-events
unfolding digits escape_byte cut_to
returns-clause-events c = refl

pub returns-clause-stops : goal.returns-clause-stops
unfolding digits escape_byte cut_to
returns-clause-stops c = refl

pub returns-clause-frames : goal.returns-clause-frames
unfolding digits escape_byte cut_to
returns-clause-frames c = refl

pub returns-clause-variables : goal.returns-clause-variables
unfolding digits escape_byte cut_to
returns-clause-variables c = refl

pub returns-clause-others : goal.returns-clause-others
unfolding digits escape_byte cut_to
returns-clause-others c = refl
