use Rattle.std.proofs.Common.{refl}
use Rattle.std.specs.Fmt.{digits}
use Rattle.adapter.proofs.laws.worked_exits.Goals as goal

pub returns-clause-statuses : goal.returns-clause-statuses
returns-clause-statuses c = refl

pub returns-clause-lines : goal.returns-clause-lines
unfolding digits
returns-clause-lines c = refl

pub returns-clause-frames : goal.returns-clause-frames
returns-clause-frames c = refl

pub returns-clause-refusals : goal.returns-clause-refusals
returns-clause-refusals c = refl

pub returns-clause-texts : goal.returns-clause-texts
returns-clause-texts c = refl
