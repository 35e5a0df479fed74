use Rattle.std.proofs.Common.{refl}
use Rattle.std.specs.Fmt.{digits}
use Rattle.pl0_lessons.proofs.laws.worked_pages.Goals as goal

pub returns-clause-instructions : goal.returns-clause-instructions
unfolding digits
returns-clause-instructions c = (refl, refl, refl, refl)

pub returns-clause-leads : goal.returns-clause-leads
returns-clause-leads c = (refl, refl)

pub returns-clause-passed : goal.returns-clause-passed
unfolding digits
returns-clause-passed c = (refl, refl, refl, refl)
