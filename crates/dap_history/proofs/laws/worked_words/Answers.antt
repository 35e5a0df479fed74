use Rattle.std.specs.Fmt.{digits}
use Rattle.dap_history.proofs.Common.{refl}
use Rattle.dap_history.proofs.laws.worked_words.Goals as goal

pub returns-clause-frames : goal.returns-clause-frames
unfolding digits
returns-clause-frames c = refl

pub returns-clause-seqs : goal.returns-clause-seqs
returns-clause-seqs c = refl

pub returns-clause-limits : goal.returns-clause-limits
returns-clause-limits c = refl

pub returns-clause-names : goal.returns-clause-names
returns-clause-names c = (refl, refl)

pub returns-clause-mistakes : goal.returns-clause-mistakes
returns-clause-mistakes c = refl

pub returns-clause-order : goal.returns-clause-order
returns-clause-order c = refl
