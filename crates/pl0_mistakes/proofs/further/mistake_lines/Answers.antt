use Rattle.pl0_mistakes.specs.Lines.{first_line}
use Rattle.pl0_mistakes.proofs.further.mistake_lines.Goals as goal

pub with_others-requires-clause-first : goal.with_others-requires-clause-first
with_others-requires-clause-first c = first_line c.in_ok-first.ensures

pub returns-else-is_of_names : goal.returns-else-is_of_names
returns-else-is_of_names c = first_line c.in_ok-first.ensures
