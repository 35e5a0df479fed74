use Rattle.std.proofs.Common.{◌≡◌}
use Rattle.std.specs.Prelude.{map}
use Rattle.std.specs.List.{range_with_len}
use Rattle.debuggee.specs.Shown.{plain_variable}
use Rattle.stack_language.specs.Language.{plain_state}
use Rattle.stack_language.specs.Shown.{number_at}
use Rattle.stack_language.proofs.language.numbers.Given as goal

abbrev pub invariant-loop-place : goal.invariant-loop-place
invariant-loop-place l =
    map plain_variable l.all.items ≡ map (number_at (plain_state l.state)) (range_with_len 0 l.place)
