use Rattle.std.proofs.Common.{◌≡◌, ◌∷◌}
use Rattle.std.specs.Prelude.{map}
use Rattle.std.specs.List.{range_with_len}
use Rattle.debuggee.specs.Shown.{plain_variable}
use Rattle.stack_language.specs.Language.{plain_state}
use Rattle.stack_language.specs.Shown.{stack_of, variable_of}
use Rattle.stack_language.proofs.language.variables.Given as goal

abbrev pub invariant-loop-index : goal.invariant-loop-index
invariant-loop-index l =
    map plain_variable l.all.items
    ≡ stack_of (plain_state l.state) ∷ map (variable_of (plain_state l.state)) (range_with_len 0 l.index)
