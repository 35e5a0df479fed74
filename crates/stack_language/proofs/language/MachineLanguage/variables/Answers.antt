use Rattle.std.proofs.Common.{◌∷◌, ◌∙◌, ap, map}
use Rattle.std.specs.List.{range_with_len}
use Rattle.debuggee.specs.Shown.{plain_variable}
use Rattle.stack_language.specs.Language.{plain_state, variable_count}
use Rattle.stack_language.specs.Shown.{stack_of, variable_of}
use Rattle.stack_language.proofs.language.MachineLanguage.variables.Goals as goal

pub returns : goal.returns
returns c = (
  map plain_variable c.in_ok-all.all.items,
  c.in_ok-all.ensures
      ∙ ap (λ s. stack_of (plain_state s) ∷ map (variable_of (plain_state s)) (range_with_len 0 variable_count))
      c.state.ensures,
  c.in_ok-shown.ensures,
)
