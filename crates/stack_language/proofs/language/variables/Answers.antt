use Rattle.std.proofs.Common.{[], ◌∷◌}
use Rattle.stack_language.specs.Language.{plain_state}
use Rattle.stack_language.specs.Shown.{stack_of, variable_of}
use Rattle.stack_language.proofs.Variables.{one_more}
use Rattle.stack_language.proofs.language.variables.Goals as goal

pub loop-index-preserved : goal.loop-index-preserved
loop-index-preserved c =
    one_more (stack_of (plain_state c.args.state.now) ∷ []) _ _ _ (variable_of (plain_state c.args.state.now))
    c.loop-index.index c.in_ok-push-2.ensures.items c.loop-index.invariant c.in_ok-named.ensures
