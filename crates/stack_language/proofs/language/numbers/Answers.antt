use Rattle.std.proofs.Common.{[]}
use Rattle.stack_language.specs.Language.{plain_state}
use Rattle.stack_language.specs.Shown.{number_at}
use Rattle.stack_language.proofs.Variables.{one_more}
use Rattle.stack_language.proofs.language.numbers.Goals as goal

pub loop-place-preserved : goal.loop-place-preserved
loop-place-preserved c =
    one_more [] _ _ _ (number_at (plain_state c.args.state.now)) c.loop-place.place c.in_ok-push.ensures.items
    c.loop-place.invariant c.in_ok-number_at.ensures
