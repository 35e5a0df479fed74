use Rattle.pl0_tool.proofs.Common.{ap, is_begun, option_map_or, position, ◌+◌, ◌∙◌}
use Rattle.pl0_tool.proofs.drawing.behind.Goals as goal

pub returns-in-Some : goal.returns-in-Some
returns-in-Some c =
    ap (λ o. option_map_or (λ a. a + 1) o 0)
    (c.in-Some.ensures ∙ ap (position (is_begun c.args.step)) c.deref.ensures.value)

pub returns-in-None : goal.returns-in-None
returns-in-None c =
    ap (λ o. option_map_or (λ a. a + 1) o 0)
    (c.in-None.ensures ∙ ap (position (is_begun c.args.step)) c.deref.ensures.value)
