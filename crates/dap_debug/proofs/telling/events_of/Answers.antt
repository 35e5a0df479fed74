use Rattle.std.proofs.Common.{◌++◌, ◌∷◌, [], sym, ap, ◌∙◌, append_assoc}
use Rattle.dap_debug.proofs.Pieces.{one_told}
use Rattle.dap_debug.proofs.telling.events_of.Goals as goal

pub loop-one-preserved : goal.loop-one-preserved
loop-one-preserved c = (
  tt,
  tt,
  one_told c.loop-one.yielded c.in-Some.one _ _ c.loop-one.invariant.2 c.in_ok-tell_one.ensures,
  append_assoc c.loop-one.yielded (c.in-Some.one ∷ []) c.next.new.self.rest.items
      ∙ ap (λ l. c.loop-one.yielded ++ l) (sym c.in-Some.ensures.steps.0)
      ∙ c.loop-one.invariant.3,
)
