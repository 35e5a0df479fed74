use Rattle.std.proofs.Common.{◌++◌, ◌∷◌, [], sym, ap, ◌∙◌, append_assoc}
use Rattle.dap_debug.proofs.Merging.{one_text}
use Rattle.dap_debug.proofs.telling.merged.Goals as goal

pub loop-one-preserved : goal.loop-one-preserved
loop-one-preserved c = (
  tt,
  tt,
  one_text c.loop-one.yielded c.loop-one.texts.items c.add.new.texts.items c.in-Some.one c.loop-one.invariant.2
      c.in_ok-add.ensures,
  append_assoc c.loop-one.yielded (c.in-Some.one ∷ []) c.next.new.self.rest.items
      ∙ ap (λ l. c.loop-one.yielded ++ l) (sym c.in-Some.ensures.steps.0)
      ∙ c.loop-one.invariant.3,
)
