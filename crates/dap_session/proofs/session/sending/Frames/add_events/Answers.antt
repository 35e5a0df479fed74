use Rattle.std.proofs.Common.{◌++◌, ◌∷◌, [], sym, ap, ◌∙◌, append_assoc}
use Rattle.dap_session.proofs.Building.{adds_event}
use Rattle.dap_session.proofs.session.sending.Frames.add_events.Goals as goal

pub loop-event-preserved-in_ok-add-7 : goal.loop-event-preserved-in_ok-add-7
loop-event-preserved-in_ok-add-7 c = (
  tt,
  tt,
  adds_event c.loop-event.yielded c.in-Some.event c.args.self.now c.loop-event.self c.add.new.self
      c.loop-event.invariant.2 c.in_ok-add.ensures.ok,
  append_assoc c.loop-event.yielded (c.in-Some.event ∷ []) c.next.new.self.rest.items
      ∙ ap (λ l. c.loop-event.yielded ++ l) (sym c.in-Some.ensures.steps.0)
      ∙ c.loop-event.invariant.3,
)

pub loop-event-preserved-in_ok-add-8 : goal.loop-event-preserved-in_ok-add-8
loop-event-preserved-in_ok-add-8 c = (
  tt,
  tt,
  adds_event c.loop-event.yielded c.in-Some.event c.args.self.now c.loop-event.self c.add.new.self
      c.loop-event.invariant.2 c.in_ok-add.ensures.ok,
  append_assoc c.loop-event.yielded (c.in-Some.event ∷ []) c.next.new.self.rest.items
      ∙ ap (λ l. c.loop-event.yielded ++ l) (sym c.in-Some.ensures.steps.0)
      ∙ c.loop-event.invariant.3,
)

pub loop-event-preserved-in_ok-add-9 : goal.loop-event-preserved-in_ok-add-9
loop-event-preserved-in_ok-add-9 c = (
  tt,
  tt,
  adds_event c.loop-event.yielded c.in-Some.event c.args.self.now c.loop-event.self c.add.new.self
      c.loop-event.invariant.2 c.in_ok-add.ensures.ok,
  append_assoc c.loop-event.yielded (c.in-Some.event ∷ []) c.next.new.self.rest.items
      ∙ ap (λ l. c.loop-event.yielded ++ l) (sym c.in-Some.ensures.steps.0)
      ∙ c.loop-event.invariant.3,
)

pub loop-event-preserved : goal.loop-event-preserved
loop-event-preserved c = (
  tt,
  tt,
  adds_event c.loop-event.yielded c.in-Some.event c.args.self.now c.loop-event.self c.add.new.self
      c.loop-event.invariant.2 c.in_ok-add.ensures.ok,
  append_assoc c.loop-event.yielded (c.in-Some.event ∷ []) c.next.new.self.rest.items
      ∙ ap (λ l. c.loop-event.yielded ++ l) (sym c.in-Some.ensures.steps.0)
      ∙ c.loop-event.invariant.3,
)
