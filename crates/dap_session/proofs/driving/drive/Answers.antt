use Rattle.std.proofs.Common.{refl, ap, ◌∙◌, option_map}
use Rattle.std.specs.Prelude.{string_bytes}
use Rattle.dap_session.proofs.Driven.{way_begins, way_goes_on, way_closes, way_fails, way_owes, of_wanted, not_open_ended}
use Rattle.dap_session.proofs.driving.drive.Goals as goal

pub loop-init : goal.loop-init
loop-init g c =
    (refl, refl, refl, refl, λ dialect stands. way_begins dialect c.new-session.result _ _ stands, λ none. none)

pub loop-preserved-in-Ok-Event : goal.loop-preserved-in-Ok-Event
loop-preserved-in-Ok-Event g c = (
  c.next_event-event.ensures.origin ∙ c.loop.invariant.0,
  c.next_event-event.ensures.loader ∙ c.loop.invariant.1,
  c.take.ensures.out ∙ c.loop.invariant.2,
  c.take.ensures.orders ∙ c.loop.invariant.3,
  λ dialect stands.
      let way = c.loop.invariant.4 dialect stands in
      rw c.in-Ok-Event.field-0-is at (way_goes_on dialect c.loop.session c.take.new.self _
      c.in-Ok-Event.field-0 _ _ _ _ _ _ _
      way c.next_event-event.ensures.from c.next_event-event.ensures.lawful
      (c.in-Ok-Event.ensures.takes way.open_ended)
      (λ e. let f = c.in-Ok-Event.field-0-is in cc)),
  λ none. c.in-Ok-Event.ensures.passed (c.loop.invariant.5 none),
)

pub loop-preserved : goal.loop-preserved
loop-preserved g c = (
  c.next_event-event.ensures.origin ∙ c.loop.invariant.0,
  c.next_event-event.ensures.loader ∙ c.loop.invariant.1,
  c.take.ensures.out ∙ c.loop.invariant.2,
  c.take.ensures.orders ∙ c.loop.invariant.3,
  λ dialect stands.
      let way = c.loop.invariant.4 dialect stands in
      rw c.in-Ok-File.field-0-is at (way_goes_on dialect c.loop.session c.take.new.self _
      c.in-Ok-File.field-0 _ _ _ _ _ _ _
      way c.next_event-event.ensures.from c.next_event-event.ensures.lawful
      (c.in-Ok-File.ensures.takes way.open_ended)
      (λ e. let f = c.in-Ok-File.field-0-is in cc)),
  λ none. c.in-Ok-File.ensures.passed (c.loop.invariant.5 none),
)

pub returns-in-Some-closed-clause-driven : goal.returns-in-Some-closed-clause-driven
returns-in-Some-closed-clause-driven g c =
    let way = c.loop.invariant.4 c.args.dialect c.new-session.ensures in
    way_closes c.args.dialect c.loop.session c.take.new.self _ c.in-Ok-Closed.field-0 _ _ _
    _ _ _ _ c.in-Some-closed.closed
    way c.next_event-event.ensures.from c.next_event-event.ensures.lawful
    (c.in-Ok-Closed.ensures.takes way.open_ended)
    c.in-Some-closed.ensures

pub returns-in-Some-closed-clause-passed : goal.returns-in-Some-closed-clause-passed
returns-in-Some-closed-clause-passed g c none = c.in-Ok-Closed.ensures.passed (c.loop.invariant.5 none)

pub unreachable-requires : goal.unreachable-requires
unreachable-requires g c =
    let way = c.loop.invariant.4 c.args.dialect c.new-session.ensures in
    not_open_ended c.take.new.self c.take.new.self.ending c.in-Ok-Closed.field-0 refl c.in-Ok-Closed.field-0-is
    ((c.in-Ok-Closed.ensures.takes way.open_ended).comes c.args.dialect way.events way.past way.stands).wants
    c.in-None-closed.ensures

pub returns-in-Err-clause-driven : goal.returns-in-Err-clause-driven
returns-in-Err-clause-driven g c =
    let way = c.loop.invariant.4 c.args.dialect c.new-session.ensures in
    way_fails c.args.dialect c.loop.session c.take.new.self _ c.in-Err.fault _ _ _ _ _ _ _
    _ way c.next_event-event.ensures.from c.next_event-event.ensures.lawful
    (c.in-Err.ensures.takes way.open_ended)
    (record { frames_are = refl; refused_are = refl; quit = c.try_quit.ensures.quit })

pub next_event-event-requires : goal.next_event-event-requires
next_event-event-requires g c =
    let known = c.requires (option_map (λ path. string_bytes path) c.loop.wanted)
    c.loop.inbox c.loop.loader c.loop.out c.loop.orders
    (way_owes (c.loop.invariant.4 c.args.dialect c.new-session.ensures))
    c.loop.invariant.0 c.loop.invariant.1 c.loop.invariant.2 c.loop.invariant.3 c.loop.invariant.5 in record {
      asks = λ none. known.0 (ap (option_map (λ path. string_bytes path)) none);
      loads = of_wanted (λ path. string_bytes path)
          (λ file. g.L.GuardedLoader.may_load c.loop.loader file c.loop.inbox c.loop.out c.loop.orders)
          c.loop.wanted known.1;
    }
