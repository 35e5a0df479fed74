use Rattle.std.proofs.Common.{◌≡◌, [], sym, subst, ◌∙◌}
use Rattle.dap_session.specs.Coming.{sources}
use Rattle.dap_session.specs.Ports.{ports}
use Rattle.dap_session.specs.Serving.{OwesOnly, OwesNothing}
use Rattle.dap_wires.specs.Inbox.{SessionOrigin, session_events}
use Rattle.dap_wires.specs.Orders.{pushed_orders, push_queue}
use Rattle.dap_wires.specs.Outbox.{put_frames, keeps_none, frame_queue}
use Rattle.adapter.proofs.rights.AnyDrives.drive_over.Goals as goal

pub drive-requires : goal.drive-requires
drive-requires g c path i l o d owes inbox loader out orders kept = (
  λ none.
      let now = sources (session_events i) (g.L.Loader.loaded l) in
      let later = ports (put_frames o) (pushed_orders d) in
      let begin = c.args in
      subst
      (λ (at : SessionOrigin _ _ _). OwesNothing at.1 (sources [] (g.L.Loader.loaded at.2)) now
      (ports (put_frames at.3) (pushed_orders at.4)) later
      × (g.L.Loader.origin l ≡ g.L.Loader.origin at.2) × (frame_queue o ≡ frame_queue at.3)
      × (push_queue d ≡ push_queue at.4) × keeps_none o)
      (sym (inbox ∙ c.requires.2)) (
        subst (λ given. OwesNothing begin.dialect (sources given (g.L.Loader.loaded begin.loader.now)) now
            (ports (put_frames begin.outbox.now) (pushed_orders begin.orders.now)) later) c.requires.0
            (subst (λ p. OwesOnly begin.dialect p
            (sources (session_events begin.inbox.now) (g.L.Loader.loaded begin.loader.now))
            now (ports (put_frames begin.outbox.now) (pushed_orders begin.orders.now)) later) none owes),
        loader,
        out,
        orders,
        kept c.requires.1,
      ),
  λ file is. tt,
)
