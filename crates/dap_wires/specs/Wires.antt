-- Defines what is known of all queues between the threads before anything went through them.
use Rattle.std.specs.Prelude.{◌≡◌, []}
use Rattle.dap_wires.specs.Inbox.{client_events, client_queue, sent_reports, refused_reports, report_queue, taken_events, event_queue}
use Rattle.dap_wires.specs.Orders.{pushed_orders, push_queue, taken_orders, pop_queue}
use Rattle.dap_wires.specs.Outbox.{put_frames, keeps_none, frame_queue, messages_taken, writer_queue}
use Rattle.dap_wires.specs.declared.wires.Wires.{Wires}

-- Nothing went through the queues.
pub record AreUnused {R : Type 0} (w : Wires R) : Type 0 where
  pub client : client_events w.client ≡ []
  pub reports : sent_reports w.reports ≡ []
  pub refused : refused_reports w.reports ≡ []
  pub events : taken_events w.events ≡ []
  pub frames : put_frames w.frames ≡ record { frames = []; refused = [] }
  pub none_kept : keeps_none w.frames
  pub messages : messages_taken w.messages ≡ []
  pub pushed : pushed_orders w.pushed ≡ record { orders = []; fulls = 0; refusals = 0 }
  pub taken : taken_orders w.taken ≡ []

-- The ends are those of one inbox, of one outbox and of one queue of orders.
pub record AreJoined {R : Type 0} (w : Wires R) : Type 0 where
  pub reports : report_queue w.reports ≡ client_queue w.client
  pub events : event_queue w.events ≡ client_queue w.client
  pub messages : writer_queue w.messages ≡ frame_queue w.frames
  pub orders : pop_queue w.taken ≡ push_queue w.pushed
