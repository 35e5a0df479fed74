-- States of the ends of the queues themselves what `Waiting` states: where each end waits and the queues are empty,
-- nothing is left to do.
use Rattle.std.specs.Prelude.{◌≡◌, ℕ, [], List}
use Rattle.std.specs.List.{flat_map}
use Rattle.byte_streams.specs.Streams.{Supply, Output, IsOfWhole}
use Rattle.dap_history.specs.Interleaving.{Load}
use Rattle.dap_session.specs.Coming.{sources}
use Rattle.dap_session.specs.Ports.{ports}
use Rattle.dap_session.specs.Serving.{OwesNothing}
use Rattle.dbg_runner.specs.Queues.{order_in, sent_in}
use Rattle.dbg_runner.specs.Runner.{Act, Idle, DoesAll}
use Rattle.dap_wires.specs.declared.event_ends.ClientSender.{ClientSender}
use Rattle.dap_wires.specs.declared.event_ends.ReportSender.{ReportSender}
use Rattle.dap_wires.specs.declared.frame_ends.FrameSender.{FrameSender}
use Rattle.dap_wires.specs.declared.order_ends.OrderReceiver.{OrderReceiver}
use Rattle.dap_wires.specs.declared.order_ends.OrderSender.{OrderSender}
use Rattle.dap_wires.specs.declared.session_inbox.SessionInbox.{SessionInbox}
use Rattle.dap_wires.specs.declared.writer_end.WriterEnd.{WriterEnd}
use Rattle.dap_wires.specs.Delivery.{of_first, of_second}
use Rattle.dap_wires.specs.Ends.{sender_log, receiver_log}
use Rattle.dap_wires.specs.Inbox.{client_events, returned_events, sent_reports, session_events, ungiven_reports}
use Rattle.dap_wires.specs.Orders.{pushed_orders, taken_orders}
use Rattle.dap_wires.specs.Outbox.{put_frames, keeps_none, end_taken}
use Rattle.dap_wires.specs.Reading.{HasSentAll}
use Rattle.dap_wires.specs.Senders.{is_by_runner}
use Rattle.dap_wires.specs.Writing.{OwesNothing as WriterOwesNothing}
use Rattle.adapter.specs.Serving.{nothing_sent, world, streams}
use Rattle.adapter.specs.Waiting.{NothingIsLeft}

-- The ends of the queues, and what the threads work on, at one moment.
pub record Ends (I O L R : Type 0) : Type 0 where
  pub client : ClientSender R
  pub reports : ReportSender R
  pub taken : OrderReceiver R
  pub inbox : SessionInbox L (FrameSender R) (OrderSender R) R
  pub frames : FrameSender R
  pub pushed : OrderSender R
  pub writer : WriterEnd O R
  pub input : I
  pub output : O
  pub loader : L

module _ {I O L : Type 0} (R : Type 0) (supply_of : I → Supply) (output_of : O → Output)
    (loaded_of : L → List Load) where
  -- Nothing is inside: of each sender, what it put is what was taken.
  pub record QueuesAreEmpty (e : Ends I O L R) : Type 0 where
    pub inbox_first :
        (sender_log e.client.end).put_first ≡ of_first is_by_runner (receiver_log e.inbox.events.end).taken
    pub inbox_second :
        (sender_log e.reports.end).put_second ≡ of_second is_by_runner (receiver_log e.inbox.events.end).taken
    pub outbox : (sender_log e.frames.end).put_first ≡ end_taken e.writer
    pub orders : taken_orders e.taken ≡ (pushed_orders e.pushed).orders

  -- Each end is shown what it requires where it waits: `EventReceiver::receive` and `SessionInbox::next`; the input of
  -- `read_loop`; the ports of `work`; `WriterEnd::receive`. Nothing had gone through the queues when all began, with
  -- this input.
  pub record EachWaits (begin : I) (e : Ends I O L R) : Type 0 where
    pub given : ungiven_reports e.inbox.events ≡ []
    pub session :
        OwesNothing e.inbox.dialect (sources [] (loaded_of e.inbox.loader.value))
        (sources (session_events e.inbox) (loaded_of e.loader)) nothing_sent
        (ports (put_frames e.frames) (pushed_orders e.pushed))
    pub passed : keeps_none e.frames
    pub reader :
        HasSentAll [] (client_events e.client) [] (returned_events e.client) (supply_of begin) (supply_of e.input)
    pub of_whole : ∥ IsOfWhole (supply_of e.input) ∥₁
    pub acts : List Act
    pub runner : DoesAll Idle acts Idle
    pub orders : taken_orders e.taken ≡ flat_map order_in acts
    pub reports : sent_reports e.reports ≡ flat_map sent_in acts
    pub writer :
        WriterOwesNothing (end_taken e.writer) (output_of e.writer.first.value) (output_of e.output)

  -- Where each end waits and the queues are empty, nothing is left to do.
  abbrev pub WaitingEndsOweNothing : Type 0
  WaitingEndsOweNothing =
      (begin : I) (e : Ends I O L R) → EachWaits begin e → QueuesAreEmpty e
      → NothingIsLeft e.inbox.dialect
      (world (loaded_of e.inbox.loader.value) [] (streams (supply_of begin) (output_of e.writer.first.value)))
      (world (loaded_of e.loader) [] (streams (supply_of e.input) (output_of e.output)))
