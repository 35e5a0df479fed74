-- Defines what went through an inbox, as plain data.
use Rattle.std.specs.Prelude.{ℕ, List, map, ◌++◌}
use Rattle.std.specs.List.{flat_map}
use Rattle.std.specs.VecDeque.{deque_len}
use Rattle.dap_msg.specs.declared.request.Dialect.{Dialect}
use Rattle.dap_session.specs.Incoming.{incoming_of}
use Rattle.dap_history.specs.Events.{Incoming}
use Rattle.dbg_runner.specs.Plain.{PlainReport}
use Rattle.dbg_runner.specs.Reported.{Reported, plain_report}
use Rattle.dap_wires.specs.declared.arrival.Arrival.{Arrival}
use Rattle.dap_wires.specs.declared.event_ends.ClientSender.{ClientSender}
use Rattle.dap_wires.specs.declared.event_ends.ReportSender.{ReportSender}
use Rattle.dap_wires.specs.declared.event_receiver.EventReceiver.{EventReceiver}
use Rattle.dap_wires.specs.declared.event_ends.InboxLog.{InboxLog}
use Rattle.dap_wires.specs.declared.session_inbox.SessionInbox.{SessionInbox}
use Rattle.dap_wires.specs.Ends.{QueueId, sender_log, sender_queue, receiver_queue, receive_log_queue}
use Rattle.dap_wires.specs.Senders.{events_in, reports_among}

-- the events in these messages of the queue
abbrev pub came : List Arrival → List Incoming
came arrivals = map incoming_of (flat_map events_in arrivals)

module _ {R : Type 0} where
  -- what the reader sent
  abbrev pub client_events : ClientSender R → List Incoming
  client_events e = came (sender_log e.end).put_first

  -- the events that were handed back to the reader
  abbrev pub returned_events : ClientSender R → List Incoming
  returned_events e = map incoming_of e.handed_back.entries

  -- the reports that the runner put into the queue
  abbrev pub put_reports : ReportSender R → List PlainReport
  put_reports e = reports_among (came (sender_log e.end).put_second)

  -- the reports that the runner sent: those that it put into the queue, and then those that are kept
  abbrev pub sent_reports : ReportSender R → List PlainReport
  sent_reports e = put_reports e ++ map plain_report e.kept.items

  -- how many of them are kept
  abbrev pub kept_count : ReportSender R → ℕ
  kept_count e = deque_len e.kept

  -- the reports that were handed back to the runner
  abbrev pub refused_reports : ReportSender R → List PlainReport
  refused_reports e = map plain_report e.handed_back.entries

  -- what the session received
  abbrev pub taken_events : EventReceiver R → List Incoming
  taken_events e = map incoming_of e.given.entries

  -- the reports that were taken from the queue and aren't given to the session yet
  abbrev pub ungiven_reports : EventReceiver R → List Reported
  ungiven_reports e = e.rest.items

  -- which queue an end belongs to
  abbrev pub client_queue : ClientSender R → QueueId Arrival
  client_queue e = sender_queue e.end

  abbrev pub report_queue : ReportSender R → QueueId Arrival
  report_queue e = sender_queue e.end

  abbrev pub event_queue : EventReceiver R → QueueId Arrival
  event_queue e = receiver_queue e.end

-- what underlies the inbox of one session: the queue, the client's dialect, and the loader and the sending ports as
-- they were at first
abbrev pub SessionOrigin : Type 0 → Type 0 → Type 0 → Type 0
SessionOrigin L O D = QueueId Arrival × Dialect × L × O × D

module _ {L O D R : Type 0} where
  -- what the session of this inbox received
  abbrev pub session_events : SessionInbox L O D R → List Incoming
  session_events e = taken_events e.events

  abbrev pub session_origin : SessionInbox L O D R → SessionOrigin L O D
  session_origin e = (event_queue e.events, e.dialect, e.loader.value, e.out.value, e.orders.value)

-- what the session received from an inbox that it has left, and which queue that is of
abbrev pub received : InboxLog → List Incoming
received r = map incoming_of r.given.entries

abbrev pub left_queue : InboxLog → QueueId Arrival
left_queue r = receive_log_queue r.log
