-- Defines what went through an outbox, as plain data.
use Rattle.std.specs.Prelude.{◌≡◌, ℕ, None, List, map, [], ◌∷◌, ◌++◌}
use Rattle.dap_wires.specs.declared.writer_message.WriterMessage.{WriterMessage}
use Rattle.dap_wires.specs.declared.frame_ends.FrameSender.{FrameSender}
use Rattle.dap_wires.specs.declared.frame_ends.EndedSender.{EndedSender}
use Rattle.dap_wires.specs.declared.frame_ends.FrameReceiver.{FrameReceiver}
use Rattle.dap_wires.specs.declared.frame_ends.OutboxLog.{OutboxLog}
use Rattle.dap_wires.specs.declared.writer_end.WriterEnd.{WriterEnd}
use Rattle.dap_wires.specs.Ends.{QueueId, sender_log, sender_queue, receiver_log, receiver_queue, receive_log, receive_log_queue}
use Rattle.dap_wires.specs.WriterMessages.{frames_in, kept_in}
use Rattle.dap_session.specs.Ports.{Written}

-- one more frame was put
abbrev pub with_frame : Written → List ℕ → Written
with_frame seen frame = record seen { frames = seen.frames ++ frame ∷ [] }

module _ {R : Type 0} where
  -- the frames that the session put, in the queue or kept, and those that were refused
  abbrev pub put_frames : FrameSender R → Written
  put_frames e =
      record {
        frames = frames_in ((sender_log e.end).put_first ++ kept_in e.kept);
        refused = map (λ frame. frame.items) e.refused.entries;
      }

  -- none of the frames that were put is kept
  abbrev pub keeps_none : FrameSender R → Type 0
  keeps_none e = e.kept ≡ None

  -- which queue an end belongs to
  abbrev pub frame_queue : FrameSender R → QueueId WriterMessage
  frame_queue e = sender_queue e.end

  -- all that was put until the session ended, with `End` where that was put
  abbrev pub messages_put : EndedSender R → List WriterMessage
  messages_put e = (sender_log e.end).put_first ++ kept_in e.kept

  -- which queue the end belongs to when no more is put
  abbrev pub ended_queue : EndedSender R → QueueId WriterMessage
  ended_queue e = sender_queue e.end

  -- what the writer took
  abbrev pub messages_taken : FrameReceiver R → List WriterMessage
  messages_taken e = (receiver_log e.end).taken

  -- which queue the writer's end belongs to
  abbrev pub writer_queue : FrameReceiver R → QueueId WriterMessage
  writer_queue e = receiver_queue e.end

  module _ {O : Type 0} where
    -- what the writer of one output took, which queue that is, and the output as it was when nothing was taken yet
    abbrev pub end_taken : WriterEnd O R → List WriterMessage
    end_taken e = messages_taken e.outbox

    abbrev pub end_queue : WriterEnd O R → QueueId WriterMessage
    end_queue e = writer_queue e.outbox

    abbrev pub end_first : WriterEnd O R → O
    end_first e = e.first.value

-- what the writer received from an outbox that it has left, and which queue that is
abbrev pub messages_received : OutboxLog → List WriterMessage
messages_received r = (receive_log r.log).taken

abbrev pub received_queue : OutboxLog → QueueId WriterMessage
received_queue r = receive_log_queue r.log
