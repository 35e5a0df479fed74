-- States what the output took, however serving ended, in terms of bytes and of one history.
use Rattle.std.specs.Prelude.{ℕ, List, Result}
use Rattle.std.specs.List.{concat}
use Rattle.dap_msg.specs.declared.request.Dialect.{Dialect}
use Rattle.dap_history.specs.declared.ending.Closed.{Closed}
use Rattle.dap_history.specs.declared.fault.SessionFault.{SessionFault}
use Rattle.dap_history.specs.History.{History, messages_of}
use Rattle.dap_history.specs.Events.{Incoming}
use Rattle.dap_history.specs.Laws.{stream_of}
use Rattle.dap_history.specs.Output.{frames_from}
use Rattle.dap_session.specs.Laws.{IsReached}
use Rattle.dap_session.specs.Sending.{IsPrefixOf}
use Rattle.byte_streams.specs.Streams.{Appends, IsReadOf}
use Rattle.byte_streams.specs.declared.writing.WriteFailed.{WriteFailed}
use Rattle.adapter.specs.Serving.{World, TasksEnd}

-- The pieces among the events are a prefix of what was read. A session with these events reached a history, and what
-- was written is a prefix of the frames of its messages, numbered 1, 2, 3 and so on.
pub record TakesOfHistory (dialect : Dialect) (events : List Incoming) (before after : World) : Type 0 where
  pub read : List ℕ
  pub consumed : IsReadOf read before.streams.input after.streams.input
  pub begins : IsPrefixOf (stream_of events) read
  pub reached : History
  pub is_reached : IsReached dialect events reached
  pub written : List ℕ
  pub appended : Appends before.streams.output.written after.streams.output.written written
  pub part : IsPrefixOf written (concat (frames_from 1 (messages_of reached)))

-- However session, reader, runner and writer ended, what was written is of the history that the session reached.
abbrev pub OutputIsOfHistory : Type 0
OutputIsOfHistory =
    (dialect : Dialect) (wrote : Result (Unit {0}) WriteFailed) (result : Result Closed SessionFault)
    (before after : World) → (driven : TasksEnd dialect wrote result before after)
    → TakesOfHistory dialect driven.session.events before after
