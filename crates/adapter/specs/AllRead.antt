-- States what a client gets where its input ends or a read of it fails, in terms of bytes and messages alone.
use Rattle.std.specs.Prelude.{◌≡◌, ◌≢◌, ◌<◌, ℕ, true, List, Option, None, Some, Result}
use Rattle.std.specs.List.{concat, filter_map}
use Rattle.dap_frame.specs.Frame.{Frames, IsOpen}
use Rattle.dap_msg.specs.Commands.{name_of}
use Rattle.dap_msg.specs.declared.command.CommandName.{CommandName}
use Rattle.dap_msg.specs.declared.outgoing.Outgoing.{Outgoing}
use Rattle.dap_msg.specs.declared.request.Dialect.{Dialect}
use Rattle.dap_msg.specs.declared.request.Request.{Request}
use Rattle.dap_history.specs.declared.ending.Closed.{Closed}
use Rattle.dap_history.specs.declared.ending.Closed.TheVariants as closed
use Rattle.dap_history.specs.Laws.{AreReadAs, answered_request}
use Rattle.dap_history.specs.Output.{frames_from}
use Rattle.byte_streams.specs.Streams.{Supply, WritesAll, IsReadOf}
use Rattle.adapter.specs.declared.serving.Served.{Served}
use Rattle.adapter.specs.declared.serving.ServeFault.{ServeFault}
use Rattle.adapter.specs.Laws.{closed_of}
use Rattle.adapter.specs.Serving.{World, IsServed}

-- the seq and the command of a content, if it is a request
abbrev pub asked : Option Request → Option (ℕ × CommandName)
asked None = None
asked (Some request) = Some (request.seq, name_of request.body)

-- The bytes are whole frames, whose contents are read as these, and then the rest. The answers among the messages are,
-- in order, one for each request among the contents, under its own seq and command.
pub record AnswersFrames (dialect : Dialect) (bytes : List ℕ) (requests : List (Option Request)) (rest : List ℕ)
    (messages : List Outgoing) : Type 0 where
  pub contents : List (List ℕ)
  pub frames : Frames bytes contents rest
  pub read : AreReadAs dialect contents requests
  pub answers : filter_map answered_request messages ≡ filter_map asked requests

-- The requests in the whole frames were answered; behind these frames stands less than one.
pub record AnswersAll (dialect : Dialect) (bytes : List ℕ) (messages : List Outgoing) : Type 0 where
  pub requests : List (Option Request)
  pub rest : List ℕ
  pub answers : AnswersFrames dialect bytes requests rest messages
  pub unfinished : IsOpen rest

-- a read found the end, or a read failed
abbrev pub ClosesBy : Closed → Supply → Supply → Type 0
ClosesBy closed.Disconnected old later = ⊥
ClosesBy closed.InputEnded old later = later.ended ≡ true
ClosesBy closed.ReadFailed old later = old.failures < later.failures

-- All that was read of the input, up to what closed the session, was answered, and all messages were written whole.
pub record AnswersAllRead (dialect : Dialect) (by : Closed) (before after : World) : Type 0 where
  pub read : List ℕ
  pub consumed : IsReadOf read before.streams.input after.streams.input
  pub ends : ClosesBy by before.streams.input after.streams.input
  pub messages : List Outgoing
  pub answers : AnswersAll dialect read messages
  pub written : WritesAll (concat (frames_from 1 messages)) before.streams.output after.streams.output

-- Where `serve` returns that the input ended or a read failed, all that was read before was answered.
abbrev pub AllReadIsAnswered : Type 0
AllReadIsAnswered =
    (dialect : Dialect) (outcome : Result Served ServeFault) (by : Closed) (before after : World)
    → IsServed dialect outcome before after → closed_of outcome ≡ Some by → by ≢ closed.Disconnected
    → AnswersAllRead dialect by before after
