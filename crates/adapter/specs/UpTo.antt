-- States what a client gets that disconnects, or whose input has a framing fault, in terms of bytes and messages alone.
use Rattle.std.specs.Prelude.{◌≡◌, ◌++◌, ◌∷◌, [], ℕ, List, Option, Some, Ok, Err}
use Rattle.std.specs.List.{concat}
use Rattle.dap_frame.specs.Header.{FaultAt}
use Rattle.dap_frame.specs.declared.fault.FramingFault.{FramingFault}
use Rattle.dap_msg.specs.declared.command.Command.TheVariants as command
use Rattle.dap_msg.specs.declared.command.CommandName.TheVariants as name
use Rattle.dap_msg.specs.declared.command.Supported.TheVariants as supported
use Rattle.dap_msg.specs.declared.outgoing.Body.TheVariants as body
use Rattle.dap_msg.specs.declared.outgoing.Outgoing.{Outgoing}
use Rattle.dap_msg.specs.declared.outgoing.Outgoing.TheVariants.{Answer}
use Rattle.dap_msg.specs.declared.request.Dialect.{Dialect}
use Rattle.dap_msg.specs.declared.request.Request.{Request}
use Rattle.dap_history.specs.declared.fault.SessionFault.TheVariants.{Frame}
use Rattle.dap_history.specs.Output.{frames_from}
use Rattle.byte_streams.specs.Streams.{WritesAll, IsReadOf}
use Rattle.adapter.specs.declared.serving.Served.TheVariants.{Disconnected}
use Rattle.adapter.specs.declared.serving.ServeFault.TheVariants.{Session}
use Rattle.adapter.specs.AllRead.{AnswersFrames}
use Rattle.adapter.specs.Serving.{World, IsServed}

-- a request to disconnect
abbrev pub disconnect : ℕ → Option Request
disconnect seq = Some (record { seq = seq; body = command.Disconnect })

-- The last of the whole frames is the first request to disconnect, and the answer to it is the last message.
pub record AnswersToDisconnect (dialect : Dialect) (bytes : List ℕ) (messages : List Outgoing) : Type 0 where
  pub earlier : List (Option Request)
  pub seq : ℕ
  pub is_first : (front back : List (Option Request)) (other : ℕ) → ¬ (earlier ≡ front ++ disconnect other ∷ back)
  pub rest : List ℕ
  pub answers : AnswersFrames dialect bytes (earlier ++ disconnect seq ∷ []) rest messages
  pub before : List Outgoing
  pub is_last : messages ≡ before ++ Answer seq (name.Supported supported.Disconnect) (Ok body.None) ∷ []

-- The requests in the whole frames were answered; behind these frames stands this fault.
pub record AnswersToFault (fault : FramingFault) (dialect : Dialect) (bytes : List ℕ) (messages : List Outgoing)
    : Type 0 where
  pub requests : List (Option Request)
  pub rest : List ℕ
  pub answers : AnswersFrames dialect bytes requests rest messages
  pub stands : FaultAt rest fault

-- What was read of the input was answered so, and all messages were written whole.
pub record AnswersRead (Answers : List ℕ → List Outgoing → Type 0) (before after : World) : Type 0 where
  pub read : List ℕ
  pub consumed : IsReadOf read before.streams.input after.streams.input
  pub messages : List Outgoing
  pub answers : Answers read messages
  pub written : WritesAll (concat (frames_from 1 messages)) before.streams.output after.streams.output

-- Where `serve` returns that the client disconnected, what was read up to the first `disconnect` was answered, and
-- nothing after it.
abbrev pub DisconnectIsAnswered : Type 0
DisconnectIsAnswered =
    (dialect : Dialect) (before after : World) → IsServed dialect (Ok Disconnected) before after
    → AnswersRead (AnswersToDisconnect dialect) before after

-- Where `serve` returns a framing fault, what was read up to it was answered.
abbrev pub AllBeforeFaultIsAnswered : Type 0
AllBeforeFaultIsAnswered =
    (dialect : Dialect) (fault : FramingFault) (before after : World)
    → IsServed dialect (Err (Session (Frame fault))) before after
    → AnswersRead (AnswersToFault fault dialect) before after
