-- States what a message's value says, member by member, in the words of the Debug Adapter Protocol. Profile: the one
-- thread, the texts of refusals, and the category of what is shown.
use Rattle.std.specs.Prelude.{◌≡◌, ◌++◌, ℕ, suc, true, false, List, codes, Option, None, Some, Result, Ok, Err}
use Rattle.std.specs.Fmt.{decimal, signed_decimal}
use Rattle.serde_json.specs.Data.{Data, boolean, number, unsigned, string, array, object, no_items, item, no_members}
use Rattle.serde_json.specs.Find.{get}
use Rattle.dap_msg.specs.Commands.{name_text}
use Rattle.dap_msg.specs.Members.{Has, HasEach, HasOnly}
use Rattle.dap_msg.specs.Questions.{SaysShown}
use Rattle.dap_msg.specs.declared.outgoing.Outgoing.{Outgoing}
use Rattle.dap_msg.specs.declared.outgoing.Outgoing.TheVariants.{Answer, Event}
use Rattle.dap_msg.specs.declared.outgoing.Body.{Body}
use Rattle.dap_msg.specs.declared.outgoing.Body.TheVariants as body
use Rattle.dap_msg.specs.declared.outgoing.BreakpointAnswer.{BreakpointAnswer}
use Rattle.dap_msg.specs.declared.outgoing.BreakpointAnswer.TheVariants.{At, Unverified}
use Rattle.dap_msg.specs.declared.outgoing.BreakpointRefusal.{BreakpointRefusal}
use Rattle.dap_msg.specs.declared.outgoing.BreakpointRefusal.TheVariants as unset
use Rattle.dap_msg.specs.declared.outgoing.EventBody.{EventBody}
use Rattle.dap_msg.specs.declared.outgoing.EventBody.TheVariants as event
use Rattle.dap_msg.specs.declared.outgoing.Exception.{Exception}
use Rattle.dap_msg.specs.declared.outgoing.Exception.TheVariants as exception
use Rattle.dap_msg.specs.declared.outgoing.Refusal.{Refusal}
use Rattle.dap_msg.specs.declared.outgoing.Refusal.TheVariants as refusal
use Rattle.dap_msg.specs.declared.outgoing.StopReason.{StopReason}
use Rattle.dap_msg.specs.declared.outgoing.StopReason.TheVariants as reason

-- ---- responses

-- the text of the member `message` says why the request is refused
abbrev pub SaysRefusal : Refusal → List ℕ → Type 0
SaysRefusal refusal.Unsupported message = message ≡ codes "unsupported"
SaysRefusal refusal.BadArguments message = message ≡ codes "badArguments"
SaysRefusal refusal.WrongPhase message = message ≡ codes "wrongPhase"
SaysRefusal refusal.NotStopped message = message ≡ codes "notStopped"
SaysRefusal refusal.UnknownThread message = message ≡ codes "unknownThread"
SaysRefusal refusal.UnknownFrame message = message ≡ codes "unknownFrame"
SaysRefusal refusal.UnknownReference message = message ≡ codes "unknownReference"
SaysRefusal refusal.BadExpression message = message ≡ codes "badExpression"
SaysRefusal refusal.Overflow message = message ≡ codes "overflow"
SaysRefusal refusal.DivideByZero message = message ≡ codes "divideByZero"
SaysRefusal refusal.CannotRead message = message ≡ codes "cannotRead"
SaysRefusal (refusal.Syntax fault line column) message =
    message ≡ codes "syntax " ++ decimal fault ++ codes " " ++ decimal line ++ codes " " ++ decimal column

-- the text of the member `message` says why a breakpoint isn't set
abbrev pub SaysUnset : BreakpointRefusal → List ℕ → Type 0
SaysUnset unset.OtherSource message = message ≡ codes "otherSource"
SaysUnset unset.NoStep message = message ≡ codes "noStep"
SaysUnset unset.BadCondition message = message ≡ codes "badCondition"
SaysUnset unset.BadHitCondition message = message ≡ codes "badHitCondition"
SaysUnset unset.BadLogMessage message = message ≡ codes "badLogMessage"

-- the protocol's Capabilities
pub record SaysCapabilities (said : Option Data) : Type 0 where
  pub conditions : Has (codes "supportsConditionalBreakpoints") (boolean true) said
  pub configuration : Has (codes "supportsConfigurationDoneRequest") (boolean true) said
  pub hit_conditions : Has (codes "supportsHitConditionalBreakpoints") (boolean true) said
  pub log_points : Has (codes "supportsLogPoints") (boolean true) said
  pub step_back : Has (codes "supportsStepBack") (boolean true) said
  pub no_more : HasOnly 5 said

-- the protocol's Breakpoint
abbrev pub SaysBreakpoint : BreakpointAnswer → Data → Type 0
SaysBreakpoint (At line) d =
    Has (codes "verified") (boolean true) (Some d) × Has (codes "line") (number (unsigned line)) (Some d)
    × HasOnly 2 (Some d)
SaysBreakpoint (Unverified why) d =
    Has (codes "verified") (boolean false) (Some d)
    × ((message : List ℕ) × Has (codes "message") (string message) (Some d) × SaysUnset why message)
    × HasOnly 2 (Some d)

-- the protocol's Thread, for the one there is
abbrev pub SaysThread : Data → Type 0
SaysThread d =
    Has (codes "id") (number (unsigned 1)) (Some d) × Has (codes "name") (string (codes "main")) (Some d)
    × HasOnly 2 (Some d)

-- The body of a response says this. What an answer to a question says stands in the file of that question:
-- `StackTrace`, `Scopes`, `Variables` or `Evaluate`.
abbrev pub SaysBody : Body → Option Data → Type 0
SaysBody body.None said = said ≡ None
SaysBody body.Capabilities said = SaysCapabilities said
SaysBody (body.Breakpoints answers) said = HasEach SaysBreakpoint (codes "breakpoints") answers said × HasOnly 1 said
SaysBody body.Threads said =
    ((thread : Data) × Has (codes "threads") (array (item thread no_items)) said × SaysThread thread) × HasOnly 1 said
SaysBody body.Continued said = Has (codes "allThreadsContinued") (boolean true) said × HasOnly 1 said
SaysBody (body.Shown shown) said = SaysShown shown said

-- the message has this many members, a body where there is one, and no others
abbrev pub HasNoMore : ℕ → Data → Option Data → Type 0
HasNoMore n d None = HasOnly n (Some d)
HasNoMore n d (Some body) = HasOnly (suc n) (Some d)

-- the response says what came of the request: its body, and no message; or why it is refused, with an empty body
abbrev pub SaysResult : Result Body Refusal → Data → Type 0
SaysResult (Ok b) d =
    (get (codes "success") d ≡ Some (boolean true)) × SaysBody b (get (codes "body") d)
    × (get (codes "message") d ≡ None) × HasNoMore 5 d (get (codes "body") d)
SaysResult (Err why) d =
    (get (codes "success") d ≡ Some (boolean false)) × (get (codes "body") d ≡ Some (object no_members))
    × ((message : List ℕ) × (get (codes "message") d ≡ Some (string message)) × SaysRefusal why message)
    × HasOnly 7 (Some d)

-- ---- events

-- the event has this name
abbrev pub IsNamed : List ℕ → Data → Type 0
IsNamed name d = get (codes "event") d ≡ Some (string name)

-- the text says this fault of the next step
abbrev pub SaysException : Exception → Option Data → Type 0
SaysException exception.Overflow said = Has (codes "text") (string (codes "overflow")) said
SaysException exception.DivideByZero said = Has (codes "text") (string (codes "divideByZero")) said
SaysException exception.Depth said = Has (codes "text") (string (codes "depth")) said
SaysException exception.StepLimit said = Has (codes "text") (string (codes "stepLimit")) said

-- the body says why the program stopped, and at a fault which one
abbrev pub SaysReason : StopReason → Option Data → Type 0
SaysReason reason.Breakpoint said = Has (codes "reason") (string (codes "breakpoint")) said × HasOnly 3 said
SaysReason reason.Step said = Has (codes "reason") (string (codes "step")) said × HasOnly 3 said
SaysReason reason.Entry said = Has (codes "reason") (string (codes "entry")) said × HasOnly 3 said
SaysReason reason.Pause said = Has (codes "reason") (string (codes "pause")) said × HasOnly 3 said
SaysReason (reason.Exception fault) said =
    Has (codes "reason") (string (codes "exception")) said × SaysException fault said × HasOnly 4 said

-- the body says why the program stopped, and that it is thread 1, and all threads, that did
abbrev pub SaysStopped : StopReason → Option Data → Type 0
SaysStopped why said =
    SaysReason why said × Has (codes "threadId") (number (unsigned 1)) said
    × Has (codes "allThreadsStopped") (boolean true) said

-- the event shows the text in the category
abbrev pub SaysOutput : List ℕ → List ℕ → Option Data → Type 0
SaysOutput category text said =
    Has (codes "category") (string category) said × Has (codes "output") (string text) said × HasOnly 2 said

-- the value says the event and what it reports: a number that the program wrote is shown in decimal as a line of
-- `stdout`, and a log is shown on the `console`
abbrev pub SaysEvent : EventBody → Data → Type 0
SaysEvent event.Initialized d = IsNamed (codes "initialized") d × (get (codes "body") d ≡ None)
SaysEvent (event.Stopped why) d = IsNamed (codes "stopped") d × SaysStopped why (get (codes "body") d)
SaysEvent (event.Output v) d =
    IsNamed (codes "output") d × SaysOutput (codes "stdout") (signed_decimal v ++ codes "\n") (get (codes "body") d)
SaysEvent (event.Log text) d =
    IsNamed (codes "output") d × SaysOutput (codes "console") text (get (codes "body") d)
SaysEvent (event.Exited code) d =
    IsNamed (codes "exited") d × Has (codes "exitCode") (number (unsigned code)) (get (codes "body") d)
    × HasOnly 1 (get (codes "body") d)
SaysEvent event.Terminated d = IsNamed (codes "terminated") d × (get (codes "body") d ≡ None)

-- ---- messages

-- The value says its type and its seq. For an answer it also says the request's seq and command and what came of the
-- request, and for an event what the event reports. It says nothing else.
abbrev pub Says : Outgoing → ℕ → Data → Type 0
Says (Answer request_seq command result) seq d =
    (get (codes "type") d ≡ Some (string (codes "response")))
    × (get (codes "seq") d ≡ Some (number (unsigned seq)))
    × (get (codes "request_seq") d ≡ Some (number (unsigned request_seq)))
    × (get (codes "command") d ≡ Some (string (name_text command)))
    × SaysResult result d
Says (Event e) seq d =
    (get (codes "type") d ≡ Some (string (codes "event"))) × (get (codes "seq") d ≡ Some (number (unsigned seq)))
    × SaysEvent e d × HasNoMore 3 d (get (codes "body") d)
