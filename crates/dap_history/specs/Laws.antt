-- States laws of what a session sends, without the rules of the commands and reports. `Stops` has those on stops.
use Rattle.std.specs.Prelude.{◌≡◌, ◌++◌, ◌∷◌, [], ℕ, ◌+◌, ◌^◌, ◌<◌, List, map, Option, None, Some, option_map, slice_get, Ok}
use Rattle.std.specs.List.{filter_map}
use Rattle.dap_frame.specs.Frame.{Frames, IsOpen, frame_of}
use Rattle.dap_msg.specs.declared.request.Request.{Request}
use Rattle.dap_msg.specs.Request.{IsRequestFrom}
use Rattle.dap_msg.specs.declared.request.Dialect.{Dialect}
use Rattle.dap_history.specs.declared.launch.Launch.{Launch}
use Rattle.dap_msg.specs.Commands.{name_of}
use Rattle.dap_msg.specs.declared.command.Command.{Command}
use Rattle.dap_msg.specs.declared.command.Command.TheVariants as command
use Rattle.dap_msg.specs.declared.question.Question.TheVariants as question
use Rattle.dap_msg.specs.declared.command.CommandName.{CommandName}
use Rattle.dap_msg.specs.declared.command.CommandName.TheVariants as name
use Rattle.dap_msg.specs.declared.command.Supported.TheVariants as supported
use Rattle.dap_msg.specs.declared.outgoing.Outgoing.{Outgoing}
use Rattle.dap_msg.specs.declared.outgoing.Outgoing.TheVariants.{Answer, Event}
use Rattle.dap_msg.specs.declared.outgoing.Body.TheVariants as body
use Rattle.dap_msg.specs.declared.outgoing.EventBody.TheVariants as event
use Rattle.dap_msg.specs.declared.outgoing.StopReason.{StopReason}
use Rattle.dap_msg.specs.Outgoing.{text_of}
use Rattle.dap_msg.specs.Laws.{ReadsAsMessage}
use Rattle.pl0_meaning.specs.Runs.{written}
use Rattle.dap_history.specs.History.{Launched, Item, Content, Loaded, Step, History, messages, messages_of, orders_of}
use Rattle.dap_history.specs.Readings.{situation, launched, reached, numbers, ending_of}
use Rattle.dap_history.specs.Considered.{logged}
use Rattle.dap_history.specs.declared.situation.Situation.TheVariants.{Ready}
use Rattle.dap_history.specs.declared.ending.Ending.{Ending}
use Rattle.dap_history.specs.declared.ending.Ending.TheVariants as ending
use Rattle.dap_history.specs.declared.ending.Closed.TheVariants as closed
use Rattle.dbg_runner.specs.Plain.{PlainOrder, Quit}
use Rattle.dap_history.specs.Emission.{IsAfter}
use Rattle.dap_history.specs.Events.{Incoming, Piece, End, ReadFailed, Rest, IsTaking, IsHistoryOf}
use Rattle.dap_history.specs.Output.{frames_from}
use Rattle.dap_history.specs.Always.{OfHistories, OfLawfulHistories}

-- ---- One history

-- A list of events has at most one history and one rest. The client's dialect is given.
abbrev pub HistoryIsOne : Type 0
HistoryIsOne =
    (dialect : Dialect) (events : List Incoming) (past other : History) (rest left : Rest)
    → IsHistoryOf dialect events past rest → IsHistoryOf dialect events other left
    → (past ≡ other) × (rest ≡ left)

-- An item leads from a history to at most one other. So what it is answered with and what it causes is determined.
abbrev pub ItemsLeadToOne : Type 0
ItemsLeadToOne =
    (past : History) (item : Item) (new other : History) → IsAfter past item new → IsAfter past item other → new ≡ other

-- a command whose answer needs no reading of a text: neither breakpoints nor an expression
abbrev pub IsPlain : Command → Type 0
IsPlain (command.SetBreakpoints asked) = ⊥
IsPlain (command.Inspect (question.Evaluate asked)) = ⊥
IsPlain _ = Unit {0}

-- an item of that kind; a launch with its text isn't one
abbrev pub IsPlainItem : Item → Type 0
IsPlainItem (Content (Some request)) = IsPlain request.body
IsPlainItem (Loaded launch (Some text)) = ⊥
IsPlainItem _ = Unit {0}

-- An item that needs no reading of a text leads from each history to another. `NoItemLeadsNowhere` speaks of all items.
abbrev pub EachItemLeads : Type 0
EachItemLeads = OfLawfulHistories (λ past.
    (item : Item) → IsPlainItem item → (new : History) × IsAfter past item new)

-- No item leads nowhere, whatever its texts are. So each has an answer and an effect, a launch with its text, lines
-- of breakpoints and an expression too.
abbrev pub NoItemLeadsNowhere : Type 0
NoItemLeadsNowhere = OfLawfulHistories (λ past.
    (item : Item) → ¬ ((new : History) → ¬ IsAfter past item new))

-- ---- Contents of the stream

-- the pieces that came, joined
abbrev pub stream_of : List Incoming → List ℕ
stream_of [] = []
stream_of (Piece piece ∷ events) = piece ++ stream_of events
stream_of (e ∷ events) = stream_of events

-- the request that a launch was
abbrev pub launch_request : Launch → Request
launch_request launch = record { seq = launch.seq; body = command.Launch launch.arguments }

-- what the item's content is read as, if it is one of a content
abbrev pub read_as : Item → Option (Option Request)
read_as (Content request) = Some request
read_as (Loaded launch file) = Some (Some (launch_request launch))
read_as _ = None

-- what the content of a launch that waits is read as
abbrev pub waiting : Option Launch → List (Option Request)
waiting None = []
waiting (Some launch) = Some (launch_request launch) ∷ []

-- what the contents taken so far are read as, and that of a launch that waits
abbrev pub contents_read : History → Option Launch → List (Option Request)
contents_read past launch = filter_map read_as (map (λ (step : Step). step.item) past) ++ waiting launch

-- each content is read as this
abbrev pub AreReadAs : Dialect → List (List ℕ) → List (Option Request) → Type 0
AreReadAs dialect [] [] = Unit {0}
AreReadAs dialect (content ∷ contents) (request ∷ requests) =
    IsRequestFrom dialect content request × AreReadAs dialect contents requests
AreReadAs dialect _ _ = ⊥

-- The contents taken are, in order, those of the stream's frames, however it was cut.
abbrev pub ContentsAreOfTheStream : Type 0
ContentsAreOfTheStream =
    (dialect : Dialect) (events : List Incoming) (past : History) (rest : Rest) → IsHistoryOf dialect events past rest
    → (contents : List (List ℕ)) × Frames (stream_of events) contents rest.bytes
    × AreReadAs dialect contents (contents_read past rest.launch)

-- Two pieces give what they give as one. So how the stream was cut changes no message and no order.
abbrev pub CutsChangeNothing : Type 0
CutsChangeNothing =
    (dialect : Dialect) (a b : List ℕ) (before after : List Incoming) (past : History) (rest : Rest)
    → IsHistoryOf dialect (before ++ (Piece a ∷ Piece b ∷ after)) past rest
    → IsHistoryOf dialect (before ++ (Piece (a ++ b) ∷ after)) past rest

-- While items are taken, neither a frame nor a framing fault is left in front, unless a launch waits for its
-- file. One waits only in the situation Ready.
abbrev pub RestIsOpen : Type 0
RestIsOpen =
    (dialect : Dialect) (events : List Incoming) (past : History) (rest : Rest) → IsHistoryOf dialect events past rest
    → IsTaking past → (rest.launch ≡ None → IsOpen rest.bytes)
    × ((launch : Launch) → rest.launch ≡ Some launch → situation past ≡ Ready)

-- ---- Answered once

-- the seq and the command that an answer names
abbrev pub answered_request : Outgoing → Option (ℕ × CommandName)
answered_request (Answer seq command result) = Some (seq, command)
answered_request (Event e) = None

-- the seq and the command of the request that an item is, if it is one
abbrev pub request_of_item : Item → Option (ℕ × CommandName)
request_of_item (Content (Some request)) = Some (request.seq, name_of request.body)
request_of_item (Loaded launch file) = Some (launch.seq, name.Supported supported.Launch)
request_of_item _ = None

-- The answers are, in order, one for each request among the items, under its own seq and command.
abbrev pub EachIsAnsweredOnce : Type 0
EachIsAnsweredOnce = OfHistories (λ past.
    filter_map answered_request (messages_of past) ≡ filter_map request_of_item
    (map (λ (step : Step). step.item) past))

-- ---- Numbering

-- The nth frame is that of the nth message, with the seq n.
abbrev pub SeqCountFromOne : Type 0
SeqCountFromOne =
    (messages : List Outgoing) (n : ℕ)
    → slice_get (frames_from 1 messages) n ≡ option_map (λ message. frame_of (text_of message (n + 1)))
    (slice_get messages n)

-- The nth frame is read as the nth message, with the seq n. Seqs are numbers of 64 bits.
abbrev pub FramesAreReadBack : Type 0
FramesAreReadBack = OfHistories (λ past.
    (n : ℕ) (message : Outgoing) → slice_get (messages_of past) n ≡ Some message → n + 1 < 2 ^ 64
    → (content : List ℕ) × (slice_get (frames_from 1 (messages_of past)) n ≡ Some (frame_of content))
    × ReadsAsMessage message (n + 1) content)

-- ---- Last message

-- A `disconnect` is the last item, and its answer the last message.
abbrev pub DisconnectIsLast : Type 0
DisconnectIsLast =
    (dialect : Dialect) (events : List Incoming) (past : History) (rest : Rest) → IsHistoryOf dialect events past rest
    → (before : History) (step : Step) (after : History) (seq : ℕ) → past ≡ before ++ step ∷ after
    → step.item ≡ Content (Some (record { seq = seq; body = command.Disconnect }))
    → (after ≡ []) × (messages_of past ≡ messages_of before ++ Answer seq (name.Supported supported.Disconnect)
    (Ok body.None) ∷ [])

-- ---- Closing

-- the event is one of these
abbrev pub IsAmong : Incoming → List Incoming → Type 0
IsAmong event events = (front : List Incoming) × (back : List Incoming) × (events ≡ front ++ event ∷ back)

-- A session that the end of the input or a failed read closed has taken that event.
abbrev pub ClosedByItsEvent : Type 0
ClosedByItsEvent =
    (dialect : Dialect) (events : List Incoming) (past : History) (rest : Rest) → IsHistoryOf dialect events past rest
    → (ending_of past ≡ Some (ending.Closed closed.InputEnded) → IsAmong End events)
    × (ending_of past ≡ Some (ending.Closed closed.ReadFailed) → IsAmong ReadFailed events)

-- Nothing is ordered after a Quit.
abbrev pub QuitIsLast : Type 0
QuitIsLast = OfHistories (λ past.
    (front more : List PlainOrder) → orders_of past ≡ front ++ Quit ∷ more → more ≡ [])

-- where the session was closed, Quit is the last of its orders; where it goes on or gave up, Quit isn't among them
abbrev pub EndsWithQuit : Option Ending → List PlainOrder → Type 0
EndsWithQuit (Some (ending.Closed by)) orders = (front : List PlainOrder) × (orders ≡ front ++ Quit ∷ [])
EndsWithQuit _ orders = (front back : List PlainOrder) → ¬ (orders ≡ front ++ Quit ∷ back)

-- `disconnect`, the end of the input and a failed read order Quit last. A session that goes on or gave up ordered no
-- Quit.
abbrev pub QuitCloses : Type 0
QuitCloses = OfHistories (λ past.
    EndsWithQuit (ending_of past) (orders_of past))

-- ---- Output order

-- The numbers reported are, in order, those that the program wrote up to the furthest position reached. So none is
-- reported twice; there are none before it is launched.
abbrev pub NumbersAreWritten : Type 0
NumbersAreWritten = OfLawfulHistories (λ past.
    ((l : Launched) → launched past ≡ Some l → numbers (messages_of past) ≡ written l.program 0 (reached past))
    × (launched past ≡ None → numbers (messages_of past) ≡ []))

-- The numbers reported before a stop are those of the steps up to the furthest position reached then.
abbrev pub StopsFollowNumbers : Type 0
StopsFollowNumbers = OfLawfulHistories (λ past.
    (front : History) (step : Step) (more : History) → past ≡ front ++ step ∷ more
    → (l : Launched) → launched (front ++ step ∷ []) ≡ Some l
    → (before : List Outgoing) (reason : StopReason) (after : List Outgoing) → messages step ≡ before
    ++ Event (event.Stopped reason) ∷ after
    → numbers (messages_of front ++ before) ≡ written l.program 0 (reached (front ++ step ∷ [])))

-- ---- Logs

-- the log that a message reports, if it reports one
abbrev pub log_of : Outgoing → Option (List ℕ)
log_of (Event (event.Log text)) = Some text
log_of _ = None

-- the logs that messages report
abbrev pub log_texts : List Outgoing → List (List ℕ)
log_texts messages = filter_map log_of messages

-- The logs reported are, in order, those of the positions considered. There are none before a program is launched.
abbrev pub LogsAreOfPositions : Type 0
LogsAreOfPositions = OfLawfulHistories (λ past.
    ((l : Launched) → launched past ≡ Some l → log_texts (messages_of past) ≡ logged l past)
    × (launched past ≡ None → log_texts (messages_of past) ≡ []))

-- What `StopsFollowNumbers` says of a stop holds of a log.
abbrev pub LogsFollowNumbers : Type 0
LogsFollowNumbers = OfLawfulHistories (λ past.
    (front : History) (step : Step) (more : History) → past ≡ front ++ step ∷ more
    → (l : Launched) → launched (front ++ step ∷ []) ≡ Some l
    → (before : List Outgoing) (text : List ℕ) (after : List Outgoing) → messages step ≡ before
    ++ Event (event.Log text) ∷ after
    → numbers (messages_of front ++ before) ≡ written l.program 0 (reached (front ++ step ∷ [])))

-- The logs reported before a stop are those of the positions considered until then.
abbrev pub StopsFollowLogs : Type 0
StopsFollowLogs = OfLawfulHistories (λ past.
    (front : History) (step : Step) (more : History) → past ≡ front ++ step ∷ more
    → (l : Launched) → launched (front ++ step ∷ []) ≡ Some l
    → (before : List Outgoing) (reason : StopReason) (after : List Outgoing) → messages step ≡ before
    ++ Event (event.Stopped reason) ∷ after
    → log_texts (messages_of front ++ before) ≡ logged l (front ++ step ∷ []))
