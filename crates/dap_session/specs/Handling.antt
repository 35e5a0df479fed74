-- Defines, for private contracts, how far a session came from the history it represented, by the parts of an event.
use Rattle.std.specs.Prelude.{◌≡◌, ◌≢◌, ◌⊎◌, ◌++◌, ◌∷◌, [], ℕ, List, Option, None, Some, Result, Ok, Err}
use Rattle.dap_frame.specs.declared.fault.FramingFault.{FramingFault}
use Rattle.dap_msg.specs.declared.request.Dialect.{Dialect}
use Rattle.dap_msg.specs.declared.request.Request.{Request}
use Rattle.dbg_runner.specs.Plain.{Quit}
use Rattle.dap_history.specs.declared.fault.SessionFault.{SessionFault}
use Rattle.dap_history.specs.declared.fault.SessionFault.TheVariants.{Frame, NoMemory}
use Rattle.dap_history.specs.declared.ending.Ending.{Ending}
use Rattle.dap_history.specs.declared.ending.Ending.TheVariants as ending
use Rattle.dap_history.specs.declared.launch.Launch.{Launch}
use Rattle.dap_history.specs.History.{Item, Content, History}
use Rattle.dap_history.specs.Readings.{situation, ending_of}
use Rattle.dap_history.specs.Launching.{wanted_in}
use Rattle.dap_history.specs.Emission.{IsAfter}
use Rattle.dap_history.specs.Events.{Incoming, Rest, IsTaking, Takes, LeadsByEvent}
use Rattle.dap_replies.specs.Phases.{launch_of}
use Rattle.dap_session.specs.Ports.{PushedOrders, Ports}
use Rattle.dap_session.specs.Building.{IsNotPushed}
use Rattle.dap_session.specs.Sending.{Sends, RefusesNothing, BreaksOff}
use Rattle.dap_session.specs.State.{State, Knows, GoesOn}
use Rattle.dap_session.specs.Taking.{TowardByPiece, Toward, LacksMemory, Expects, NeedsNoMemory}

-- The session is at this history: it has the history's ending, and until then its fields are the readings.
pub record HasHistory (session : State) (past : History) : Type 0 where
  pub ending_is : session.ending ≡ ending_of past
  pub knows : IsTaking past → Knows session past

-- no fault ended the session
abbrev pub IsWell : Option Ending → Type 0
IsWell None = Unit {0}
IsWell (Some (ending.Closed by)) = Unit {0}
IsWell (Some (ending.Fault fault)) = ⊥

-- ---- one item

-- The item was taken, and everything that it causes was sent.
pub record TakesItem (past : History) (item : Item) (session : State) (old later : Ports) : Type 0 where
  pub new : History
  pub after : IsAfter past item new
  pub is_at : HasHistory session new
  pub free : launch_of session.phase ≡ None
  pub sends : Sends past new old later
  pub refuses_nothing : RefusesNothing old later

-- The session gave up at the item.
pub record FailsAtItem (fault : SessionFault) (past : History) (item : Item) (old later : Ports) : Type 0 where
  pub next : History
  pub next_is : (next ≡ past) ⊎ IsAfter past item next
  pub breaks : BreaksOff fault past next old later

-- one of the two, by the result
abbrev pub HandlesItem : Result (Unit {0}) SessionFault → History → Item → State → Ports → Ports → Type 0
HandlesItem (Ok u) past item session old later = TakesItem past item session old later
HandlesItem (Err fault) past item session old later = FailsAtItem fault past item old later

-- ---- one content

-- The content leads to the history `new`, or it is a launch, which waits for its file.
abbrev pub LeadsByContent : History → Option Request → Option Launch → History → Type 0
LeadsByContent past request None new = (wanted_in (situation past) request ≡ None) × IsAfter past (Content request) new
LeadsByContent past request (Some launch) new = (wanted_in (situation past) request ≡ Some launch) × (new ≡ past)

-- The content was taken, and everything that it causes was sent.
pub record TakesContent (past : History) (request : Option Request) (session : State) (old later : Ports) : Type 0 where
  pub new : History
  pub is_at : HasHistory session new
  pub leads : LeadsByContent past request (launch_of session.phase) new
  pub sends : Sends past new old later
  pub refuses_nothing : RefusesNothing old later

-- The session gave up at the content.
pub record FailsAtContent (fault : SessionFault) (past : History) (request : Option Request) (old later : Ports) : Type
    0 where
  pub next : History
  pub next_is : (next ≡ past) ⊎ LeadsByContent past request None next
  pub breaks : BreaksOff fault past next old later

-- one of the two, by the result
abbrev pub HandlesContent : Result (Unit {0}) SessionFault → History → Option Request → State → Ports → Ports → Type 0
HandlesContent (Ok u) past request session old later = TakesContent past request session old later
HandlesContent (Err fault) past request session old later = FailsAtContent fault past request old later

-- ---- one after another

-- Everything that `leads` describes was taken, and everything that it adds to the history was sent.
pub record Arrives (dialect : Dialect) (leads : History → Rest → Type 0) (past : History) (session : State)
    (old later : Ports) : Type 0
  where
    pub new : History
    pub rest : Rest
    pub way : leads new rest
    pub ending_is : session.ending ≡ ending_of new
    pub goes_on : IsTaking new → GoesOn dialect session new rest
    pub sends : Sends past new old later
    pub refuses_nothing : RefusesNothing old later

-- The same, and then a framing fault ended the session.
pub record ArrivesAtFault (leads : History → Rest → Type 0) (past : History) (fault : FramingFault)
    (old later : Ports) : Type 0 where
  pub new : History
  pub rest : Rest
  pub way : leads new rest
  pub ending_is : ending_of new ≡ Some (ending.Fault (Frame fault))
  pub sends : Sends past new old later
  pub refuses_nothing : RefusesNothing old later

-- The session gave up on the way.
pub record StopsOnTheWay (toward : History → Type 0) (past : History) (fault : SessionFault) (old later : Ports) : Type
    0 where
  pub mid : History
  pub way : toward mid
  pub between : Ports
  pub sent : Sends past mid old between
  pub refuses_nothing : RefusesNothing old between
  pub next : History
  pub next_is : (next ≡ mid) ⊎ (toward next × ((item : Item) × IsAfter mid item next))
  pub breaks : BreaksOff fault mid next between later

-- one of the three, by the result
abbrev pub Goes : Dialect → Result (Unit {0}) SessionFault → (History → Rest → Type 0) → (History → Type 0) → History
    → State
    → Ports → Ports → Type 0
Goes dialect (Ok u) leads toward past session old later = Arrives dialect leads past session old later
Goes dialect (Err fault) leads toward past session old later =
    StopsOnTheWay toward past fault old later
    ⊎ ((k : FramingFault) × (fault ≡ Frame k) × ArrivesAtFault leads past k old later)

-- the same for the contents at the front of these bytes
abbrev pub HandlesContents : Dialect → Result (Unit {0}) SessionFault → History → List ℕ → State → Ports → Ports
    → Type 0
HandlesContents dialect result past bytes session old later =
    Goes dialect result (Takes dialect past bytes) (TowardByPiece dialect past None bytes) past session old later

-- the same for an event
abbrev pub Handles : Dialect → Result (Unit {0}) SessionFault → History → Rest → Incoming → State → Ports → Ports
    → Type 0
Handles dialect result past rest event session old later =
    Goes dialect result (LeadsByEvent dialect past rest event) (Toward dialect past rest event) past session old later

-- No memory was needed to take the event, and none is needed to ask for the next.
abbrev pub NeededNoMemory : Result (Unit {0}) SessionFault → State → Type 0
NeededNoMemory (Ok u) session = session.ending ≡ None → launch_of session.phase ≡ None
NeededNoMemory (Err fault) session = fault ≢ NoMemory

-- The session, which goes on, handles the event with this result, at whatever history it is. Where memory was lacking
-- for the event, the result is `NoMemory`; an event that needs none, and asking for the next, take none.
pub record HandlesEvent (session : State) (event : Incoming) (result : Result (Unit {0}) SessionFault) (after : State)
    (old later : Ports) : Type 0 where
  pub comes : (dialect : Dialect) (past : History) (rest : Rest) → IsTaking past → GoesOn dialect session past rest
      → Handles dialect result past rest event after old later
  pub no_memory : LacksMemory event (launch_of session.phase) → result ≡ Err NoMemory
  pub enough : NeedsNoMemory (launch_of session.phase) (Expects session.phase) event → NeededNoMemory result after

-- ---- closing

-- A Quit was pushed, or the port refused it.
abbrev pub PushesQuit : Result (Unit {0}) SessionFault → PushedOrders → PushedOrders → Type 0
PushesQuit (Ok u) old later =
    (later.orders ≡ old.orders ++ Quit ∷ []) × (later.fulls ≡ old.fulls) × (later.refusals ≡ old.refusals)
PushesQuit (Err fault) old later = IsNotPushed fault old later
