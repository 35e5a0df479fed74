-- Defines the conversation of an adapter that works while nothing comes: `ServedWorker` is the contract of
-- `serve_worker`.
use Rattle.std.specs.Prelude.{◌≡◌, ◌+◌, ◌⊎◌, ℕ, Bool, true, false, List, [], ◌++◌, map, length, Option, None, Some, Result, Err}
use Rattle.byte_streams.specs.Streams.{StreamLog, Appends}
use Rattle.dap_frame.specs.Frame.{IsOpen}
use Rattle.dap_server.specs.Messages.{PlainEvent, plain_event, events_from, AreTexts, frames_of}
use Rattle.dap_server.specs.Conversation.{State, state, Replies}
use Rattle.dap_server.specs.Inbox.{PlainItem, plain_item, Gives, TakesOne}
use Rattle.dap_server.specs.ServingInbox.{CannotTell, EndsAt}
use Rattle.dap_server.specs.declared.ending.Ending.{Ending}
use Rattle.dap_server.specs.declared.ending.ServeFault.{ServeFault}
use Rattle.dap_server.specs.declared.ending.ServeFault.TheVariants as fault
use Rattle.dap_server.specs.declared.pace.Next.{Next}
use Rattle.dap_server.specs.declared.pace.Next.TheVariants.{Take, Tell}

-- what an adapter promises of its work: before, the events that tell of it, and after
abbrev pub Works : Type 0 → Type 1
Works S = S → List PlainEvent → S → Type 0

-- what an inbox promises of a look into it: before, the item that was there, if one was, and after
abbrev pub Polls : Type 0 → Type 1
Polls I = I → Option PlainItem → I → Type 0

-- An item comes: it was there at a look, or it was waited for, which is done only while the adapter isn't busy.
abbrev pub Comes : {I : Type 0} → Bool → Gives I → Polls I → Gives I
Comes busy gives polls before item after =
    polls before (Some item) after ⊎ ((busy ≡ false) × gives before item after)

-- From a state and an inbox on, items came and were taken in order, and between them the adapter worked, where it was
-- busy and nothing had come; each time the client was there, and no whole frame waited. The events of a part of the
-- work are sent at once, numbered on. These texts were sent.
pub data Course {S I : Type 0} (replies : Replies S) (works : Works S) (busy : S → Bool) (gives : Gives I)
    (polls : Polls I) (a : State S) (inbox : I) : State S → List ℕ → I → List (List ℕ) → Type 0 where
  begins : Course replies works busy gives polls a inbox a [] inbox []
  takes : (b c : State S) (rest more : List ℕ) (j k : I) (item : PlainItem) (texts later : List (List ℕ))
      → Course replies works busy gives polls a inbox b rest j texts → b.present ≡ true → IsOpen rest
      → Comes (busy b.adapter) gives polls j item k → TakesOne replies b rest item later c more
      → Course replies works busy gives polls a inbox c more k (texts ++ later)
  works_on : (b : State S) (adapter : S) (rest : List ℕ) (j k : I) (events : List PlainEvent)
      (texts later : List (List ℕ)) → Course replies works busy gives polls a inbox b rest j texts
      → b.present ≡ true → IsOpen rest → busy b.adapter ≡ true → polls j None k → works b.adapter events adapter
      → AreTexts (events_from b.next events) later
      → Course replies works busy gives polls a inbox (state adapter (b.next + length events) true) rest k
      (texts ++ later)

-- the same, and the frames of the texts were written
pub record Working {S I : Type 0} (replies : Replies S) (works : Works S) (busy : S → Bool) (gives : Gives I)
    (polls : Polls I) (a b : State S) (rest : List ℕ) (inbox later : I) (Written : List ℕ → Type 0) : Type 0 where
  pub texts : List (List ℕ)
  pub course : Course replies works busy gives polls a inbox b rest later texts
  pub written : Written (frames_of texts)

-- the session ends in a part of the adapter's work, for which there is no memory, or whose events aren't sent
abbrev pub EndsInWork : {S : Type 0} → ServeFault → Works S → State S → S → StreamLog → StreamLog → Type 0
EndsInWork f works b adapter written later =
    ((f ≡ fault.NoMemory) × (later ≡ written))
    ⊎ ((events : List PlainEvent) × works b.adapter events adapter × CannotTell f events b.next written later)

-- how a session ends: as over an inbox, or in a part of the adapter's work
abbrev pub WorkerEnds : {S I : Type 0} → Works S → (S → Bool) → Gives I → Polls I → I → I → Result Ending ServeFault
    → Replies S → State S → List ℕ → S → StreamLog → StreamLog → Type 0
WorkerEnds works busy gives polls taken left result replies b rest adapter written later =
    ((last : Option PlainItem)
    × EndsAt last (Comes (busy b.adapter) gives polls) taken left result replies b rest adapter written later)
    ⊎ ((f : ServeFault) × (result ≡ Err f) × (busy b.adapter ≡ true) × polls taken None left × (b.present ≡ true)
    × IsOpen rest × EndsInWork f works b adapter written later)

-- The items that came were taken in order, and the adapter worked between them: each request was answered, once, each
-- event was sent, once, and then the session ended.
pub record ServedWorker {S I : Type 0} (replies : Replies S) (works : Works S) (busy : S → Bool) (gives : Gives I)
    (polls : Polls I) (before after : S) (inbox left : I) (written later : StreamLog)
    (result : Result Ending ServeFault) : Type 0 where
  pub reached : State S
  pub rest : List ℕ
  pub answers : StreamLog
  pub taken : I
  pub working : Working replies works busy gives polls (state before 1 true) reached rest inbox taken
      (Appends written answers)
  pub ends : WorkerEnds works busy gives polls taken left result replies reached rest after answers later

-- A session that goes on owes nothing: the items that came so far were taken in order, the adapter worked between them,
-- each request was answered, once, each event was sent, once, all that was written, and neither a whole frame nor a
-- framing fault waits.
pub record OwesNothing {S I : Type 0} (replies : Replies S) (works : Works S) (busy : S → Bool) (gives : Gives I)
    (polls : Polls I) (before : S) (inbox now : I) (written later : StreamLog) : Type 0 where
  pub reached : State S
  pub rest : List ℕ
  pub working : Working replies works busy gives polls (state before 1 true) reached rest inbox now
      (Appends written later)
  pub there : reached.present ≡ true
  pub is_open : IsOpen rest

-- the same, and the adapter has no work to do
abbrev pub OwesNothingIdle : {S I : Type 0} → Replies S → Works S → (S → Bool) → Gives I → Polls I → S → I → I
    → StreamLog → StreamLog → Type 0
OwesNothingIdle replies works busy gives polls before inbox now written later =
    (owes : OwesNothing replies works busy gives polls before inbox now written later)
    × (busy owes.reached.adapter ≡ false)

-- ---- for private contracts

-- what comes next: an item; or nothing yet, which is seen only where the adapter is busy, and then it works
abbrev pub ComesNext : {S I : Type 0} → Works S → (S → Bool) → Gives I → Polls I → S → I → Next → S → I → Type 0
ComesNext works busy gives polls a before (Take item) b after =
    (b ≡ a) × Comes (busy b) gives polls before (plain_item item) after
ComesNext works busy gives polls a before (Tell events) b after =
    ((busy a ≡ true) × polls before None after) × works a (map plain_event events.items) b

-- events were sent, numbered on
pub record Tells (events : List PlainEvent) (n m : ℕ) (Written : List ℕ → Type 0) : Type 0 where
  pub texts : List (List ℕ)
  pub texts_are : AreTexts (events_from n events) texts
  pub numbered : m ≡ n + length events
  pub written : Written (frames_of texts)
