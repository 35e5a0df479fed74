-- What a session promises of what is seen of it, its conversation keeps of what is seen.
use Rattle.std.proofs.Common.{◌≡◌, ℕ, Bool, List, [], ◌∷◌, ap, subst, Option, None, Some, inl, inr, rules}
use Rattle.std.specs.Prelude.{Result, Ok, Err, IfOk}
use Rattle.byte_streams.specs.Streams.{StreamLog, Supply, Output}
use Rattle.dap_server.specs.Requests.{Request}
use Rattle.dap_server.specs.Conversation.{State, state, Replies, Handles, Conversation}
use Rattle.dap_server.specs.Inbox.{PlainItem, Bytes, Event, Gives, TakesOne}
use Rattle.dap_server.specs.Serving.{FailsAt, FailsInFront, IsDone, BreaksWithin}
use Rattle.dap_server.specs.ServingInbox.{ServingEndsBy, EndsWithin, EndsAt}
use Rattle.dap_server.specs.Working as courses
use Rattle.dap_server.specs.Working.{Works, Polls, Course, EndsInWork, WorkerEnds, ServedWorker, OwesNothing as WorkerOwesNothing, OwesNothingIdle as WorkerOwesNothingIdle}
use Rattle.dap_reader.specs.Serving.{ServedInput}
use Rattle.dap_reader.specs.declared.serving.StartFault.{StartFault}
use Rattle.dap_debug.specs.Replies.{Known}
use Rattle.dap_debug.specs.Loading.{ReadsFiles, Situation, situation}
use Rattle.dap_debug.specs.Serving.{replied_by, worked_by, runs_in, Debugged, DebuggedFrom, OwesNothing, OwesNothingIdle}
use Rattle.dap_debug.specs.Standings.{unused}
use Rattle.dap_server.specs.declared.ending.Ending.{Ending}
use Rattle.dap_server.specs.declared.ending.Ending.TheVariants as ending
use Rattle.dap_server.specs.declared.ending.ServeFault.{ServeFault}
use Rattle.dap_server.specs.declared.ending.ServeFault.TheVariants as fault

-- what is promised of what is seen
abbrev pub seen_replies : {S T : Type 0} → (S → T) → Replies T → Replies S
seen_replies see replies = λ a command arguments reply b. replies (see a) command arguments reply (see b)

abbrev pub seen_works : {S T : Type 0} → (S → T) → Works T → Works S
seen_works see works = λ a events b. works (see a) events (see b)

abbrev seen : {S T : Type 0} → (S → T) → State S → State T
seen see a = state (see a.adapter) a.next a.present

handled : {S T : Type 0} (see : S → T) (replies : Replies T) (a b : State S) (request : Option Request)
    (texts : List (List ℕ)) → Handles (seen_replies see replies) a request texts b
    → Handles replies (seen see a) request texts (seen see b)
handled see replies a b None texts is = (is.0, ap (seen see) is.1)
handled see replies a b (Some request) texts is = record {
  reply = is.reply;
  replied = is.replied;
  texts_are = is.texts_are;
  numbered = is.numbered;
  left = is.left;
}

talked : {S T : Type 0} (see : S → T) (replies : Replies T) (a b : State S) (contents texts : List (List ℕ))
    → Conversation (seen_replies see replies) a contents texts b
    → Conversation replies (seen see a) contents texts (seen see b)
talked see replies a b [] texts is = (is.0, ap (seen see) is.1)
talked see replies a b (content ∷ contents) texts is = (
  is.0,
  (
    seen see is.1.0,
    is.1.1,
    is.1.2,
    (is.1.3.0, is.1.3.1, handled see replies a is.1.0 is.1.3.0 is.1.1 is.1.3.2),
    talked see replies is.1.0 b contents is.1.2 is.1.4,
    is.1.5,
  ),
)

took : {S T : Type 0} (see : S → T) (replies : Replies T) (a b : State S) (rest later : List ℕ) (item : PlainItem)
    (texts : List (List ℕ)) → TakesOne (seen_replies see replies) a rest item texts b later
    → TakesOne replies (seen see a) rest item texts (seen see b) later
took see replies a b rest later (Bytes bytes) texts is = (is.0, is.1, talked see replies a b is.0 texts is.2)
took see replies a b rest later (Event event) texts is = (is.0, ap (seen see) is.1, is.2)
took see replies a b rest later _ texts is = absurd is

coursed : {S T I : Type 0} (see : S → T) (replies : Replies T) (works : Works T) (busy : T → Bool) (gives : Gives I)
    (polls : Polls I) (a : State S) (inbox : I) (b : State S) (rest : List ℕ) (left : I) (texts : List (List ℕ))
    → Course (seen_replies see replies) (seen_works see works) (λ s. busy (see s)) gives polls a inbox b rest left texts
    → Course replies works busy gives polls (seen see a) inbox (seen see b) rest left texts
coursed see replies works busy gives polls a inbox b rest left texts courses.begins = courses.begins
coursed see replies works busy gives polls a inbox b rest left texts
    (courses.takes m n before after j k item first later course there is_open comes taken) =
    courses.takes (seen see m) (seen see n) before after j k item first later
    (coursed see replies works busy gives polls a inbox m before j first course) there is_open comes
    (took see replies m n before after item later taken)
coursed see replies works busy gives polls a inbox b rest left texts
    (courses.works_on m adapter before j k events first later course there is_open busy_is none worked told) =
    courses.works_on (seen see m) (see adapter) before j k events first later
    (coursed see replies works busy gives polls a inbox m before j first course) there is_open busy_is none worked told

-- ---- ends

done : {S T : Type 0} (see : S → T) (b : State S) (adapter : S) (written later : StreamLog)
    → IsDone b adapter written later → IsDone (seen see b) (see adapter) written later
done see b adapter written later is = (ap see is.0, is.1)

failed_at : {S T : Type 0} (see : S → T) (f : ServeFault) (replies : Replies T) (b : State S)
    (request : Option Request) (adapter : S) (written later : StreamLog)
    → FailsAt f (seen_replies see replies) b request adapter written later
    → FailsAt f replies (seen see b) request (see adapter) written later
failed_at see fault.Output replies b request adapter written later is = (
  seen see is.0,
  record {
    texts = is.1.texts;
    handles = handled see replies b is.0 request is.1.texts is.1.handles;
    written = is.1.written;
  },
  ap see is.2,
)
failed_at see fault.NoSeq replies b None adapter written later is = absurd is.0
failed_at see fault.NoMemory replies b None adapter written later is = (ap see is.0, is.1)
failed_at see fault.Input replies b request adapter written later is = absurd is
failed_at see (fault.Framing f) replies b request adapter written later is = absurd is
failed_at see _ replies b (Some request) adapter written later is = is

failed_in_front : {S T : Type 0} (see : S → T) (f : ServeFault) (replies : Replies T) (b : State S) (rest : List ℕ)
    (adapter : S) (written later : StreamLog)
    → FailsInFront f (seen_replies see replies) b rest adapter written later
    → FailsInFront f replies (seen see b) rest (see adapter) written later
failed_in_front see f replies b rest adapter written later is =
    (is.0, is.1, is.2, (is.3.0, is.3.1, failed_at see f replies b is.3.0 adapter written later is.3.2))

broke : {S T : Type 0} (see : S → T) (f : ServeFault) (replies : Replies T) (b : State S) (rest : List ℕ) (adapter : S)
    (written later : StreamLog) → BreaksWithin f (seen_replies see replies) b rest adapter written later
    → BreaksWithin f replies (seen see b) rest (see adapter) written later
broke see (fault.Framing f) replies b rest adapter written later is =
    (done see b adapter written later is.0, is.1)
broke see fault.Input replies b rest adapter written later is =
    failed_in_front see fault.Input replies b rest adapter written later is
broke see fault.Output replies b rest adapter written later is =
    failed_in_front see fault.Output replies b rest adapter written later is
broke see fault.NoMemory replies b rest adapter written later is =
    failed_in_front see fault.NoMemory replies b rest adapter written later is
broke see fault.NoSeq replies b rest adapter written later is =
    failed_in_front see fault.NoSeq replies b rest adapter written later is

ended_within : {S T : Type 0} (see : S → T) (result : Result Ending ServeFault) (replies : Replies T) (b : State S)
    (rest : List ℕ) (adapter : S) (written later : StreamLog)
    → EndsWithin result (seen_replies see replies) b rest adapter written later
    → EndsWithin result replies (seen see b) rest (see adapter) written later
ended_within see (Ok ending.Disconnected) replies b rest adapter written later is =
    (done see b adapter written later is.0, is.1)
ended_within see (Err f) replies b rest adapter written later is =
    (is.0, broke see f replies b rest adapter written later is.1)
ended_within see _ replies b rest adapter written later is = absurd is

ended_by : {S T : Type 0} (see : S → T) (item : PlainItem) (result : Result Ending ServeFault) (b : State S)
    (rest : List ℕ) (adapter : S) (written later : StreamLog) → ServingEndsBy item result b rest adapter written later
    → ServingEndsBy item result (seen see b) rest (see adapter) written later
ended_by see (Bytes bytes) result b rest adapter written later is =
    (is.0, is.1, done see b adapter written later is.2)
ended_by see (Event event) result b rest adapter written later is = (is.0, is.1, ap see is.2, is.3)
ended_by see _ result b rest adapter written later is = (is.0, done see b adapter written later is.1)

ended_at : {S T I : Type 0} (see : S → T) (last : Option PlainItem) (gives : Gives I) (inbox left : I)
    (result : Result Ending ServeFault) (replies : Replies T) (b : State S) (rest : List ℕ) (adapter : S)
    (written later : StreamLog)
    → EndsAt last gives inbox left result (seen_replies see replies) b rest adapter written later
    → EndsAt last gives inbox left result replies (seen see b) rest (see adapter) written later
ended_at see None gives inbox left result replies b rest adapter written later is =
    (is.0, ended_within see result replies b rest adapter written later is.1)
ended_at see (Some item) gives inbox left result replies b rest adapter written later is =
    (is.0, is.1, is.2, ended_by see item result b rest adapter written later is.3)

ended_in_work : {S T : Type 0} (see : S → T) (f : ServeFault) (works : Works T) (b : State S) (adapter : S)
    (written later : StreamLog) → EndsInWork f (seen_works see works) b adapter written later
    → EndsInWork f works (seen see b) (see adapter) written later
ended_in_work see f works b adapter written later (inl is) = inl is
ended_in_work see f works b adapter written later (inr is) = inr is

ended : {S T I : Type 0} (see : S → T) (works : Works T) (busy : T → Bool) (gives : Gives I) (polls : Polls I)
    (taken left : I) (result : Result Ending ServeFault) (replies : Replies T) (b : State S) (rest : List ℕ)
    (adapter : S) (written later : StreamLog)
    → WorkerEnds (seen_works see works) (λ s. busy (see s)) gives polls taken left result (seen_replies see replies) b
    rest adapter written later
    → WorkerEnds works busy gives polls taken left result replies (seen see b) rest (see adapter) written later
ended see works busy gives polls taken left result replies b rest adapter written later (inl is) =
    inl (is.0, ended_at see is.0 _ taken left result replies b rest adapter written later is.1)
ended see works busy gives polls taken left result replies b rest adapter written later (inr is) =
    inr (is.0, is.1, is.2, is.3, is.4, is.5, ended_in_work see is.0 works b adapter written later is.6)

pub served : {S T I : Type 0} (see : S → T) (replies : Replies T) (works : Works T) (busy : T → Bool) (gives : Gives I)
    (polls : Polls I) (before after : S) (inbox left : I) (written later : StreamLog)
    (result : Result Ending ServeFault)
    → ServedWorker (seen_replies see replies) (seen_works see works) (λ s. busy (see s)) gives polls before after inbox
    left written later result
    → ServedWorker replies works busy gives polls (see before) (see after) inbox left written later result
served see replies works busy gives polls before after inbox left written later result is =
    record {
      reached = seen see is.reached;
      rest = is.rest;
      answers = is.answers;
      taken = is.taken;
      working = record {
        texts = is.working.texts;
        course = coursed see replies works busy gives polls _ inbox _ _ _ _ is.working.course;
        written = is.working.written;
      };
      ends = ended see works busy gives polls _ left result replies _ _ after _ later is.ends;
    }

owed : {S T I : Type 0} (see : S → T) (replies : Replies T) (works : Works T) (busy : T → Bool) (gives : Gives I)
    (polls : Polls I) (before : S) (inbox now : I) (written later : StreamLog)
    → WorkerOwesNothing (seen_replies see replies) (seen_works see works) (λ s. busy (see s)) gives polls before inbox
    now written later → WorkerOwesNothing replies works busy gives polls (see before) inbox now written later
owed see replies works busy gives polls before inbox now written later is =
    record {
      reached = seen see is.reached;
      rest = is.rest;
      working = record {
        texts = is.working.texts;
        course = coursed see replies works busy gives polls _ inbox is.reached is.rest now is.working.texts
            is.working.course;
        written = is.working.written;
      };
      there = is.there;
      is_open = is.is_open;
    }

-- the same of a session, from one without a program on
module _ {S T F I : Type 0} (see : S → Situation T F) (known : Known T) (reads : ReadsFiles F) (gives : Gives I)
    (polls : Polls I) where
  pub debugged : (before after : S) (files later_files : F) (inbox left : I) (written later : StreamLog)
      (result : Result Ending ServeFault) → see before ≡ situation unused files → (see after).files ≡ later_files
      → ServedWorker (seen_replies see (replied_by known reads)) (seen_works see (worked_by known))
      (λ s. runs_in (see s)) gives polls before after inbox left written later result
      → Debugged known reads gives polls files later_files inbox left written later result
  debugged before after files later_files inbox left written later result first kept is =
      record {
        last = (see after).stands;
        served = rw (← kept) (rw (← first) (served see (replied_by known reads)
            (worked_by known) runs_in gives polls before after inbox left written later result is));
      }

  pub owes : (before : S) (files : F) (inbox now : I) (written later : StreamLog)
      → see before ≡ situation unused files
      → WorkerOwesNothing (seen_replies see (replied_by known reads)) (seen_works see (worked_by known))
      (λ s. runs_in (see s)) gives polls before inbox now written later
      → OwesNothing known reads gives polls files inbox now written later
  owes before files inbox now written later first is =
      rw (← first) (owed see _ _ runs_in gives polls before inbox now written later is)

  pub owes_idle : (before : S) (files : F) (inbox now : I) (written later : StreamLog)
      → see before ≡ situation unused files
      → WorkerOwesNothingIdle (seen_replies see (replied_by known reads)) (seen_works see (worked_by known))
      (λ s. runs_in (see s)) gives polls before inbox now written later
      → OwesNothingIdle known reads gives polls files inbox now written later
  unfolding owed
  owes_idle before files inbox now written later first is =
      rw (← first) (owed see _ _ runs_in gives polls before inbox now written later is.0, is.1)

pub debugged_from : {S T F : Type 0} (see : S → Situation T F) (known : Known T) (reads : ReadsFiles F)
    (before after : S) (files later_files : F) (input later_input : Supply) (output later : Output)
    (served : Result (Result Ending ServeFault) StartFault) (ended : Result Ending ServeFault)
    → see before ≡ situation unused files → (see after).files ≡ later_files
    → IfOk served (λ ended. ServedInput (seen_replies see (replied_by known reads)) (seen_works see (worked_by known))
    (λ s. runs_in (see s)) before after input later_input output later ended)
    → served ≡ Ok ended → DebuggedFrom known reads files later_files input later_input output later ended
debugged_from see known reads before after files later_files input later_input output later (Ok ended) now first kept
    (taken, whole, front, is, failures) same =
    subst (λ ended. DebuggedFrom known reads files later_files input later_input output later ended)
    (search (same, rules)) (
      taken,
      whole,
      front,
      debugged see known reads _ _ before after files later_files input taken _ _ ended first kept is,
      failures,
    )
debugged_from see known reads before after files later_files input later_input output later (Err e) now first kept is
    same =
    absurd (search (same, rules))
