-- Items are taken one after another, and the adapter works meanwhile.
use Rattle.std.proofs.Common.{◌≡◌, ℕ, Bool, true, List, [], ◌∷◌, ◌++◌, refl, subst, None, Some, inl, inr}
use Rattle.std.specs.Prelude.{Result, Err}
use Rattle.byte_streams.proofs.Appending.{appends_none, appends_both}
use Rattle.byte_streams.specs.Streams.{StreamLog, Appends}
use Rattle.dap_frame.specs.Frame.{IsOpen}
use Rattle.dap_server.specs.Messages.{PlainEvent, frames_of}
use Rattle.dap_server.specs.Conversation.{State, state, Replies, Progress}
use Rattle.dap_server.specs.Inbox.{PlainItem, Bytes, Event, Gives, TakesOne}
use Rattle.dap_server.specs.ServingInbox.{ServingEndsBy, EndsWithin}
use Rattle.dap_server.specs.Working.{Works, Polls, Comes, begins, takes, works_on, Working, EndsInWork, ServedWorker, Tells}
use Rattle.dap_server.specs.declared.ending.Ending.{Ending}
use Rattle.dap_server.specs.declared.ending.ServeFault.{ServeFault}
use Rattle.dap_server.proofs.Adding.{frames_of-append}

pub working_nowhere : {S I : Type 0} (replies : Replies S) (works : Works S) (busy : S → Bool) (gives : Gives I)
    (polls : Polls I) (a : State S) (inbox : I)
    (written : StreamLog) → Working replies works busy gives polls a a [] inbox inbox (Appends written written)
working_nowhere replies works busy gives polls a inbox written =
    record { texts = []; course = begins; written = appends_none written }

written_both : (first later : List (List ℕ)) (old now new : StreamLog) → Appends old now (frames_of first)
    → Appends now new (frames_of later) → Appends old new (frames_of (first ++ later))
written_both first later old now new wrote more =
    rw (frames_of-append first later) (appends_both old now new (frames_of first) (frames_of later) wrote more)

-- an item is taken
working_item : {S I : Type 0} (replies : Replies S) (works : Works S) (busy : S → Bool) (gives : Gives I) (polls :
    Polls I) (a b c : State S)
    (rest more : List ℕ) (inbox mid left : I) (item : PlainItem) (texts : List (List ℕ)) (old now new : StreamLog)
    → Working replies works busy gives polls a b rest inbox mid (Appends old now) → Comes (busy b.adapter) gives
    polls mid item left → b.present ≡ true
    → IsOpen rest → TakesOne replies b rest item texts c more → Appends now new (frames_of texts)
    → Working replies works busy gives polls a c more inbox left (Appends old new)
working_item replies works busy gives polls a b c rest more inbox mid left item texts old now new first gave there
    is_open taken wrote
    = record {
      texts = first.texts ++ texts;
      course = takes b c rest more mid left item first.texts texts first.course there is_open gave taken;
      written = written_both first.texts texts old now new first.written wrote;
    }

pub working_bytes : {S I : Type 0} (replies : Replies S) (works : Works S) (busy : S → Bool) (gives : Gives I) (polls
    : Polls I) (a b c : State S)
    (rest more : List ℕ) (inbox mid left : I) (bytes : List ℕ) (old now new : StreamLog)
    → Working replies works busy gives polls a b rest inbox mid (Appends old now) → Comes (busy b.adapter) gives
    polls mid (Bytes bytes) left
    → b.present ≡ true → IsOpen rest → Progress replies b c (rest ++ bytes) more (Appends now new)
    → Working replies works busy gives polls a c more inbox left (Appends old new)
working_bytes replies works busy gives polls a b c rest more inbox mid left bytes old now new first gave there
    is_open progress =
    working_item replies works busy gives polls a b c rest more inbox mid left _ _ old now new first gave there is_open
    (progress.contents, progress.cut, progress.talk) progress.written

pub working_event : {S I : Type 0} (replies : Replies S) (works : Works S) (busy : S → Bool) (gives : Gives I) (polls
    : Polls I) (a b : State S) (next : ℕ)
    (rest : List ℕ) (inbox mid left : I) (event : PlainEvent) (events : List PlainEvent) (old now new : StreamLog)
    → Working replies works busy gives polls a b rest inbox mid (Appends old now) → Comes (busy b.adapter) gives
    polls mid (Event event) left
    → b.present ≡ true → IsOpen rest → events ≡ event ∷ [] → Tells events b.next next (Appends now new)
    → Working replies works busy gives polls a (state b.adapter next true) rest inbox left (Appends old new)
working_event replies works busy gives polls a b next rest inbox mid left event events old now new first gave there
    is_open is all =
    let tells = subst (λ l. Tells l b.next next (Appends now new)) is all in
    working_item replies works busy gives polls a b _ rest rest inbox mid left _ tells.texts old now new first gave
    there is_open (tells.texts_are, cc tells.numbered, refl) tells.written

-- the adapter is the same
pub working_same : {S I : Type 0} (replies : Replies S) (works : Works S) (busy : S → Bool) (gives : Gives I)
    (polls : Polls I) (a : State S) (s t : S) (next : ℕ) (rest : List ℕ) (inbox mid : I) (old now : StreamLog)
    → Working replies works busy gives polls a (state s next true) rest inbox mid (Appends old now) → t ≡ s
    → Working replies works busy gives polls a (state t next true) rest inbox mid (Appends old now)
working_same replies works busy gives polls a s t next rest inbox mid old now working same = rw same working

-- the adapter works
pub working_part : {S I : Type 0} (replies : Replies S) (works : Works S) (busy : S → Bool) (gives : Gives I)
    (polls : Polls I) (a b : State S) (adapter : S) (next : ℕ) (rest : List ℕ) (inbox mid left : I)
    (events : List PlainEvent) (old now new : StreamLog)
    → Working replies works busy gives polls a b rest inbox mid (Appends old now)
    → (busy b.adapter ≡ true) × polls mid None left → b.present ≡ true → IsOpen rest → works b.adapter events adapter
    → Tells events b.next next (Appends now new)
    → Working replies works busy gives polls a (state adapter next true) rest inbox left (Appends old new)
working_part replies works busy gives polls a b adapter next rest inbox mid left events old now new first looked
    there is_open worked tells = rw tells.numbered (record {
      texts = first.texts ++ tells.texts;
      course = works_on b adapter rest mid left events
          first.texts tells.texts first.course there is_open looked.0 looked.1 worked tells.texts_are;
      written = written_both first.texts tells.texts old now new first.written tells.written;
    })

-- ---- an end

-- the session ends by an item
pub worker_ended_by : {S I : Type 0} (replies : Replies S) (works : Works S) (busy : S → Bool) (gives : Gives I)
    (polls : Polls I) (before after : S)
    (b : State S) (rest : List ℕ) (inbox mid left : I) (item : PlainItem) (written now later : StreamLog)
    (result : Result Ending ServeFault)
    → Working replies works busy gives polls (state before 1 true) b rest inbox mid (Appends written now) → Comes
    (busy b.adapter) gives polls mid item left
    → b.present ≡ true → IsOpen rest → ServingEndsBy item result b rest after now later
    → ServedWorker replies works busy gives polls before after inbox left written later result
worker_ended_by replies works busy gives polls before after b rest inbox mid left item old now new result working
    gave there is_open
    ends = record {
      reached = b;
      rest = rest;
      answers = now;
      taken = mid;
      working = working;
      ends = inl (Some item, (gave, there, is_open, ends));
    }

-- the session ends at what it took
pub worker_ended_within : {S I : Type 0} (replies : Replies S) (works : Works S) (busy : S → Bool) (gives : Gives I)
    (polls : Polls I) (before after : S)
    (b : State S) (rest : List ℕ) (inbox left : I) (written now later : StreamLog)
    (result : Result Ending ServeFault)
    → Working replies works busy gives polls (state before 1 true) b rest inbox left (Appends written now)
    → EndsWithin result replies b rest after now later
    → ServedWorker replies works busy gives polls before after inbox left written later result
worker_ended_within replies works busy gives polls before after b rest inbox left written now later result working
    ends = record {
      reached = b;
      rest = rest;
      answers = now;
      taken = left;
      working = working;
      ends = inl (None, (refl, ends));
    }

-- the session ends in the adapter's work
pub worker_ended_in_work : {S I : Type 0} (replies : Replies S) (works : Works S) (busy : S → Bool) (gives : Gives I)
    (polls : Polls I) (before after : S)
    (b : State S) (rest : List ℕ) (inbox mid left : I) (written now later : StreamLog) (f : ServeFault)
    → Working replies works busy gives polls (state before 1 true) b rest inbox mid (Appends written now)
    → (busy b.adapter ≡ true) × polls mid None left
    → b.present ≡ true → IsOpen rest → EndsInWork f works b after now later
    → ServedWorker replies works busy gives polls before after inbox left written later (Err f)
worker_ended_in_work replies works busy gives polls before after b rest inbox mid left written now later f working
    looked there is_open
    ends = record {
      reached = b;
      rest = rest;
      answers = now;
      taken = mid;
      working = working;
      ends = inr (f, refl, looked.0, looked.1, there, is_open, ends);
    }
