-- A conversation over an inbox, of which what it gives is known, is one over what is known of it; and what no item
-- changes of the inbox stays.
use Rattle.std.proofs.Common.{◌≡◌, ℕ, Bool, List, refl, ap, ◌∙◌, Option, None, Some, inl, inr}
use Rattle.std.specs.Prelude.{Result}
use Rattle.byte_streams.specs.Streams.{StreamLog}
use Rattle.dap_server.specs.Conversation.{State, Replies}
use Rattle.dap_server.specs.Inbox.{PlainItem, Gives}
use Rattle.dap_server.specs.ServingInbox.{EndsAt}
use Rattle.dap_server.specs.Working as courses
use Rattle.dap_server.specs.Working.{Works, Polls, Comes, Course, OwesNothing, OwesNothingIdle, WorkerEnds, ServedWorker}
use Rattle.dap_server.specs.declared.ending.Ending.{Ending}
use Rattle.dap_server.specs.declared.ending.ServeFault.{ServeFault}

module _ {I K Q : Type 0} (know : I → K) (stays : I → Q) (gives : Gives K) (polls : Polls K) where
  -- what an inbox gives, where it is what is given of what is known, and the rest stays
  abbrev given : Gives I
  given a item b = gives (know a) item (know b) × (stays b ≡ stays a)

  abbrev found : Polls I
  found a item b = polls (know a) item (know b) × (stays b ≡ stays a)

  came : (busy : Bool) (a : I) (item : PlainItem) (b : I) → Comes busy given found a item b
      → Comes busy gives polls (know a) item (know b) × (stays b ≡ stays a)
  came busy a item b (inl at_a_look) = (inl at_a_look.0, at_a_look.1)
  came busy a item b (inr awaited) = (inr (awaited.0, awaited.1.0), awaited.1.1)

  coursed : {S : Type 0} (replies : Replies S) (works : Works S) (busy : S → Bool) (a : State S) (inbox : I)
      (b : State S) (rest : List ℕ) (left : I) (texts : List (List ℕ))
      → Course replies works busy given found a inbox b rest left texts
      → Course replies works busy gives polls a (know inbox) b rest (know left) texts × (stays left ≡ stays inbox)
  coursed replies works busy a inbox b rest left texts courses.begins = (courses.begins, refl)
  coursed replies works busy a inbox b rest left texts
      (courses.takes m n before after j k item first later course there is_open comes taken) =
      let so_far = coursed replies works busy a inbox m before j first course in
      let now = came (busy m.adapter) j item k comes in (
        courses.takes m n before after (know j) (know k) item first later so_far.0 there is_open now.0 taken,
        now.1 ∙ so_far.1,
      )
  coursed replies works busy a inbox b rest left texts
      (courses.works_on m adapter before j k events first later course there is_open busy_is none worked told) =
      let so_far = coursed replies works busy a inbox m before j first course in (
        courses.works_on m adapter before (know j) (know k) events first later so_far.0 there is_open busy_is none.0
            worked told,
        none.1 ∙ so_far.1,
      )

  pub owed : {S : Type 0} (replies : Replies S) (works : Works S) (busy : S → Bool) (before : S) (inbox now : I)
      (written later : StreamLog) → OwesNothing replies works busy given found before inbox now written later
      → OwesNothing replies works busy gives polls before (know inbox) (know now) written later
      × (stays now ≡ stays inbox)
  owed replies works busy before inbox now written later is =
      let course = coursed replies works busy _ inbox _ _ now _ is.working.course in (
        record {
          reached = is.reached;
          rest = is.rest;
          working = record { texts = is.working.texts; course = course.0; written = is.working.written };
          there = is.there;
          is_open = is.is_open;
        },
        course.1,
      )

  pub owed_idle : {S : Type 0} (replies : Replies S) (works : Works S) (busy : S → Bool) (before : S) (inbox now : I)
      (written later : StreamLog) → OwesNothingIdle replies works busy given found before inbox now written later
      → OwesNothingIdle replies works busy gives polls before (know inbox) (know now) written later
      × (stays now ≡ stays inbox)
  unfolding owed
  owed_idle replies works busy before inbox now written later is =
      let owes = owed replies works busy before inbox now written later is.0 in ((owes.0, is.1), owes.1)

  ended_at : {S : Type 0} (last : Option PlainItem) (busy : Bool) (inbox left : I) (result : Result Ending ServeFault)
      (replies : Replies S) (b : State S) (rest : List ℕ) (adapter : S) (written later : StreamLog)
      → EndsAt last (Comes busy given found) inbox left result replies b rest adapter written later
      → EndsAt last (Comes busy gives polls) (know inbox) (know left) result replies b rest adapter written later
      × (stays left ≡ stays inbox)
  ended_at None busy inbox left result replies b rest adapter written later is = ((ap know is.0, is.1), ap stays is.0)
  ended_at (Some item) busy inbox left result replies b rest adapter written later is =
      let now = came busy inbox item left is.0 in ((now.0, is.1, is.2, is.3), now.1)

  ended : {S : Type 0} (works : Works S) (busy : S → Bool) (inbox left : I) (result : Result Ending ServeFault)
      (replies : Replies S) (b : State S) (rest : List ℕ) (adapter : S) (written later : StreamLog)
      → WorkerEnds works busy given found inbox left result replies b rest adapter written later
      → WorkerEnds works busy gives polls (know inbox) (know left) result replies b rest adapter written later
      × (stays left ≡ stays inbox)
  ended works busy inbox left result replies b rest adapter written later (inl is) =
      let now = ended_at is.0 (busy b.adapter) inbox left result replies b rest adapter written later is.1 in
      (inl (is.0, now.0), now.1)
  ended works busy inbox left result replies b rest adapter written later (inr is) =
      (inr (is.0, is.1, is.2, is.3.0, is.4, is.5, is.6), is.3.1)

  pub served : {S : Type 0} (replies : Replies S) (works : Works S) (busy : S → Bool) (before after : S)
      (inbox left : I) (written later : StreamLog) (result : Result Ending ServeFault)
      → ServedWorker replies works busy given found before after inbox left written later result
      → ServedWorker replies works busy gives polls before after (know inbox) (know left) written later result
      × (stays left ≡ stays inbox)
  served replies works busy before after inbox left written later result is =
      let course = coursed replies works busy _ inbox _ _ is.taken _ is.working.course in
      let ends = ended works busy is.taken left result replies is.reached is.rest after is.answers later is.ends in (
        record {
          reached = is.reached;
          rest = is.rest;
          answers = is.answers;
          taken = know is.taken;
          working = record { texts = is.working.texts; course = course.0; written = is.working.written };
          ends = ends.0;
        },
        ends.1 ∙ course.1,
      )
