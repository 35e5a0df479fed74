-- A session that only waits is one over an inbox.
use Rattle.std.proofs.Common.{ℕ, Bool, true, false, List, [], ◌∷◌, ◌++◌, refl, Option, None, Some, inl, inr}
use Rattle.std.specs.Prelude.{Result}
use Rattle.byte_streams.specs.Streams.{StreamLog}
use Rattle.dap_server.specs.Conversation.{State, state, Replies}
use Rattle.dap_server.specs.Inbox.{PlainItem, Gives, Given, TakesAll}
use Rattle.dap_server.specs.ServingInbox.{EndsAt, ServedInbox}
use Rattle.dap_server.specs.ServingInbox.{OwesNothing as InboxOwesNothing}
use Rattle.dap_server.specs.Working.{Works, Polls, Comes, Course, begins, takes, works_on, WorkerEnds, ServedWorker, OwesNothing}
use Rattle.dap_server.specs.declared.ending.Ending.{Ending}
use Rattle.dap_server.specs.declared.ending.ServeFault.{ServeFault}
use Rattle.dap_server.proofs.Taking.{given_then, takes_then}

-- it is never busy
abbrev idle : {S : Type 0} → S → Bool
idle adapter = false

-- it never looks
abbrev unlooked : {I : Type 0} → Polls I
unlooked before found after = ⊥

came : {I : Type 0} (gives : Gives I) (before after : I) (item : PlainItem)
    → Comes false gives unlooked before item after → gives before item after
came gives before after item (inl found) = absurd found
came gives before after item (inr waited) = waited.1

module _ {S I : Type 0} (replies : Replies S) (works : Works S) (gives : Gives I) where
  all_taken : (a : State S) (inbox : I) (b : State S) (rest : List ℕ) (left : I) (texts : List (List ℕ))
      → Course replies works idle gives unlooked a inbox b rest left texts
      → (items : List PlainItem) × Given gives inbox items left × TakesAll replies a [] items texts b rest
  all_taken a inbox b rest left texts begins = ([], refl, (refl, refl, refl))
  all_taken a inbox b rest left texts (takes m c before more j k item sent later first there is_open comes taken) =
      let so_far = all_taken a inbox m before j sent first in (
        so_far.0 ++ item ∷ [],
        given_then gives inbox j k so_far.0 item so_far.1 (came gives j k item comes),
        takes_then replies a m c [] before more so_far.0 item sent later so_far.2 there is_open taken,
      )
  all_taken a inbox b rest left texts (works_on m adapter before j k events sent later first there is_open busy looked
      worked are) = absurd looked

  ends_at : (last : Option PlainItem) (taken left : I) (result : Result Ending ServeFault) (b : State S)
      (rest : List ℕ) (adapter : S) (written later : StreamLog)
      → EndsAt last (Comes false gives unlooked) taken left result replies b rest adapter written later
      → EndsAt last gives taken left result replies b rest adapter written later
  ends_at None taken left result b rest adapter written later ends = ends
  ends_at (Some item) taken left result b rest adapter written later ends =
      (came gives taken left item ends.0, ends.1, ends.2, ends.3)

  at_an_item : (taken left : I) (result : Result Ending ServeFault) (b : State S) (rest : List ℕ) (adapter : S)
      (written later : StreamLog)
      → WorkerEnds works idle gives unlooked taken left result replies b rest adapter written later
      → (last : Option PlainItem) × EndsAt last gives taken left result replies b rest adapter written later
  at_an_item taken left result b rest adapter written later (inl ends) =
      (ends.0, ends_at ends.0 taken left result b rest adapter written later ends.1)
  at_an_item taken left result b rest adapter written later (inr ends) = absurd ends.3

  pub served_waiting : (before after : S) (inbox left : I) (written later : StreamLog)
      (result : Result Ending ServeFault)
      → ServedWorker replies works idle gives unlooked before after inbox left written later result
      → ServedInbox replies gives before after inbox left written later result
  served_waiting before after inbox left written later result is =
      let all = all_taken (state before 1 true) inbox is.reached is.rest is.taken is.working.texts is.working.course in
      let ends = at_an_item is.taken left result is.reached is.rest after is.answers later is.ends in
      record {
        reached = is.reached;
        rest = is.rest;
        answers = is.answers;
        taken = is.taken;
        session = record {
          items = all.0;
          texts = is.working.texts;
          given = all.1;
          taken = all.2;
          written = is.working.written;
        };
        last = ends.0;
        ends = ends.1;
      }

  pub owes_nothing_waiting : (before : S) (inbox now : I) (written later : StreamLog)
      → OwesNothing replies works idle gives unlooked before inbox now written later
      → InboxOwesNothing replies gives before inbox now written later
  owes_nothing_waiting before inbox now written later is =
      let all = all_taken (state before 1 true) inbox is.reached is.rest now is.working.texts is.working.course in
      record {
        reached = is.reached;
        rest = is.rest;
        session = record {
          items = all.0;
          texts = is.working.texts;
          given = all.1;
          taken = all.2;
          written = is.working.written;
        };
        there = is.there;
        is_open = is.is_open;
      }
