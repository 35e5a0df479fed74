-- States what holds of a whole conversation: the events that tell that a program has stopped or is gone are as many as
-- the requests that let one go on, or ended one that didn't run, but for one that is owed while it runs.
use Rattle.std.specs.Prelude.{◌≡◌, ◌+◌, ℕ, List, [], ◌∷◌, Option, None, Some}
use Rattle.dap_server.specs.Messages.{events_after}
use Rattle.dap_server.specs.Requests.{Request}
use Rattle.dap_server.specs.Conversation.{State, Handles, Conversation}
use Rattle.dap_server.specs.Inbox.{PlainItem, Bytes, Gives, TakesOne}
use Rattle.dap_server.specs.Working as courses
use Rattle.dap_server.specs.Working.{Polls, Course}
use Rattle.dap_debug.specs.Commands.{checked, command_of}
use Rattle.dap_debug.specs.Laws.{asks, ends_told, owed}
use Rattle.dap_debug.specs.Loading.{ReadsFiles, Situation}
use Rattle.dap_debug.specs.Replies.{Known}
use Rattle.dap_debug.specs.Serving.{replied_by, worked_by, runs_in}

-- ---- how many ends requests ask for

abbrev pub asked_by : {S F : Type 0} → State (Situation S F) → Option Request → ℕ
asked_by a None = 0
asked_by a (Some request) = asks (checked (command_of request.command) request.arguments) a.adapter.stands.phase

module _ {S F : Type 0} (known : Known S) (reads : ReadsFiles F) where
  abbrev pub asked_in : (a b : State (Situation S F)) (contents texts : List (List ℕ))
      → Conversation (replied_by known reads) a contents texts b → ℕ
  asked_in a b [] texts talk = 0
  asked_in a b (content ∷ contents) texts talk =
      asked_by a talk.1.3.0 + asked_in talk.1.0 b contents talk.1.2 talk.1.4

  abbrev pub asked_at : (a b : State (Situation S F)) (rest later : List ℕ) (item : PlainItem) (texts : List (List ℕ))
      → TakesOne (replied_by known reads) a rest item texts b later → ℕ
  asked_at a b rest later (Bytes bytes) texts taken = asked_in a b taken.0 texts taken.2
  asked_at a b rest later _ texts taken = 0

  -- ---- how many ends are told

  abbrev pub told_by : (a b : State (Situation S F)) (request : Option Request) (texts : List (List ℕ))
      → Handles (replied_by known reads) a request texts b → ℕ
  told_by a b None texts handled = 0
  told_by a b (Some request) texts handled = ends_told (events_after request.command handled.reply.events)

  abbrev pub told_in : (a b : State (Situation S F)) (contents texts : List (List ℕ))
      → Conversation (replied_by known reads) a contents texts b → ℕ
  told_in a b [] texts talk = 0
  told_in a b (content ∷ contents) texts talk =
      told_by a talk.1.0 talk.1.3.0 talk.1.1 talk.1.3.2 + told_in talk.1.0 b contents talk.1.2 talk.1.4

  abbrev pub told_at : (a b : State (Situation S F)) (rest later : List ℕ) (item : PlainItem) (texts : List (List ℕ))
      → TakesOne (replied_by known reads) a rest item texts b later → ℕ
  told_at a b rest later (Bytes bytes) texts taken = told_in a b taken.0 texts taken.2
  told_at a b rest later _ texts taken = 0

-- ---- in a whole conversation

module _ {S F I : Type 0} (known : Known S) (reads : ReadsFiles F) (gives : Gives I) (polls : Polls I) where
  abbrev pub asked : (a : State (Situation S F)) (inbox : I) (b : State (Situation S F)) (rest : List ℕ) (left : I)
      (texts : List (List ℕ))
      → Course (replied_by known reads) (worked_by known) runs_in gives polls a inbox b rest left texts → ℕ
  asked a inbox b rest left texts courses.begins = 0
  asked a inbox b rest left texts
      (courses.takes m n before after j k item first later course there is_open comes taken) =
      asked a inbox m before j first course + asked_at known reads m n before after item later taken
  asked a inbox b rest left texts
      (courses.works_on m adapter before j k events first later course there is_open busy none worked are) =
      asked a inbox m before j first course

  -- by the session: what an inbox adds isn't counted
  abbrev pub told : (a : State (Situation S F)) (inbox : I) (b : State (Situation S F)) (rest : List ℕ) (left : I)
      (texts : List (List ℕ))
      → Course (replied_by known reads) (worked_by known) runs_in gives polls a inbox b rest left texts → ℕ
  told a inbox b rest left texts courses.begins = 0
  told a inbox b rest left texts
      (courses.takes m n before after j k item first later course there is_open comes taken) =
      told a inbox m before j first course + told_at known reads m n before after item later taken
  told a inbox b rest left texts
      (courses.works_on m adapter before j k events first later course there is_open busy none worked are) =
      told a inbox m before j first course + ends_told events

-- What was told, and what is owed at the end, is what requests asked for, and what was owed at first.
abbrev pub EachEndsOnce : {S F I : Type 0} → Known S → ReadsFiles F → Gives I → Polls I → Type 0
EachEndsOnce {S} {F} {I} known reads gives polls =
    (a b : State (Situation S F)) (inbox left : I) (rest : List ℕ) (texts : List (List ℕ))
    (course : Course (replied_by known reads) (worked_by known) runs_in gives polls a inbox b rest left texts)
    → owed b.adapter.stands.phase + told known reads gives polls a inbox b rest left texts course
    ≡ owed a.adapter.stands.phase + asked known reads gives polls a inbox b rest left texts course
