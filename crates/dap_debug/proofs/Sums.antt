-- Each run of a conversation ends once: the sum of what its turns owe.
use Rattle.std.proofs.Common.{◌≡◌, ◌+◌, ℕ, Bool, true, false, List, [], ◌∷◌, refl, ap, subst, arith, Option, None, Some}
use Rattle.std.specs.Prelude.{codes}
use Rattle.std.proofs.lemmas.Slice.Eq.{bytes_eq-Decides}
use Rattle.serde_json.specs.Data.{Data}
use Rattle.dap_server.specs.Messages.{PlainReply, events_after, leaves}
use Rattle.dap_server.specs.Requests.{Request}
use Rattle.dap_server.specs.Conversation.{State, Handles, Conversation}
use Rattle.dap_server.specs.Inbox.{PlainItem, Bytes, Event, Gives, TakesOne}
use Rattle.dap_server.specs.Working as courses
use Rattle.dap_server.specs.Working.{Polls, Course}
use Rattle.dap_debug.specs.Commands.{command_of}
use Rattle.dap_debug.specs.Laws.{ends_told, owed}
use Rattle.dap_debug.specs.Loading.{ReadsFiles, Situation}
use Rattle.dap_debug.specs.Replies.{Known, RepliesTo}
use Rattle.dap_debug.specs.Serving.{replied_by, worked_by, runs_in}
use Rattle.dap_debug.specs.Standings.{Standing}
use Rattle.dap_debug.specs.Sums.{asked_by, asked_in, asked_at, asked, told_by, told_in, told_at, told}
use Rattle.dap_debug.proofs.Balance.{work_balanced, replies_balanced}

-- no event of a session comes with the answer to `disconnect`
sent_alike : {S : Type 0} (known : Known S) (name : List ℕ) (arguments : Option Data) (stood stands : Standing S)
    (reply : PlainReply) (b : Bool) → leaves name ≡ b → RepliesTo known (command_of name) arguments stood reply stands
    → ends_told (events_after name reply.events) ≡ ends_told reply.events
sent_alike known name arguments stood stands reply false stays is = cc
sent_alike known name arguments stood stands reply true left is =
    let same : name ≡ codes "disconnect" = (bytes_eq-Decides name (codes "disconnect")).0 left in
    let quiet = subst (λ n. RepliesTo known (command_of n) arguments stood reply stands) same is in
    cc quiet.0

still : {S F : Type 0} (a b : State (Situation S F)) → b ≡ a → owed b.adapter.stands.phase ≡ owed a.adapter.stands.phase
still a b is = ap (λ (s : State (Situation _ _)). owed s.adapter.stands.phase) is

answered : {S F : Type 0} (known : Known S) (reads : ReadsFiles F) (a b : State (Situation S F))
    (request : Option Request)
    (texts : List (List ℕ)) (is : Handles (replied_by known reads) a request texts b)
    → owed b.adapter.stands.phase + told_by known reads a b request texts is ≡ owed a.adapter.stands.phase + asked_by a
    request
answered known reads a b None texts is = let same = still a b is.1 in omega (arith, same)
answered known reads a b (Some request) texts is =
    let sum = replies_balanced known _ request.arguments a.adapter.stands b.adapter.stands is.reply is.replied.0 in
    let sent = sent_alike known request.command request.arguments a.adapter.stands b.adapter.stands is.reply _ refl
    is.replied.0 in
    omega (arith, sum, sent)

talked : {S F : Type 0} (known : Known S) (reads : ReadsFiles F) (a b : State (Situation S F))
    (contents texts : List (List ℕ))
    (is : Conversation (replied_by known reads) a contents texts b)
    → owed b.adapter.stands.phase + told_in known reads a b contents texts is
    ≡ owed a.adapter.stands.phase + asked_in known reads a b contents texts is
talked known reads a b [] texts is = let same = still a b is.1 in omega (arith, same)
talked known reads a b (content ∷ contents) texts is =
    let first = answered known reads a is.1.0 is.1.3.0 is.1.1 is.1.3.2 in
    let later = talked known reads is.1.0 b contents is.1.2 is.1.4 in
    omega (arith, first, later)

took : {S F : Type 0} (known : Known S) (reads : ReadsFiles F) (a b : State (Situation S F)) (rest later : List ℕ)
    (item : PlainItem)
    (texts : List (List ℕ)) (is : TakesOne (replied_by known reads) a rest item texts b later)
    → owed b.adapter.stands.phase + told_at known reads a b rest later item texts is
    ≡ owed a.adapter.stands.phase + asked_at known reads a b rest later item texts is
took known reads a b rest later (Bytes bytes) texts is = talked known reads a b is.0 texts is.2
took known reads a b rest later (Event event) texts is = let same = still _ b is.1 in omega (arith, same)
took known reads a b rest later _ texts is = absurd is

pub each_ends_once : {S F I : Type 0} (known : Known S) (reads : ReadsFiles F) (gives : Gives I) (polls : Polls I)
    (a : State (Situation S F))
    (inbox : I) (b : State (Situation S F)) (rest : List ℕ) (left : I) (texts : List (List ℕ))
    (course : Course (replied_by known reads) (worked_by known) runs_in gives polls a inbox b rest left texts)
    → owed b.adapter.stands.phase + told known reads gives polls a inbox b rest left texts course
    ≡ owed a.adapter.stands.phase + asked known reads gives polls a inbox b rest left texts course
each_ends_once known reads gives polls a inbox b rest left texts courses.begins = refl
each_ends_once known reads gives polls a inbox b rest left texts
    (courses.takes m n before after j k item first later course there is_open comes taken) =
    let earlier = each_ends_once known reads gives polls a inbox m before j first course in
    let more = took known reads m n before after item later taken in
    omega (arith, earlier, more)
each_ends_once known reads gives polls a inbox b rest left texts
    (courses.works_on m adapter before j k events first later course there is_open busy none worked are) =
    let earlier = each_ends_once known reads gives polls a inbox m before j first course in
    let more = work_balanced known.takes known.sees m.adapter.stands adapter.stands events worked.0 in
    omega (arith, earlier, more)
