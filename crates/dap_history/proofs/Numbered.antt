-- The message numbered n is the nth.
use Rattle.dap_history.proofs.Common.{AreReadAs, Content, ContentsAreOfTheStream, Dialect, FramesAreFew, History, IsRequestFrom, Item, Loaded, None, Option, Outgoing, Request, Some, Step, [], ap, arith, filter_map, messages_of, read_as, refl, slice_get, suc, waiting, zero, ℕ, ◌++◌, ◌+◌, ◌<◌, ◌^◌, ◌∙◌, ◌∷◌, ◌≡◌, sym}
use Rattle.std.proofs.Common.{List, map}
use Rattle.std.specs.Prelude.{option_map}
use Rattle.dap_frame.specs.Frame.{frame_of}
use Rattle.dap_msg.specs.Outgoing.{text_of}
use Rattle.dap_msg.specs.Laws.{RequestsEcho, MessagesAreReadBack}
use Rattle.dap_history.specs.Output.{frames_from}
use Rattle.dap_history.specs.Laws.{SeqCountFromOne, FramesAreReadBack}
use Rattle.dap_history.proofs.Fitting.{ItemFits, ItemsFit, message_fits, history_fits}

numbered : (k : ℕ) (messages : List Outgoing) (n : ℕ) → slice_get (frames_from k messages) n ≡ option_map
    (λ message. frame_of (text_of message (n + k))) (slice_get messages n)
numbered k [] n = refl
numbered k (m ∷ messages) zero = ap (λ j. Some (frame_of (text_of m j))) (omega arith)
numbered k (m ∷ messages) (suc n) =
    numbered (k + 1) messages n ∙ ap (λ j. option_map (λ message. frame_of (text_of message j)) (slice_get messages n))
    (omega arith)

pub numbers_count : SeqCountFromOne
numbers_count messages n = numbered 1 messages n

-- ---- the numbers of requests, and so of their answers, are of 64 bits

seq_small : RequestsEcho → (dialect : Dialect) (content : List ℕ) (request : Request)
    → IsRequestFrom dialect content (Some request) → request.seq < 2 ^ 64
seq_small echo dialect content request is =
    let told = echo dialect content request is in
    let same : told.2.seq ≡ request.seq = let e = sym told.2.numbered ∙ told.3 in cc in
    omega (arith, told.2.to_last)

abbrev items : History → List Item
items past = map (λ (step : Step). step.item) past

item_small : RequestsEcho → (f : Dialect) (item : Item) (others : List Item) (waits : List (Option Request))
    (contents : List (List ℕ)) → AreReadAs f contents (filter_map read_as (item ∷ others) ++ waits)
    → ItemFits item × ((left : List (List ℕ)) × AreReadAs f left (filter_map read_as others ++ waits))
item_small echo f (Content None) others waits [] are = absurd are
item_small echo f (Content None) others waits (c ∷ cs) are = (tt, (cs, are.1))
item_small echo f (Content (Some request)) others waits [] are = absurd are
item_small echo f (Content (Some request)) others waits (c ∷ cs) are = (seq_small echo f c request are.0, (cs, are.1))
item_small echo f (Loaded launch file) others waits [] are = absurd are
item_small echo f (Loaded launch file) others waits (c ∷ cs) are = (seq_small echo f c _ are.0, (cs, are.1))
item_small echo f _ others waits contents are = (tt, (contents, are))

items_small : RequestsEcho → (f : Dialect) (past : History) (waits : List (Option Request)) (contents : List (List ℕ))
    → AreReadAs f contents (filter_map read_as (items past) ++ waits) → ItemsFit past
items_small echo f [] waits contents are = tt
items_small echo f (step ∷ past) waits contents are =
    let first = item_small echo f step.item (items past) waits contents are in
    (first.0, items_small echo f past waits first.1.0 first.1.1)

pub frames_read_back : ContentsAreOfTheStream → RequestsEcho → MessagesAreReadBack → FramesAreFew → FramesAreReadBack
frames_read_back contents echo back few f events past rest history n message is small =
    let stream = contents f events past rest history in
    let fits = message_fits (messages_of past) n message (history_fits few f events past rest history (items_small echo
    f past (waiting rest.launch) stream.0 stream.2)) is in
    (text_of message (n + 1), cc (numbers_count (messages_of past) n), back message (n + 1) fits small)
