-- Each step of the queue keeps its rule.
use Rattle.std.proofs.Common.{◌≡◌, ◌+◌, ℕ, zero, suc, Bool, true, false, true≢false, List, [], ◌∷◌, ◌++◌, set, refl, sym, ap, ◌∙◌, subst, ⊎_elim, inl, inr, rules}
use Rattle.std.specs.Prelude.{◌⊎◌, map, Result, Ok, Err, MatchResult}
use Rattle.std.proofs.lemmas.List.{map-append}
use mathlib.Core.Option.{some, some-injective, some-ne-none}
use lib.ListN.{get_elem?}
use Rattle.byte_streams.specs.Streams.{Supply}
use Rattle.crossbeam_channel.specs.Fifo.{Pushes, Pops}
use Rattle.dap_server.specs.Inbox.{PlainItem, plain_item, Gives, Given, Reads}
use Rattle.dap_server.specs.declared.inbox.Item.{Item}
use Rattle.dap_reader.specs.Delivery.{view_of, through, is_taker, is_sender, receives, Comes, Carries, Took, SentBut}
use Rattle.dap_reader.specs.Serving.{FrontOf}
use Rattle.dap_reader.specs.declared.queue_end.QueueEnd.{QueueEnd}
use Rattle.dap_reader.specs.declared.queue_end.QueueEnd.TheVariants.{Unused, Takes, Sends}

-- ---- the ends

-- the pass is the one at this place, where this view stands
abbrev IsAt : {A : Type 0} → ℕ → A → ℕ → A → Type 0
IsAt pass v place end = (pass ≡ place) × (end ≡ v)

at_one : {A : Type 0} (a v : A) (pass : ℕ) → get_elem? (a ∷ []) pass ≡ some v → IsAt pass v 0 a
at_one a v zero at = (refl, some-injective a v at)
at_one a v (suc pass) at = absurd (some-ne-none v (sym at))

at_two : {A : Type 0} (a b v : A) (pass : ℕ) → get_elem? (a ∷ b ∷ []) pass ≡ some v
    → IsAt pass v 0 a ⊎ IsAt pass v 1 b
at_two a b v zero at = inl (refl, some-injective a v at)
at_two a b v (suc zero) at = inr (refl, some-injective b v at)
at_two a b v (suc (suc pass)) at = absurd (some-ne-none v (sym at))

-- what one end is, the other isn't
no : {A : Type 0} (is : QueueEnd → Bool) (a v : QueueEnd) → a ≡ v → is a ≡ false → is v ≡ true → A
no is a v same other own = absurd (true≢false (sym own ∙ (sym (ap is same) ∙ other)))

no_item : {A : Type 0} (x : Item) (inside : List Item) → x ∷ inside ≡ [] → A
no_item x inside e = absurd (search (e, rules))

-- neither of two ends is of this kind
neither : {A : Type 0} (is : QueueEnd → Bool) (pass : ℕ) (v a b : QueueEnd) → get_elem? (a ∷ b ∷ []) pass ≡ some v
    → is a ≡ false → is b ≡ false → is v ≡ true → A
neither is pass v a b at not_a not_b own =
    ⊎_elim (λ (here : IsAt pass v 0 a). no is a v here.1 not_a own)
    (λ (here : IsAt pass v 1 b). no is b v here.1 not_b own) (at_two a b v pass at)

-- an end changed
changed : {A : Type 0} (ends now : List A) (pass place : ℕ) (w : A) → ends ≡ now → pass ≡ place
    → set ends pass w ≡ set now place w
changed ends now pass place w is at = ap (λ l. set l pass w) is ∙ ap (λ k. set now k w) at

-- ---- the steps

-- one more item was given
given_then : {I : Type 0} (gives : Gives I) (a b c : I) (items : List PlainItem) (item : PlainItem)
    → Given gives a items b → gives b item c → Given gives a (items ++ item ∷ []) c
given_then gives a b c [] item before now = (c, subst (λ i. gives i item c) before now, refl)
given_then gives a b c (one ∷ items) item before now =
    (before.0, before.1, given_then gives before.0 b c items item before.2 now)

pub pushes : (n pass : ℕ) (v : QueueEnd) (x : Item) (s : Supply) → is_sender v ≡ true
    → Comes (through v) (plain_item x) s → Pushes Carries n pass v x (λ w. w ≡ Sends (view_of s))
pushes n pass v x s sends now inside ends room (inl new) at =
    let here = at_one Unused v pass (subst (λ l. get_elem? l pass ≡ some v) new.0 at) in
    no is_sender Unused v here.1 refl sends
pushes n pass v x s sends now inside ends room (inr (inr (taken, sent, whole, given))) at =
    neither is_sender pass v _ _ (subst (λ l. get_elem? l pass ≡ some v) whole at) refl refl sends
pushes n pass v x s sends now inside ends room (inr (inl (taken, sent, many, apart, given))) at =
    ⊎_elim (λ (here : IsAt pass v 0 (Takes (view_of taken) many)).
    no is_sender (Takes (view_of taken) many) v here.1 refl sends)
    (λ (here : IsAt pass v 1 (Sends (view_of sent))). (
      Sends (view_of s),
      inr (inl (
        taken,
        s,
        many,
        changed ends (Takes (view_of taken) many ∷ Sends (view_of sent) ∷ []) pass 1 (Sends (view_of s)) apart here.0,
        subst (λ l. Given Comes taken l s) (sym (map-append plain_item inside (x ∷ [])))
            (given_then Comes taken sent s (map plain_item inside) (plain_item x) given
            (subst (λ e. Comes (through e) (plain_item x) s) (sym here.1) now)),
      )),
      refl,
    ))
    (at_two _ _ v pass (subst (λ l. get_elem? l pass ≡ some v) apart at))

pub pops : (pass : ℕ) (v : QueueEnd) → is_taker v ≡ true → Pops Carries pass v (Took v)
pops pass v takes x inside ends (inl new) at = no_item x inside new.1
pops pass v takes x inside ends (inr (inr (taken, sent, whole, given))) at =
    neither is_taker pass v _ _ (subst (λ l. get_elem? l pass ≡ some v) whole at) refl refl takes
pops pass v takes x inside ends (inr (inl (taken, sent, many, apart, (mid, now, later)))) at =
    ⊎_elim (λ (here : IsAt pass v 0 (Takes (view_of taken) many)). (
      Takes (view_of mid) (many + 1),
      inr (inl (
        mid,
        sent,
        many + 1,
        changed ends (Takes (view_of taken) many ∷ Sends (view_of sent) ∷ []) pass 0
            (Takes (view_of mid) (many + 1)) apart here.0,
        later,
      )),
      (
        refl,
        subst (λ e. Comes (through e) (plain_item x) mid) here.1 now,
        ap (λ e. receives e + 1) here.1,
      ),
    ))
    (λ (here : IsAt pass v 1 (Sends (view_of sent))). no is_taker (Sends (view_of sent)) v here.1 refl takes)
    (at_two _ _ v pass (subst (λ l. get_elem? l pass ≡ some v) apart at))

-- what came is what was read
read_too : (a b : Supply) (items : List PlainItem) → Given Comes a items b → Given Reads a items b
read_too a b [] same = same
read_too a b (item ∷ items) (mid, now, later) = (mid, now.0, read_too mid b items later)

-- what was taken is the front of what was read, where of that all was sent but perhaps the last item
pub front_of : (taken sent read : Supply) (inside : List PlainItem) → Given Comes taken inside sent
    → SentBut sent read → FrontOf taken read
front_of taken sent read inside given (inl all) =
    (inside, read_too taken read inside (subst (λ s. Given Comes taken inside s) all given))
front_of taken sent read inside given (inr (item, comes)) =
    (inside ++ item ∷ [], read_too taken read _ (given_then Comes taken sent read inside item given comes))

-- what holds of an end after a look
pub looked : {E : Type 0} (P : Type 0) (Holds : QueueEnd → Type 0) (found : Result Item E) (before after : QueueEnd)
    → MatchResult found (λ x. Took before x after) (λ _. (after ≡ before) × P)
    → ((x : Item) → Took before x after → Holds after) → Holds before → Holds after
looked P Holds (Ok x) before after rule took same = took x rule
looked P Holds (Err none) before after rule took same = subst Holds (sym rule.0) same
