-- What a session has sent where it owes nothing, or a launch alone, is determined.
use Rattle.std.proofs.Common.{◌≡◌, ◌⊎◌, inl, inr, ℕ, List, [], ◌∷◌, ◌++◌, None, refl, sym, ◌∙◌, ap, subst, arith}
use Rattle.std.proofs.lemmas.List.{append_cancel_left}
use Rattle.dap_msg.specs.declared.request.Dialect.{Dialect}
use Rattle.dap_history.specs.Events.{Incoming, Piece, End, ReadFailed, File, Report, Rest, IsTaking}
use Rattle.dap_history.specs.Events.{NoMemory as NoMemoryCame}
use Rattle.dap_history.specs.Interleaving.{Load, Awaits, AwaitsNone, IsLoad, Interleaves}
use Rattle.dap_history.specs.Laws.{HistoryIsOne}
use Rattle.dap_session.specs.Laws.{SentIsKnown}
use Rattle.std.proofs.lemmas.Grind.{common_steps}

-- a launch doesn't both wait and not wait
not_both : HistoryIsOne → (dialect : Dialect) (before : List Incoming) (path : List ℕ) → Awaits dialect before path
    → ¬ AwaitsNone dialect before
not_both one dialect before path some none = by_none none.waits
  where
    same : (some.past ≡ none.past) × (some.rest ≡ none.rest)
    same = one dialect before some.past none.past some.rest none.rest some.history none.history

    by_none : ¬ ((¬ IsTaking none.past) ⊎ (none.rest.launch ≡ None))
    by_none (inl not) = not (subst IsTaking same.0 some.taking)
    by_none (inr is) = let e = sym some.waits ∙ ap (λ (r : Rest). r.launch) same.1 ∙ is in absurd cc

-- an event that was loaded is the loader's answer for a launch that waits
load_is : (dialect : Dialect) (before : List Incoming) (e : Incoming) (load : Load) → IsLoad dialect before e load
    → (e ≡ File load.answer) × Awaits dialect before load.path
load_is dialect before (File file) load is = (ap File (sym is.0), is.1)
load_is dialect before (Piece bytes) load is = absurd is
load_is dialect before End load is = absurd is
load_is dialect before ReadFailed load is = absurd is
load_is dialect before NoMemoryCame load is = absurd is
load_is dialect before (Report r) load is = absurd is

-- what an inbox and a loader returned is interleaved in one way
one_way : HistoryIsOne → (dialect : Dialect) (before xs ys given : List Incoming) (loads : List Load)
    → Interleaves dialect before xs given loads → Interleaves dialect before ys given loads → xs ≡ ys
one_way one dialect before [] [] given loads a b = refl
one_way one dialect before [] (y ∷ ys) given loads a (inl b) = let e = sym a.1 ∙ b.2 in absurd cc
one_way one dialect before [] (y ∷ ys) given loads a (inr b) = let e = sym a.0 ∙ b.1 in absurd cc
one_way one dialect before (x ∷ xs) [] given loads (inl a) b = let e = sym b.1 ∙ a.2 in absurd cc
one_way one dialect before (x ∷ xs) [] given loads (inr a) b = let e = sym b.0 ∙ a.1 in absurd cc
one_way one dialect before (x ∷ xs) (y ∷ ys) given loads (inl a) (inr b) =
    absurd (not_both one dialect before a.0.path (load_is dialect before x a.0 a.3).1 b.2)
one_way one dialect before (x ∷ xs) (y ∷ ys) given loads (inr a) (inl b) =
    absurd (not_both one dialect before b.0.path (load_is dialect before y b.0 b.3).1 a.2)
one_way one dialect before (x ∷ xs) (y ∷ ys) given loads (inl a) (inl b) =
    let both = sym a.2 ∙ b.2 in
    let load : a.0 ≡ b.0 = cc in
    let more : a.1 ≡ b.1 = cc in
    let same = (load_is dialect before x a.0 a.3).0 ∙ ap (λ l. File l.answer) load
    ∙ sym (load_is dialect before y b.0 b.3).0 in
    let rest = one_way one dialect (before ++ x ∷ []) xs ys given a.1 a.4
    (subst (λ e. Interleaves dialect (before ++ e ∷ []) ys given a.1) (sym same)
    (subst (λ l. Interleaves dialect (before ++ y ∷ []) ys given l) (sym more) b.4)) in
    cc
one_way one dialect before (x ∷ xs) (y ∷ ys) given loads (inr a) (inr b) =
    let both = sym a.1 ∙ b.1 in
    let same : x ≡ y = cc in
    let more : a.0 ≡ b.0 = cc in
    let rest = one_way one dialect (before ++ x ∷ []) xs ys a.0 loads a.3
    (subst (λ e. Interleaves dialect (before ++ e ∷ []) ys a.0 loads) (sym same)
    (subst (λ g. Interleaves dialect (before ++ y ∷ []) ys g loads) (sym more) b.3)) in
    cc

pub sent_is_known : HistoryIsOne → SentIsKnown
sent_is_known one dialect path other begin now old later last a b =
    grind (arith, common_steps, append_cancel_left, one_way)
