-- Each step of a queue keeps its rule.
use Rattle.std.proofs.Common.{◌≡◌, ◌≢◌, ℕ, zero, suc, Bool, true, false, not, true≢false, List, [], ◌∷◌, ◌++◌, length, set, sym, refl, ap, ◌∙◌, subst, ⊎_elim, inl, inr, append_assoc}
use Rattle.std.specs.Prelude.{filter, ◌⊎◌}
use Rattle.std.proofs.lemmas.List.{append-nil}
use Rattle.std.proofs.lemmas.List.Elements.{filter-append}
use mathlib.Core.Option.{some, some-injective, some-ne-none}
use lib.ListN.{get_elem?}
use Rattle.crossbeam_channel.specs.Fifo.{Pushes, Pops, Forks, Merges, Learns}
use Rattle.atomic_table.proofs.Lists.{at_set}
use Rattle.dap_wires.specs.declared.end_log.EndLog.{EndLog}
use Rattle.dap_wires.specs.Delivery.{unused, every_right, of_first, of_second, Fits, Delivers, May, put, took, WasInside, Balances, only_first, only_second, without_first, without_second, idle, with_first, with_second}

module _ {M : Type 0} where
  abbrev Each : (ℕ → EndLog M → Type 0) → List (EndLog M) → Type 0
  Each F views = (pass : ℕ) (v : EndLog M) → get_elem? views pass ≡ some v → F pass v

  -- what holds of the changed pass and of each other one holds of all
  each_set : (F : ℕ → EndLog M → Type 0) (views : List (EndLog M)) (pass : ℕ) (w : EndLog M) → F pass w
      → ((j : ℕ) (u : EndLog M) → j ≢ pass → get_elem? views j ≡ some u → F j u) → Each F (set views pass w)
  each_set F views pass w mine others j u e =
      ⊎_elim (λ (x : (j ≡ pass) × (w ≡ u)). subst (λ (y : ℕ × EndLog M). F y.0 y.1) (λ i. (sym x.0 i, x.1 i)) mine)
      (λ (x : (j ≢ pass) × (get_elem? views j ≡ some u)). others j u x.0 x.1) (at_set views pass j w u e)

  at_first : (a b : EndLog M) (j : ℕ) → get_elem? (a ∷ []) j ≡ some b → j ≡ 0
  at_first a b zero e = refl
  at_first a b (suc j) e = absurd (some-ne-none b (sym e))

  at_snoc_place : (l : List (EndLog M)) (a b : EndLog M) (j : ℕ) → get_elem? (l ++ a ∷ []) j ≡ some b
      → (get_elem? l j ≡ some b) ⊎ ((j ≡ length l) × (a ≡ b))
  at_snoc_place [] a b zero e = inr (refl, some-injective a b e)
  at_snoc_place [] a b (suc j) e = absurd (some-ne-none b (sym e))
  at_snoc_place (x ∷ xs) a b zero e = inl e
  at_snoc_place (x ∷ xs) a b (suc j) e = ⊎_elim (λ y. inl y) (λ y. inr (ap suc y.0, y.1)) (at_snoc_place xs a b j e)

  -- a list gains a message at its end
  gains : (p : M → Bool) (taken inside : List M) (m : M) → filter p (taken ++ (inside ++ m ∷ [])) ≡ filter p
      (taken ++ inside) ++ filter p (m ∷ [])
  gains p taken inside m =
      ap (filter p) (sym (append_assoc taken inside (m ∷ []))) ∙ filter-append p (taken ++ inside) (m ∷ [])

  -- one of the other sender changes nothing
  passes_over : (p : M → Bool) (ms : List M) (m : M) → p m ≡ false → ms ≡ ms ++ filter p (m ∷ [])
  passes_over p ms m other = rw other (sym (append-nil ms))

  module _ (by : M → Bool) where
    others_put : (one two taker : ℕ) (taken inside : List M) (pass : ℕ) (v : EndLog M) (m : M) → May by v m
        → Fits by one two taker taken inside pass v
        → (j : ℕ) (u : EndLog M) → j ≢ pass → Fits by one two taker taken inside j u → (b : Bool) → by m ≡ b
        → Fits by one two taker taken (inside ++ m ∷ []) j u
    others_put one two taker taken inside pass v m may mine j u other theirs true is = record {
      first = λ p. (
        (theirs.first p).0,
        (theirs.first p).1 ∙ passes_over (λ x. not (by x)) _ m (ap not is)
            ∙ sym (gains (λ x. not (by x)) taken inside m),
      );
      second = λ p. absurd (other ((theirs.second p).0 ∙ sym (mine.second (rw is at may)).0));
      takes = theirs.takes;
    }
    others_put one two taker taken inside pass v m may mine j u other theirs false is = record {
      first = λ p. absurd (other ((theirs.first p).0 ∙ sym (mine.first (rw is at may)).0));
      second = λ p. ((theirs.second p).0, (theirs.second p).1 ∙ passes_over by _ m is ∙ sym (gains by taken inside m));
      takes = theirs.takes;
    }

    pub pushes : (n pass : ℕ) (v : EndLog M) (m : M) → May by v m
        → Pushes (Delivers by) n pass v m (λ w. w ≡ put by v m)
    pushes n pass v m may inside views room h at =
        let w : EndLog M = put by v m in
        let mine = h.each pass v at in (
          w,
          record {
            one = h.one;
            two = h.two;
            taker = h.taker;
            taken = h.taken;
            each = each_set (Fits by h.one h.two h.taker h.taken (inside ++ m ∷ [])) views pass w
                (record {
                  first = λ p. (
                    (mine.first p).0,
                    ap (λ l. l ++ of_first by (m ∷ [])) (mine.first p).1
                        ∙ sym (gains (λ x. not (by x)) h.taken inside m),
                  );
                  second = λ p. (
                    (mine.second p).0,
                    ap (λ l. l ++ of_second by (m ∷ [])) (mine.second p).1
                        ∙ sym (gains by h.taken inside m),
                  );
                  takes = mine.takes;
                })
                (λ j u other e. others_put h.one h.two h.taker h.taken inside pass v m may mine j u other (h.each j u e)
                (by m) refl);
          },
          refl,
        )

    -- a message goes from inside to what was taken
    moved : (p : M → Bool) (taken inside : List M) (m : M) → filter p (taken ++ m ∷ inside) ≡ filter p
        ((taken ++ m ∷ []) ++ inside)
    moved p taken inside m = ap (filter p) (sym (append_assoc taken (m ∷ []) inside))

    pub pops : (pass : ℕ) (v : EndLog M) → v.takes ≡ true → Pops (Delivers by) pass v (λ m w. w ≡ took v m)
    pops pass v may m inside views h at =
        let w : EndLog M = took v m in
        let mine = h.each pass v at in
        let taken : List M = h.taken ++ m ∷ [] in (
          w,
          record {
            one = h.one;
            two = h.two;
            taker = h.taker;
            taken = taken;
            each = each_set (Fits by h.one h.two h.taker taken inside) views pass w
                (record {
                  first = λ p. ((mine.first p).0, (mine.first p).1 ∙ moved (λ x. not (by x)) h.taken inside m);
                  second = λ p. ((mine.second p).0, (mine.second p).1 ∙ moved by h.taken inside m);
                  takes = λ p. ((mine.takes p).0, ap (λ l. l ++ m ∷ []) (mine.takes p).1);
                })
                (λ j u other e. let theirs = h.each j u e in record {
                  first = λ p. ((theirs.first p).0, (theirs.first p).1 ∙ moved (λ x. not (by x)) h.taken inside m);
                  second = λ p. ((theirs.second p).0, (theirs.second p).1 ∙ moved by h.taken inside m);
                  takes = λ p. absurd (other ((theirs.takes p).0 ∙ sym (mine.takes may).0));
                });
          },
          refl,
        )

    pub learns_inside : (pass : ℕ) (v : EndLog M) → Learns (Delivers by) pass v (WasInside by v)
    learns_inside pass v inside views h at =
        let mine = h.each pass v at in (h.taken, (λ p. (mine.first p).1), λ p. (mine.second p).1)

    pub learns_whole : (pass : ℕ) (v : EndLog M) → v.first ≡ true → v.second ≡ true → v.takes ≡ true
        → Learns (Delivers by) pass v (Balances by v)
    learns_whole pass v a b c inside views h at =
        let mine = h.each pass v at in (
          (mine.first a).1 ∙ ap (λ l. of_first by (l ++ inside)) (sym (mine.takes c).1),
          (mine.second b).1 ∙ ap (λ l. of_second by (l ++ inside)) (sym (mine.takes c).1),
        )

    -- one pass with every right over an empty queue
    pub begins : Delivers by [] (unused every_right ∷ [])
    begins = record {
      one = 0;
      two = 0;
      taker = 0;
      taken = [];
      each = λ j u e. each_set (Fits by 0 0 0 [] []) (unused every_right ∷ []) 0 (unused every_right)
          (record { first = λ _. (refl, refl); second = λ _. (refl, refl); takes = λ _. (refl, refl) })
          (λ k w other at. absurd (other (at_first (unused every_right) w k at)))
          j u e;
    }

    -- a new pass comes last
    each_snoc : (F : ℕ → EndLog M → Type 0) (views : List (EndLog M)) (new : EndLog M) → Each F views
        → F (length views) new → Each F (views ++ new ∷ [])
    each_snoc F views new old here j u e =
        ⊎_elim (λ x. old j u x) (λ (x : (j ≡ length views) × (new ≡ u)). subst (λ (y : ℕ × EndLog M). F y.0 y.1)
        (λ i. (sym x.0 i, x.1 i)) here) (at_snoc_place views new u j e)

    no : {A : Type 0} → false ≡ true → A
    no p = absurd (true≢false (sym p))

    pub forks_first : (pass : ℕ) (v : EndLog M) → v.first ≡ true
        → Forks (Delivers by) pass v (without_first v) (only_first v)
    forks_first pass v may inside views h at =
        let left : EndLog M = without_first v in
        let mine = h.each pass v at in
        let Old : ℕ → EndLog M → Type 0 = λ j u. (u.first ≢ true) × Fits by h.one h.two h.taker h.taken inside j u in
        let old : Each Old (set views pass left) = each_set Old views pass left
        ((λ p. no p), record { first = λ p. no p; second = mine.second; takes = mine.takes })
        (λ j u other e. ((λ p. other (((h.each j u e).first p).0 ∙ sym (mine.first may).0)), h.each j u e)) in
        record {
          one = length (set views pass left);
          two = h.two;
          taker = h.taker;
          taken = h.taken;
          each = each_snoc (Fits by (length (set views pass left)) h.two h.taker h.taken inside) (set views pass left)
              (only_first v)
              (λ j u e. record {
                first = λ p. absurd ((old j u e).0 p);
                second = (old j u e).1.second;
                takes =
                    (old j u e).1.takes;
              })
              (record { first = λ p. (refl, (mine.first p).1); second = λ p. no p; takes = λ p. no p });
        }

    pub forks_second : (pass : ℕ) (v : EndLog M) → v.second ≡ true
        → Forks (Delivers by) pass v (without_second v) (only_second v)
    forks_second pass v may inside views h at =
        let left : EndLog M = without_second v in
        let mine = h.each pass v at in
        let Old : ℕ → EndLog M → Type 0 = λ j u. (u.second ≢ true) × Fits by h.one h.two h.taker h.taken inside j u in
        let old : Each Old (set views pass left) = each_set Old views pass left
        ((λ p. no p), record { first = mine.first; second = λ p. no p; takes = mine.takes })
        (λ j u other e. ((λ p. other (((h.each j u e).second p).0 ∙ sym (mine.second may).0)), h.each j u e)) in
        record {
          one = h.one;
          two = length (set views pass left);
          taker = h.taker;
          taken = h.taken;
          each = each_snoc (Fits by h.one (length (set views pass left)) h.taker h.taken inside) (set views pass left)
              (only_second v)
              (λ j u e. record {
                first = (old j u e).1.first;
                second = λ p. absurd ((old j u e).0 p);
                takes =
                    (old j u e).1.takes;
              })
              (record { first = λ p. no p; second = λ p. (refl, (mine.second p).1); takes = λ p. no p });
        }

    -- what the other pass was, before this one changed
    was : (views : List (EndLog M)) (pass other : ℕ) (both w : EndLog M) → ¬ (other ≡ pass)
        → get_elem? (set views pass both) other ≡ some w → get_elem? views other ≡ some w
    was views pass other both w apart at =
        ⊎_elim (λ x. absurd (apart x.0)) (λ x. x.1) (at_set views pass other both w at)

    pub merges_first : (pass : ℕ) (v : EndLog M) (other : ℕ) (w : EndLog M) → w.first ≡ true
        → Merges (Delivers by) pass v other w (with_first v w) idle
    merges_first pass v other w may inside views h at apart at' =
        let both : EndLog M = with_first v w in
        let mine = h.each pass v at in
        let theirs = h.each other w (was views pass other both w apart at') in
        let F : ℕ → EndLog M → Type 0 = Fits by pass h.two h.taker h.taken inside in
        let Now : ℕ → EndLog M → Type 0 = λ j u. j ≢ other → F j u in
        let now : Each Now (set views pass both) = each_set Now views pass both
        (λ _. record { first = λ _. (refl, (theirs.first may).1); second = mine.second; takes = mine.takes })
        (λ j u _ e else. record {
          first = λ p. absurd (else (((h.each j u e).first p).0 ∙ sym (theirs.first may).0));
          second = (h.each j u e).second;
          takes = (h.each j u e).takes;
        }) in
        record {
          one = pass;
          two = h.two;
          taker = h.taker;
          taken = h.taken;
          each = each_set F (set views pass both) other idle
              (record { first = λ p. no p; second = λ p. no p; takes = λ p. no p }) (λ j u else e. now j u e else);
        }

    pub merges_second : (pass : ℕ) (v : EndLog M) (other : ℕ) (w : EndLog M) → w.second ≡ true
        → Merges (Delivers by) pass v other w (with_second v w) idle
    merges_second pass v other w may inside views h at apart at' =
        let both : EndLog M = with_second v w in
        let mine = h.each pass v at in
        let theirs = h.each other w (was views pass other both w apart at') in
        let F : ℕ → EndLog M → Type 0 = Fits by h.one pass h.taker h.taken inside in
        let Now : ℕ → EndLog M → Type 0 = λ j u. j ≢ other → F j u in
        let now : Each Now (set views pass both) = each_set Now views pass both
        (λ _. record { first = mine.first; second = λ _. (refl, (theirs.second may).1); takes = mine.takes })
        (λ j u _ e else. record {
          first = (h.each j u e).first;
          second = λ p. absurd
              (else (((h.each j u e).second p).0 ∙ sym (theirs.second may).0));
          takes = (h.each j u e).takes;
        }) in
        record {
          one = h.one;
          two = pass;
          taker = h.taker;
          taken = h.taken;
          each = each_set F (set views pass both) other idle
              (record { first = λ p. no p; second = λ p. no p; takes = λ p. no p }) (λ j u else e. now j u e else);
        }

-- where there is one sender alone, all is of the first
pub all_first : {M : Type 0} (ms : List M) → of_first (λ _. false) ms ≡ ms
all_first [] = refl
all_first (m ∷ ms) = ap (λ l. m ∷ l) (all_first ms)
