-- What is used is declared before it, by the places of names.
use Rattle.pl0_tree.proofs.SharedLemmas.{before_trans}
use Rattle.pl0_names.proofs.Common.{[], ABlock, AConstant, ap, append_assoc, AProcedure, arith, Ascend, AVariable, Block, block_at, body_uses, bytes_eq, Constant, constants, Declaration, declared_as, drop, find, first_declaration, Home, home, IsBefore, IsLawful, List, map, Meaning, Name, NoMore, None, Option, option_and_then, option_map, option_or, or_else, Path, Place, procedure_at, procedure_list, Procedures, procedures, ReadsProgram, refl, slice_get, Some, statement_uses, subst, suc, sym, take, Token, Use, variables, zero, ℕ, ◌++◌, ◌+◌, ◌∙◌, ◌∷◌, ◌≡◌}
use Rattle.std.proofs.lemmas.List.Folds.{find-append}
use Rattle.pl0_tree.specs.Tree.{Procedure, AProcedure as AndProcedure}
use Rattle.pl0_names.specs.Earlier.{declarations_before, first_before, home_around, home_before, AreDeclaredBefore}
use Rattle.pl0_names.proofs.Order.{Within, behind_within, Chain, not_before, after_none}
use Rattle.pl0_names.proofs.ReadPlaces.{use_places, constant_places, name_places, block_places, row_places, program_passed}
use Rattle.std.proofs.lemmas.Grind.{common_steps}

-- ---- chains of places

chain_first : (b e : Option Place) (xs ys : List Place) → Chain b (xs ++ ys) e → (m : Option Place) × Chain b xs m
    × Chain m ys e
chain_first b e [] ys chain = (b, (λ q later. later), chain)
chain_first b e (x ∷ xs) ys chain = let r = chain_first (Some x) e xs ys chain.1 in (r.0, (chain.0, r.1), r.2)

-- what comes after the end of a chain comes after its beginning
chain_ends : (b e : Option Place) (xs : List Place) → Chain b xs e → Within b e
chain_ends b e [] chain = chain
chain_ends b e (x ∷ xs) chain = λ q later. behind_within b x chain.0 q (chain_ends (Some x) e xs chain.1 q later)

-- and after each place of it
use_ends : (b e : Option Place) (us : List Use) (i : ℕ) (u : Use) → Chain b (use_places us) e → slice_get us i ≡ Some u
    → Within (Some u.name.place) e
use_ends b e [] i u chain is = cc
use_ends b e (v ∷ us) zero u chain is =
    let same : v ≡ u = cc in
    subst (λ (w : Use). Within (Some w.name.place) e) same (chain_ends (Some v.name.place) e (use_places us) chain.1)
use_ends b e (v ∷ us) (suc i) u chain is = use_ends (Some v.name.place) e us i u chain.1 is

-- ---- procedures that are declared later

-- each name stands after a place
abbrev AllAfter : Place → List Name → Type 0
AllAfter p [] = Unit {0}
AllAfter p (x ∷ xs) = IsBefore p x.place × AllAfter p xs

abbrev names_of : Procedures → List Name
names_of ps = map (λ (p : Procedure). p.name) (procedure_list ps)

row_after : (p : Place) (m e : Option Place) (ps : Procedures) → Chain m (row_places ps) e → Within (Some p) m
    → AllAfter p (names_of ps)
row_after p m e NoMore chain within = tt
row_after p m e (AndProcedure x b more) chain within =
    let r = chain_first _ e (block_places b) (row_places more) chain.1 in (
      within x.place chain.0,
      row_after p r.0 e more r.2 (λ q later. within q (behind_within m x.place chain.0 q
          (chain_ends _ r.0 (block_places b) r.1 q later))),
    )

-- the places of a block, and what is known of each place that stands before their end
record Spans (b : Block) (after : Place → Type 0) : Type 0 where
  from : Option Place
  to : Option Place
  chain : Chain from (block_places b) to
  later : (p : Place) → Within (Some p) to → after p

row_spans : (ps : Procedures) (i : ℕ) (b : Block) (m e : Option Place) (Outer : Place → Type 0)
    → Chain m (row_places ps) e → ((p : Place) → Within (Some p) e → Outer p) →
    option_map (λ (p : Procedure). p.block) (slice_get (procedure_list ps) i) ≡ Some b
    → Spans b (λ p. AllAfter p (drop (i + 1) (names_of ps)) × Outer p)
row_spans NoMore i b m e Outer chain later is = cc
row_spans (AndProcedure x c more) zero b m e Outer chain later is =
    let r = chain_first (Some x.place) e (block_places c) (row_places more) chain.1 in
    let same : c ≡ b = cc in
    record {
      from = Some x.place;
      to = r.0;
      chain = rw (← same) r.1;
      later = λ p within. (
        row_after p r.0 e more r.2
            within,
        later p (λ q l. within q (chain_ends r.0 e (row_places more) r.2 q l)),
      );
    }
row_spans (AndProcedure x c more) (suc i) b m e Outer chain later is =
    let r = chain_first (Some x.place) e (block_places c) (row_places more) chain.1 in
    let next : suc (i + 1) ≡ suc i + 1 = omega arith in
    rw (← next) (row_spans more i b r.0 e Outer r.2 later is)

module _ (main : Block) where
  -- the procedures that are declared later than the blocks of a path stand after a place
  abbrev Later : Path → Place → Type 0
  Later [] p = Unit {0}
  Later (i ∷ q) p =
      ((c : Block) → block_at main q ≡ Some c → AllAfter p
      (drop (i + 1) (map (λ (r : Procedure). r.name) (procedures c)))) × Later q p

  inner_spans : (q : Path) (i : ℕ) (c b : Block) → block_at main q ≡ Some c → procedure_at i c ≡ Some b
      → Spans c (Later q) → Spans b (Later (i ∷ q))
  inner_spans q i (ABlock cs xs ps s end) b at is spans =
      let one = chain_first spans.from spans.to (constant_places cs) (name_places xs ++ (row_places ps ++ use_places
      (statement_uses s))) spans.chain in
      let two = chain_first one.0 spans.to (name_places xs) (row_places ps ++ use_places (statement_uses s)) one.2 in
      let three = chain_first two.0 spans.to (row_places ps) (use_places (statement_uses s)) two.2 in
      let r = row_spans ps i b two.0 three.0 (Later q) three.1 (λ p within. spans.later p (λ x l. within x (chain_ends
      three.0 spans.to (use_places (statement_uses s)) three.2 x l))) is in
      record {
        from = r.from;
        to = r.to;
        chain = r.chain;
        later = λ p within.
            let l = r.later p within in (
              (λ c here.
                  let same : ABlock cs xs ps s end ≡ c = cc in
                  rw (← same) l.0),
              l.1,
            );
      }

  spans_at : Spans main (Later []) → (q : Path) (b : Block) → block_at main q ≡ Some b → Spans b (Later q)
  spans_at whole [] b at = let same : main ≡ b = cc in subst (λ c. Spans c (Later [])) same whole
  spans_at whole (i ∷ q) b at = grind (arith, common_steps, block_at, spans_at whole q, inner_spans)

  -- ---- what is found before

  later_found : (p : Place) (xs : List Name) (j : ℕ) (w : List ℕ) (d : Declaration) → AllAfter p xs
      → find (λ d. bytes_eq d.name.word w) (declared_as AProcedure j xs) ≡ Some d → IsBefore p d.name.place
  later_found p [] j w d all is = cc
  later_found p (x ∷ xs) j w d all is = grind (arith, common_steps, later_found p xs (j + 1) w d all.1)

  or_none : (o : Option Home) → or_else o None ≡ o
  or_none None = refl
  or_none (Some h) = refl

  declared_split : (m : ℕ → Meaning) (j i : ℕ) (xs : List Name) → declared_as m j xs ≡ declared_as m j (take i xs)
      ++ declared_as m (j + i) (drop i xs)
  declared_split m j zero xs = ap (λ k. declared_as m k xs) (omega arith)
  declared_split m j (suc i) [] = refl
  declared_split m j (suc i) (x ∷ xs) = grind (arith, common_steps, declared_split m (j + 1) i xs, take, drop)

  abbrev later_declared : ℕ → Block → List Declaration
  later_declared i c = declared_as AProcedure (0 + i) (drop i (map (λ (r : Procedure). r.name) (procedures c)))

  first_split : (i : ℕ) (w : List ℕ) (c : Block) → first_declaration w c ≡ option_or (first_before i w c)
      (find (λ d. bytes_eq d.name.word w) (later_declared i c))
  first_split i w c =
      let names = map (λ (r : Procedure). r.name) (procedures c) in
      let a = declared_as AConstant 0 (map (λ (x : Constant). x.name) (constants c)) in
      let b = declared_as AVariable 0 (variables c) in
      let early = declared_as AProcedure 0 (take i names) in
      cc (
        declared_split AProcedure 0 i names,
        append_assoc b early (later_declared i c),
        append_assoc a (b ++ early)
            (later_declared i c),
        find-append (λ d. bytes_eq d.name.word w) (declarations_before i c) (later_declared i c),
      )

  abbrev home_of : Path → Option Declaration → Option Home
  home_of q o = option_map (λ d. record { path = q; declaration = d }) o

  -- a home that stands before a place is found without what is declared after that place
  found_step : (p : Place) (q : Path) (i : ℕ) (w : List ℕ) (h : Home) (o : Option Block)
      → ((c : Block) → o ≡ Some c → AllAfter p (drop (i + 1) (map (λ (r : Procedure). r.name) (procedures c)))) →
      IsBefore h.declaration.name.place p → (all some : Option Home) → (all ≡ Some h → some ≡ Some h) →
      or_else (home_of q (option_and_then (first_declaration w) o)) all ≡ Some h
      → or_else (home_of q (option_and_then (first_before (i + 1) w) o)) some ≡ Some h
  found_step p q i w h None after before all some more is = more is
  found_step p q i w h (Some c) after before all some more is =
      by (first_before (i + 1) w c) (find (λ d. bytes_eq d.name.word w) (later_declared (i + 1) c)) (λ d e. later_found
      p _ _ w d (after c refl) e) (cc (first_split (i + 1) w c))
    where
      by : (a b : Option Declaration) → ((d : Declaration) → b ≡ Some d → IsBefore p d.name.place)
          → or_else (home_of q (option_or a b)) all ≡ Some h → or_else (home_of q a) some ≡ Some h
      by (Some d) b late found = found
      by None None late found = more found
      by None (Some d) late found = grind (arith, common_steps, not_before, before_trans)

  around_found : (p : Place) (q : Path) (i : ℕ) (w : List ℕ) (h : Home) → Later (i ∷ q) p
      → IsBefore h.declaration.name.place p → home main q w ≡ Some h → home_around main (i ∷ q) w ≡ Some h
  around_found p [] i w h later before is = found_step p [] i w h _ later.0 before None None (λ e. e) (or_none _ ∙ is)
  around_found p (j ∷ q) i w h later before is =
      found_step p _ i w h _ later.0 before _ _ (λ e. around_found p q j w h later.1 before e) is

  -- the place of a use, in the span of its block
  use_later : (q : Path) (b : Block) (i : ℕ) (u : Use) → Spans b (Later q) → slice_get (body_uses b) i ≡ Some u
      → Later q u.name.place
  use_later q (ABlock cs xs ps s end) i u spans is =
      let one = chain_first spans.from spans.to _ _ spans.chain in
      let two = chain_first one.0 spans.to (name_places xs) _ one.2 in
      let three = chain_first two.0 spans.to (row_places ps) _ two.2 in
      spans.later u.name.place (use_ends three.0 spans.to (statement_uses s) i u three.2 is)

  used_before : (q : Path) (w : List ℕ) (p : Place) (h : Home) → Later q p → home main q w ≡ Some h
      → IsBefore h.declaration.name.place p → home_before main q w ≡ home main q w
  used_before [] w p h later is before = or_none (home main [] w)
  used_before (i ∷ q) w p h later is before = pick _ is (λ e. around_found p q i w h later before e)
    where
      pick : (o : Option Home) → or_else o (home main q w) ≡ Some h
          → (home main q w ≡ Some h → home_around main (i ∷ q) w ≡ Some h)
          → or_else o (home_around main (i ∷ q) w) ≡ or_else o (home main q w)
      pick (Some x) found more = refl
      pick None found more = more found ∙ sym found

pub declared_before : {n : ℕ} (tokens : List Token) (main : Block) → ReadsProgram n tokens main
    → Ascend (map (λ (t : Token). t.place) tokens) → IsLawful main → AreDeclaredBefore main
declared_before tokens main reads ascend lawful q b i u at is =
    let passed = program_passed reads (after_none tokens ascend) in
    let lawfully = lawful.uses q b i u at is in
    let spans =
    spans_at main (record { from = None; to = passed.1.to; chain = passed.1.names; later = λ p within. tt }) q b at
    in
    used_before main q u.name.word u.name.place lawfully.at (use_later main q b i u spans is) lawfully.found
    lawfully.behind
