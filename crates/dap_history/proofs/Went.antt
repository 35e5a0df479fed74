-- What a lawful report says, whether its run goes on or back.
use Rattle.dap_history.proofs.Common.{Block, Breakpoint, EndsBy, GoesBackBy, Mode, PlainReport, SliceOutcome, Some, Stop, Went, WentBack, WentOn, WrittenJoins, [], ap, append-nil, arith, cases_lt, goal_of, is_some, lacks_memory, last_due, length, length-append, max, stop_at, suc, sym, written, zero, ℕ, ◌++◌, ◌+◌, ◌-◌, ◌∙◌, ◌≡◌, ◌≤◌, back_if, drop-nil}
use Rattle.std.proofs.Common.{List, ℤ, drop, Bool}
use Rattle.pl0_meaning.specs.Runs.{written_from}
use Rattle.dbg_runner.specs.declared.outcome.SliceOutcome.TheVariants as slice
use Rattle.dbg_runner.specs.Lawful.{IsLawfulFor}
use Rattle.std.proofs.Math.Seq.{drop-append_seam}
use Rattle.std.proofs.Math.ListN.{drop_of_length-le}
use Rattle.std.proofs.lemmas.Grind.{common_steps}

-- ---- a run that goes back ends below its beginning

last_due_below : (main : Block) (bs : List Breakpoint) (n : ℕ) → (stop_at (last_due main bs n)).position ≤ n
last_due_below main bs zero = omega arith
last_due_below main bs (suc m) = grind (arith, common_steps, is_some, last_due_below main bs m) steps 200000

retreat_below : (main : Block) (bs : List Breakpoint) (mode : Mode) (n : ℕ) (s : Stop) → goal_of main bs mode n ≡ Some s
    → s.position ≤ n
retreat_below main bs mode n s is = grind (arith, common_steps, last_due_below) steps 200000

back_by : (main : Block) (r : PlainReport) {e : SliceOutcome} → GoesBackBy main r e → r.end ≤ r.start
back_by main r is = grind (arith, common_steps, retreat_below) steps 200000

pub back_end : (main : Block) (r : PlainReport) → WentBack main r → r.end ≤ r.start
back_end main r went = back_by main r went.outcome

-- ---- a slice for which there was no memory tells nothing

took_none : (main : Block) (r : PlainReport) → EndsBy main r slice.NoMemory → r.end ≡ r.start
took_none main r (lacks_memory stays runs) = stays

pub written_here : (main : Block) (n : ℕ) → written main n n ≡ []
written_here main n = let none : n - n ≡ 0 = omega arith in ap (written_from main n) none

pub nothing_told : (main : Block) (r : PlainReport) → IsLawfulFor main r → r.outcome ≡ slice.NoMemory → (r.numbers ≡ [])
    × (r.logs ≡ [])
nothing_told main r lawful is = grind (arith, common_steps, written, took_none, written_here) steps 200000

-- ---- numbers that were reported, and those that a report adds

module _ (joins : WrittenJoins) (main : Block) (r : PlainReport)
    (before : r.numbers_before ≡ length (written main 0 r.start))
    (told : List ℤ) (furthest : ℕ) (told_is : told ≡ written main 0 furthest) (begun : r.start ≤ furthest) where
  abbrev Joined : Type 0
  Joined = told ++ drop (length told - r.numbers_before) r.numbers ≡ written main 0 (max furthest r.end)

  -- what was told up to where the report begins, and beyond
  apart : written main 0 r.start ++ written main r.start furthest ≡ told
  apart = joins main 0 r.start furthest (omega arith) begun ∙ sym told_is

  lengths : length told ≡ r.numbers_before + length (written main r.start furthest)
  lengths =
      let e = ap length apart in
      let s = length-append (written main 0 r.start) (written main r.start furthest) in
      omega (arith, e, s, before)

  -- the report's numbers were all told
  all_told : WentOn main r → r.end ≤ furthest → Joined
  all_told went within =
      let begin = went.begun in
      let inner = joins main r.start r.end furthest begin within in
      let total = sym (length-append (written main r.start r.end) (written main r.end furthest)) ∙ ap length inner in
      let own = ap length went.numbers in
      let enough : length r.numbers ≤ length told - r.numbers_before =
      let l = lengths in omega (arith, l, total, own) in
      let same : max furthest r.end ≡ furthest = omega (arith, within) in
      ap (λ l. told ++ l) (drop_of_length-le r.numbers enough) ∙ append-nil told ∙ told_is
      ∙ ap (written main 0) (sym same)

  -- those beyond were not
  some_told : WentOn main r → furthest ≤ r.end → Joined
  some_told went beyond =
      let split = went.numbers ∙ sym (joins main r.start furthest r.end begun beyond) in
      let count : length told - r.numbers_before ≡ length (written main r.start furthest) =
      let l = lengths in omega (arith, l) in
      let same : max furthest r.end ≡ r.end = omega (arith, beyond) in
      ap (λ n. told ++ drop n r.numbers) count
      ∙ ap (λ l. told ++ drop (length (written main r.start furthest)) l) split
      ∙ ap (λ l. told ++ l) (drop-append_seam (written main r.start furthest) (written main furthest r.end))
      ∙ ap (λ l. l ++ written main furthest r.end) told_is
      ∙ joins main 0 furthest r.end (omega arith) beyond
      ∙ ap (written main 0) (sym same)

  none_told : WentBack main r → Joined
  none_told went =
      let ends = back_end main r went in
      let same : max furthest r.end ≡ furthest = omega (arith, ends, begun) in
      cc (went.numbers, drop-nil (length told - r.numbers_before), append-nil told)

  pub told_joins : (b : Bool) → Went main r (back_if b) → Joined
  told_joins b went = grind (arith, common_steps, all_told, some_told, cases_lt, none_told) steps 200000
