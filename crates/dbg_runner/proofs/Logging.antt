-- What the positions of a run log.
use Rattle.dbg_runner.proofs.Common.{[], ap, append-nil, append_assoc, arith, at, Block, Breakpoint, cases_eq, EndsBy, false, faults, is_due, is_held, is_hit, is_over, IsSpent, lacks_memory, List, Log, log_at, logs, logs_between, logs_from, logs_in, logs_told, PlainReport, refl, SliceOutcome, Some, suc, sym, takes_all, WentOn, zero, ℕ, ◌++◌, ◌+◌, ◌-◌, ◌<◌, ◌∙◌, ◌∷◌, ◌≡◌, ◌≤◌}
use Rattle.std.specs.List.{filter_map, enumerate_from}
use Rattle.dbg_runner.specs.declared.outcome.SliceOutcome.TheVariants as out
use Rattle.std.proofs.lemmas.Grind.{common_steps}

-- ---- stretches

module _ (main : Block) (bs : List Breakpoint) (t : ℕ) where
  abbrev at_position : ℕ → List Log
  at_position m = logs main bs t m

  abbrev Silent : ℕ → ℕ → Type 0
  Silent a b = (m : ℕ) → a < m → m < b → at_position m ≡ []

  stretch : (m n k : ℕ) → logs_from main bs t m n ++ logs_from main bs t (m + n) k ≡ logs_from main bs t m (n + k)
  stretch m zero k = grind (arith, common_steps)
  stretch m (suc n) k =
      let e : m + suc n ≡ m + 1 + n = omega arith in
      let f : suc n + k ≡ suc (n + k) = omega arith in
      cc (append_assoc (at_position m) _ _, stretch (m + 1) n k)

  pub logs-joined : (a b c : ℕ) → a ≤ b → b ≤ c → logs_between main bs t a b
      ++ logs_between main bs t b c ≡ logs_between main bs t a c
  logs-joined a b c first second =
      let e : b + 1 ≡ a + 1 + (b - a) = omega (arith, first) in
      let f : b - a + (c - b) ≡ c - a = omega (arith, first, second) in
      cc (stretch (a + 1) (b - a) (c - b))

  pub logs_between-none : (a b : ℕ) → b ≤ a → logs_between main bs t a b ≡ []
  logs_between-none a b le = let e : b - a ≡ 0 = omega (arith, le) in ap (λ n. logs_from main bs t (a + 1) n) e

  silent_from : (m n : ℕ) → ((k : ℕ) → m ≤ k → k < m + n → at_position k ≡ []) → logs_from main bs t m n ≡ []
  silent_from m zero none = refl
  silent_from m (suc n) none =
      ap (λ ls. ls ++ logs_from main bs t (m + 1) n) (none m (omega arith) (omega arith))
      ∙ silent_from (m + 1) n (λ k above below. none k (omega (arith, above)) (omega (arith, below)))

  -- nothing is logged up to b
  all_silent : (a b : ℕ) → Silent a b → (a < b → at_position b ≡ []) → logs_between main bs t a b ≡ []
  all_silent a b between last = grind (arith, common_steps, silent_from, cases_eq)

  -- nothing is logged before b
  last_alone : (a b : ℕ) → a < b → Silent a b → logs_between main bs t a b ≡ at_position b
  last_alone a b lt between =
      let c = b - 1 in
      let e : c + 1 ≡ b = omega (arith, lt) in
      let f : b - c ≡ 1 = omega (arith, lt) in
      let front : logs_between main bs t a c ≡ [] = all_silent a c (λ m above below. between m above
      (omega (arith, below))) (λ more. between c more (omega (arith, lt))) in
      cc (logs-joined a c b (omega (arith, lt)) (omega arith), append-nil _)

  -- ---- where the program is over

  never : (m : ℕ) (b : Breakpoint) → at main m ≡ Some [] → is_hit main t m b ≡ false
  never m b over = cc

  none_over : (m n : ℕ) (left : List Breakpoint) → at main m ≡ Some []
      → filter_map (log_at main t m) (enumerate_from n left) ≡ []
  none_over m n [] over = refl
  none_over m n (b ∷ left) over = cc (never m b over, none_over m (n + 1) left over)

  pub silent_over : (m : ℕ) → at main m ≡ Some [] → at_position m ≡ []
  silent_over m over = none_over m 0 bs over

-- ---- a report

-- a slice that is spent took a step
pub after_start : (main : Block) (r : PlainReport) → IsSpent main r → r.start < r.end
after_start main r spent = grind (arith, common_steps, logs)

module _ (main : Block) (r : PlainReport) (went : WentOn main r) where
  silent : Silent main r.plan r.counted_from r.start r.end
  silent m above below = (went.passed m above below).silent

  at_end : r.start < r.end → logs_in main r r.end ≡ logs_between main r.plan r.counted_from r.start r.end
  at_end lt = sym (last_alone main r.plan r.counted_from r.start r.end lt silent)

  nowhere : (r.start < r.end → logs_in main r r.end ≡ []) → [] ≡ logs_between main r.plan r.counted_from r.start r.end
  nowhere last = sym (all_silent main r.plan r.counted_from r.start r.end silent last)

  told : (e : SliceOutcome) → EndsBy main r e → logs_told main r e ≡ logs_between main r.plan r.counted_from r.start
      r.end
  told out.More (takes_all spent undue runs) = at_end (after_start main r spent)
  told (out.Due reason) (is_due lt due_there runs) = at_end lt
  told out.Done (is_over lt over) = nowhere (λ more. silent_over main r.plan r.counted_from r.end over)
  told (out.Fault fault) (faults early free fails runs) = grind (arith, common_steps, nowhere)
  told out.Held (is_held stays runs) = nowhere (λ more. absurd (omega (arith, stays, more)))
  told out.NoMemory (lacks_memory stays runs) = nowhere (λ more. absurd (omega (arith, stays, more)))

-- a report tells what the positions log that it came to
pub report_logs : (main : Block) (r : PlainReport) → WentOn main r
    → r.logs ≡ logs_between main r.plan r.counted_from r.start r.end
report_logs main r went = went.logs ∙ told main r went r.outcome went.outcome
