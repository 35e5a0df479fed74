-- A debuggee whose machine took quiet steps, and perhaps one more.
use Rattle.std.proofs.Common.{◌≡◌, ℕ, zero, suc, ◌+◌, ◌-◌, ◌<◌, ◌≤◌, ◌⊎◌, Bool, true, false, ⊎_elim, List, [], ◌∷◌, length, length-append, Option, Some, None, ℤ, refl, ap, ◌∙◌, subst, arith, append-nil}
use Rattle.pl0_unit.specs.declared.unit.Unit.{Unit as Compiled}
use Rattle.pl0_meaning.specs.declared.RunFault.{RunFault}
use Rattle.pl0_meaning.specs.Laws.{FramesAreLinked}
use Rattle.pl0_meaning.specs.Runs.{Outcome, Goes, Faults, Stuck, written}
use Rattle.pl0_meaning.proofs.SharedLemmas.{written_from_few}
use Rattle.pl0_machine.specs.declared.outcome.StepOutcome.{StepOutcome}
use Rattle.pl0_machine.specs.declared.outcome.StepOutcome.TheVariants.{Went, Done, Fault}
use Rattle.pl0_machine.specs.declared.mark.Marks.{Marks}
use Rattle.pl0_machine.specs.Machine.{Standing, program, outcome_of, depth_of, Stepped}
use Rattle.dbg_plan.specs.declared.debuggee.Debuggee.TheInside.{Inside}
use Rattle.dbg_plan.specs.declared.debuggee.Advance.TheVariants as advance
use Rattle.dbg_plan.specs.Breakpoints.{Breakpoint}
use Rattle.dbg_plan.specs.Counting.{AreCounts}
use Rattle.dbg_plan.specs.Plans.{listed_of, breakpoints_of}
use Rattle.dbg_plan.specs.Counts.{IsCounting, debugged_of, plan_of, next_at, next_of}
use Rattle.dbg_plan.specs.Kept.{trail_of}
use Rattle.dbg_plan.specs.declared.mode.Mode.{Mode}
use Rattle.dbg_plan.specs.Debugged.{Debugged, IsNext, IsRunning}
use Rattle.pl0_machine.specs.Stretches.{ahead, AreCounted, IsUnseen, Stretches, EndsRun, LacksRoom, Adds, RanOn}
use Rattle.dbg_plan.specs.Advances.{considered_at}
use Rattle.dbg_plan.specs.Running.{has_hit, IsQuiet, with_written, RanFrom}
use Rattle.dbg_plan.specs.Quiet.{AreMarksIn, EndsAt, RanTo, considered_after}
use Rattle.dbg_plan.proofs.Counted.{same_length, hit_is, counted_on}
use Rattle.dbg_plan.proofs.Further.{was_considered, stays_counting}
use Rattle.dbg_plan.proofs.Quiet.{is_told}
use Rattle.dbg_plan.proofs.Stepping.{same_unit, went_on, stays_there, goes_on, after_fault, not_fault}
use Rattle.std.proofs.lemmas.Grind.{common_steps}

went_goes : (written : Option ℤ) (fault : RunFault) → Went written ≡ Fault fault → ⊥
went_goes written fault e = cc

done_goes : (fault : RunFault) → Done ≡ Fault fault → ⊥
done_goes fault e = cc

module _ (laws : FramesAreLinked) (d : Inside) (was : IsCounting d) (behind : next_of d ≡ d.machine.position + 1)
    (limit outer : ℕ) (marks : Option Marks) (in_plan : AreMarksIn (plan_of d) marks) where
  abbrev pub breakpoints : List Breakpoint
  breakpoints = breakpoints_of (plan_of d)

  pub some_alive : (m : Standing) → outer < depth_of m → IsRunning m
  some_alive m more = omega (arith, more)

  pub considered : d.considered ≡ true
  considered = was_considered d.machine.position d.considered behind

  -- the debuggee with another machine and other counts
  abbrev pub with_machine : Standing → List ℕ → Inside
  with_machine m counts = record d { machine = m; counts = counts }

  pub behind_at : (m : Standing) (counts : List ℕ) → next_of (with_machine m counts) ≡ m.position + 1
  behind_at m counts = ap (λ b. next_at m.position b) considered

  -- it counts up to where the machine stands
  module _ (m : Standing) (same : m.unit ≡ d.machine.unit) (counts : List ℕ)
      (now : IsCounting (with_machine m counts)) where
    abbrev next : Standing
    next = ahead m 1

    begun : d.counted_from ≤ next.position
    begun = let le = now.begun in let e = behind_at m counts in omega (arith, le, e)

    counts_now : AreCounts (program next) (listed_of (plan_of d)) d.counted_from next.position counts
    counts_now = rw (← (behind_at m counts)) now.counts

    pub hit_at : (due : Bool) (new : List ℕ) → AreCounted marks next counts due new
        → has_hit breakpoints d.counted_from next ≡ due
    hit_at due new counted =
        hit_is laws (plan_of d) counts now.room next now.fits marks in_plan due new counted d.counted_from begun
        counts_now

    is_quiet : (new : List ℕ) → IsUnseen outer marks m counts new → IsQuiet outer breakpoints d.counted_from m
    is_quiet new u = record { running = u.running; unmet = hit_at false new u.undue }

    pub counts_on : (new : List ℕ) → IsUnseen outer marks m counts new → IsCounting (with_machine next new)
    counts_on new u =
        let on = counted_on laws (plan_of d) counts now.room next now.fits marks in_plan new u.undue in
        grind (arith, common_steps, stays_counting, behind_at, some_alive, same_length false, false)

  module _ (last : Standing) (after : List ℕ) (s : Stretches outer marks d.machine last d.counts after) where
    counting_at : (k : ℕ) → k ≤ s.steps → IsCounting (with_machine (ahead d.machine k) (s.left k))
    counting_at zero le = grind (arith, common_steps)
    counting_at (suc k) le =
        let more : k + 1 ≡ suc k = omega arith in
        let e : d.machine.position + k + 1 ≡ d.machine.position + suc k = omega arith in
        rw (← e) (rw (← more) (counts_on (ahead d.machine k) refl (s.left k) (counting_at k (omega (arith, le))) (s.left
        (k + 1)) (s.passed k (omega (arith, le)))))

    quiet_at : (k : ℕ) → k < s.steps → IsQuiet outer breakpoints d.counted_from (ahead d.machine k)
    quiet_at k lt =
        is_quiet (ahead d.machine k) refl (s.left k) (counting_at k (omega (arith, lt))) (s.left (k + 1))
        (s.passed k lt)

    stands : IsCounting (with_machine last after)
    stands = rw s.led (rw (← s.ended) (counting_at s.steps (omega arith)))

    same_there : last.unit ≡ d.machine.unit
    same_there = ap (λ (m : Standing). m.unit) s.led

    place : last.position ≡ d.machine.position + s.steps
    place = ap (λ (m : Standing). m.position) s.led

    -- the step after them isn't quiet, where a run ends and there was room
    not_quiet : (numbers : List ℤ) (room : ℕ) → length numbers < room → (outcome : StepOutcome) (new : Standing)
        → Stepped (outcome_of last) last outcome new
        → ((written : Option ℤ) → outcome ≡ Went written
        → EndsRun outer marks new after ⊎ LacksRoom written numbers room)
        → ¬ IsQuiet outer breakpoints d.counted_from last
    not_quiet numbers room fits outcome new stepped ends quiet =
        let told = is_told outer breakpoints d.counted_from last new outcome stepped quiet in
        let went = went_on last new outcome stepped told.written told.went in
        ⊎_elim
        (λ ends. grind (arith, common_steps, true, hit_at, same_there, stands, false))
        (λ lacks. has_room told.written lacks) (ends told.written told.went)
      where
        differ : (b : Bool) → b ≡ true → b ≡ false → ⊥
        differ b met unmet = cc

        has_room : (written : Option ℤ) → LacksRoom written numbers room → ⊥
        has_room None lacks = lacks
        has_room (Some number) lacks = omega (arith, fits, lacks)

  -- how the steps end at a machine, from which one more leads to another
  abbrev EndsThere : StepOutcome → Standing → Standing → Type 0
  EndsThere outcome new m =
      (m.position < limit) × (¬ IsQuiet outer breakpoints d.counted_from m) × Stepped (outcome_of m) m outcome new

  abbrev seen : Standing → Compiled → ℕ → Debugged
  seen new u n =
      record {
        unit = u;
        position = new.position;
        breakpoints = breakpoints;
        counted_from = d.counted_from;
        next = n;
        trail = trail_of d.trail;
      }

  with_unit : (new : Standing) (u : Compiled) (n m : ℕ) → new.unit ≡ u → n ≡ m → seen new new.unit n ≡ seen new u m
  with_unit new u n m is same = ap (λ (v : Compiled). seen new v n) is ∙ ap (λ (k : ℕ). seen new u k) same

  abbrev left_by : Standing → List ℕ → Option StepOutcome → Inside
  left_by new after outcome =
      record d { machine = new; counts = after; considered = considered_after outcome }

  module _ (new : Standing) (after : List ℕ) (room : ℕ) (before numbers : List ℤ)
      (roomy : length before + (limit - d.machine.position) ≤ room) where
    abbrev Ran : Option StepOutcome → Type 0
    Ran outcome = RanOn limit outer marks d.machine outcome new d.counts after room before numbers

    pub counting_after : (outcome : Option StepOutcome) → Ran outcome
        → IsCounting (left_by new after outcome)
    counting_after None ran = rw (← considered) (stands new after ran.0)
    counting_after (Some (Went written)) ran =
        not_fault _ (stands ran.0 after ran.1) new (Went written) ran.3 (behind_at ran.0 after) (went_goes written)
    counting_after (Some Done) ran =
        not_fault _ (stands ran.0 after ran.1) new Done ran.3 (behind_at ran.0 after) done_goes
    counting_after (Some (Fault fault)) ran =
        after_fault (with_machine ran.0 after) (stands ran.0 after ran.1) new (Fault fault) ran.3
        (behind_at ran.0 after) fault refl (some_alive ran.0 ran.1.running)

    -- quiet steps, and where they end
    quietly : (outcome : Option StepOutcome) (last : Standing) (s : Stretches outer marks d.machine last d.counts after)
        → last.position ≤ limit
        → EndsAt limit outer (considered_at (debugged_of d) ((debugged_of d).position + s.steps))
        (with_written (debugged_of d) s.steps before) outcome (debugged_of (left_by new after outcome)) numbers
        → RanTo limit outer (debugged_of d) before outcome (debugged_of (left_by new after outcome)) numbers
    quietly outcome last s within ends =
        let there = place last after s in
        record {
          steps = s.steps;
          quiet = quiet_at last after s;
          running = subst (λ m. outer < depth_of m) s.led s.running;
          within = omega (arith, there, within);
          ends = ends;
        }

    -- fewer numbers were appended than there is room for
    pub fewer : (outcome : StepOutcome) → Ran (Some outcome) → length numbers < room
    fewer outcome ran = grind (arith, common_steps, place, length, length-append, written, written_from_few)

    -- what was appended, by the number of steps
    appended : (last : Standing) (s : Stretches outer marks d.machine last d.counts after)
        → Adds d.machine last before numbers → numbers ≡ with_written (debugged_of d) s.steps before
    appended last s adds = grind (arith, common_steps, written)

    ends_there : (outcome : StepOutcome) (ran : Ran (Some outcome))
        → EndsThere outcome new (ahead d.machine ran.1.steps)
    ends_there outcome ran =
        subst (λ m. EndsThere outcome new m) ran.1.led
        (ran.2, not_quiet ran.0 after ran.1 numbers room (fewer outcome ran) outcome new ran.3 ran.4, ran.3)

    pub ran_to : (outcome : Option StepOutcome) → Ran outcome
        → RanTo limit outer (debugged_of d) before outcome (debugged_of (left_by new after outcome)) numbers
    ran_to None ran =
        let reached = ran.1 in
        let there = place new after ran.0 in
        quietly None new ran.0 (omega (arith, reached)) (
          ap (λ m. debugged_of (record d { machine = m; considered = true })) ran.0.led,
          omega (arith, reached, there),
          appended new ran.0 ran.2,
        )
    ran_to (Some (Went written)) ran =
        let below = ran.2 in
        let ends = ends_there (Went written) ran in
        let last = ahead d.machine ran.1.steps in
        quietly (Some (Went written)) ran.0 ran.1 (omega (arith, below)) (
          ends.0,
          ends.1,
          ends.2,
          with_unit new d.machine.unit _ _ (same_unit last new (Went written) ends.2)
              (goes_on last new (Went written) ends.2 (went_goes written)),
          appended ran.0 ran.1 ran.5,
        )
    ran_to (Some Done) ran =
        let below = ran.2 in
        let ends = ends_there Done ran in
        let last = ahead d.machine ran.1.steps in
        quietly (Some Done) ran.0 ran.1 (omega (arith, below)) (
          ends.0,
          ends.1,
          ends.2,
          with_unit new d.machine.unit _ _ (same_unit last new Done ends.2) (goes_on last new Done ends.2 done_goes),
          appended ran.0 ran.1 ran.5,
        )
    ran_to (Some (Fault fault)) ran =
        let below = ran.2 in
        let ends = ends_there (Fault fault) ran in
        let last = ahead d.machine ran.1.steps in
        let same = stays_there last new (Fault fault) ends.2 fault refl in
        quietly (Some (Fault fault)) ran.0 ran.1 (omega (arith, below)) (
          ends.0,
          ends.1,
          ends.2,
          with_unit new d.machine.unit _ _ (same_unit last new (Fault fault) ends.2)
              (ap (λ (m : Standing). m.position + 1) same),
          appended ran.0 ran.1 ran.5,
        )

    -- where the last step went on, its position is the next to be considered
    pub is_next : (outcome : Option StepOutcome) → Ran outcome
        → (written : Option ℤ) → outcome ≡ Some (Went written) → IsNext (debugged_of (left_by new after outcome))
    is_next outcome ran written is = grind (arith, common_steps, went_on, written)

-- ---- a run whose last step faults

fault_is : (o : Outcome) (old new : Standing) (fault : RunFault) → Stepped o old (Fault fault) new → o ≡ Faults fault
fault_is (Goes written []) old new fault s = let other : Fault fault ≡ Done = s.0 in cc
fault_is (Goes written (f ∷ below)) old new fault s = let other : Fault fault ≡ Went written = s.0 in cc
fault_is (Faults other) old new fault s = let same : Fault fault ≡ Fault other = s.0 in cc
fault_is Stuck old new fault s = absurd s

pub faulted : (limit outer : ℕ) (mode : Mode) (old new : Debugged) (before after : List ℤ) (fault : RunFault)
    → RanTo limit outer old before (Some (Fault fault)) new after
    → RanFrom limit outer mode old before (Some (advance.Fault fault)) new after []
faulted limit outer mode old new before after fault ran =
    grind (arith, common_steps, stays_there, Fault, fault_is, append-nil)
