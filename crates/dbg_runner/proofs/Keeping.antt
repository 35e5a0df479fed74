-- A kept report is lawful, and its debuggee was considered where it stands.
use Rattle.dbg_runner.proofs.Common.{arith, Block, Bool, Breakpoint, carried, Carries, Debugged, EndsBy, false, faults, goal_of, goes_back, GoesBackBy, has_come, has_no_memory, if◌then◌else◌, is_due, is_held, is_over, is_some, is_spent, IsConsidered, IsKept, IsLawfulReport, lacks_memory, last_due, List, Mode, Option, plain_report, PlainReport, refl, Reported, RunsAt, SliceOutcome, Some, StandsAtEnd, Stop, stop_at, stopped, subst, suc, sym, takes_all, Trail, trail_in, true, Went, WentBack, WentOn, zero, ℕ, ◌∙◌, ◌≡◌, ◌≤◌, back_if, direction}
use Rattle.pl0_machine.specs.Machine.{program_of}
use Rattle.dbg_plan.specs.declared.mode.Mode.TheVariants as mode
use Rattle.dbg_runner.specs.declared.outcome.SliceOutcome.TheVariants as out
use Rattle.pl0_machine.proofs.Alive.{runs_before}
use Rattle.std.proofs.lemmas.Grind.{common_steps}

pub lawful : (r : Reported) → IsKept r → IsLawfulReport (plain_report r)
lawful r kept = record { program = program_of r.unit; reads = r.unit.tree.lawful; lawful = kept }

-- ---- by the direction of the run

pub as_onward : (main : Block) (r : PlainReport) → goes_back r.mode ≡ false → Went main r (direction r.mode)
    → WentOn main r
as_onward main r forward went = subst (λ b. Went main r (back_if b)) forward went

pub as_back : (main : Block) (r : PlainReport) → goes_back r.mode ≡ true → Went main r (direction r.mode)
    → WentBack main r
as_back main r back went = subst (λ b. Went main r (back_if b)) back went

-- ---- where a run stops that goes back

found_below : (b : Bool) (n : ℕ) (before : Option ℕ) → (stop_at before).position ≤ n
    → (stop_at (if b then Some n else before)).position ≤ suc n
found_below true n before below = omega arith
found_below false n before below = omega (arith, below)

last_due_below : (main : Block) (bs : List Breakpoint) (n : ℕ) → (stop_at (last_due main bs n)).position ≤ n
last_due_below main bs zero = omega arith
last_due_below main bs (suc n) = found_below (is_some _) n (last_due main bs n) (last_due_below main bs n)

-- going back leads back
pub leads_back : (main : Block) (bs : List Breakpoint) (m : Mode) (n : ℕ) (s : Stop) → goal_of main bs m n ≡ Some s
    → s.position ≤ n
leads_back main bs mode.StepBack n s is = grind (arith, common_steps, Stop)
leads_back main bs mode.Reverse n s is = grind (arith, common_steps, Stop, last_due_below)
leads_back main bs _ n s is = absurd cc

-- ---- a frame is alive where a report ends

runs_at_end : (main : Block) (r : PlainReport) (e : SliceOutcome) → EndsBy main r e → ¬ (e ≡ out.Done)
    → RunsAt main r.end
runs_at_end main r out.More (takes_all spent undue runs) not_over = runs
runs_at_end main r (out.Due reason) (is_due on due_there runs) not_over = runs
runs_at_end main r out.Done (is_over on over) not_over = absurd (not_over refl)
runs_at_end main r (out.Fault fault) (faults early undue fails runs) not_over = runs
runs_at_end main r out.Held (is_held stays runs) not_over = runs
runs_at_end main r out.NoMemory (lacks_memory stays runs) not_over = runs

ends_before : (main : Block) (r : PlainReport) (e : SliceOutcome) → GoesBackBy main r e → r.end ≤ r.start
ends_before main r out.More (is_spent stays all) = omega (arith, stays)
ends_before main r (out.Due reason) (has_come come) = grind (arith, common_steps, leads_back)
ends_before main r out.NoMemory (has_no_memory stays) = omega (arith, stays)
ends_before main r _ none = elim none [ ]

runs_at_stop : (main : Block) (r : PlainReport) → WentBack main r → RunsAt main r.end
runs_at_stop main r went = runs_before main r.end r.start (ends_before main r r.outcome went.outcome) went.begun

runs_there : (main : Block) (r : PlainReport) (back : Bool) → Went main r (back_if back) → ¬ (r.outcome ≡ out.Done)
    → RunsAt main r.end
runs_there main r false went not_over = runs_at_end main r r.outcome went.outcome not_over
runs_there main r true went not_over = runs_at_stop main r went

pub stopped_considered : (r : Reported) (trail : Trail) → IsKept r → ¬ (r.outcome ≡ out.Done)
    → IsConsidered (stopped r trail)
stopped_considered r trail kept not_over =
    record {
      behind = refl;
      running = runs_there (program_of r.unit) (plain_report r) (goes_back r.mode) kept.went not_over;
    }

-- the debuggee that goes on
pub goes_on_considered : (r : Reported) (d : Debugged) → IsKept r → r.outcome ≡ out.More → StandsAtEnd r d r.outcome
    → IsConsidered d
goes_on_considered r d kept more stands =
    let is : d ≡ stopped r d.trail = subst (λ (e : SliceOutcome). StandsAtEnd r d e) more stands in
    let not_over : ¬ (r.outcome ≡ out.Done) = λ over. let no : out.More ≡ out.Done = sym more ∙ over in cc in
    subst (λ (d : Debugged). IsConsidered d) (sym is) (stopped_considered r d.trail kept not_over)

carried_is : (r : Reported) (e : SliceOutcome) (d : Debugged) → Some d ≡ carried r e
    → (d ≡ stopped r (trail_in r.debuggee)) × ¬ (e ≡ out.Done)
carried_is r out.More d is = absurd cc
carried_is r out.Done d is = absurd cc
carried_is r _ d is = (cc, λ over. cc)

where_it_ends : (r : Reported) (d : Debugged) → IsKept r → r.debuggee ≡ Some d → r.debuggee ≡ carried r r.outcome
    → IsConsidered d
where_it_ends r d kept is carries =
    let here = carried_is r r.outcome d (sym is ∙ carries) in
    subst (λ (d : Debugged). IsConsidered d) (sym here.0) (stopped_considered r (trail_in r.debuggee) kept here.1)

-- the debuggee in a report
pub carried_considered : (back : Bool) (r : Reported) (d : Debugged) → IsKept r → Carries (back_if back) r r.outcome
    → r.debuggee ≡ Some d → IsConsidered d
carried_considered back r d kept carries is = grind (arith, common_steps, out.Fault, where_it_ends)
