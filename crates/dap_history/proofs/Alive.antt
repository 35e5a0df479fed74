-- Where a report ends a frame is alive, unless the report says that the program is done.
use Rattle.dap_history.proofs.Common.{Accepted, Accepts, Block, Causes, Configuration, Content, EndsBy, Frame, GoesBackBy, Heading, History, IsLawfulReport, IsSome, Item, Launched, None, Option, PlainReport, SliceOutcome, Some, Step, StopReason, Went, WrittenJoins, [], ap, arith, at, back_if, end_of, faults, goes_back, has_come, has_no_memory, inl, inr, is_due, is_some, is_spent, lacks_memory, last_run, last_such, launched, length, refl, report_effect, situation, stop_in, stop_of_event, subst, sym, takes_all, unwrap_or, ℕ, ◌+◌, ◌<◌, ◌∙◌, ◌∷◌, ◌≡◌, ◌≤◌, ◌⊎◌, ⊎_elim, cases_lt}
use Rattle.std.proofs.Common.{Bool}
use Rattle.pl0_meaning.specs.Laws.{RunsHaveNoGaps, NothingFollowsTheEnd}
use Rattle.dbg_runner.specs.Lawful.{RunsAt, is_over, is_held}
use Rattle.dbg_runner.specs.declared.outcome.SliceOutcome.TheVariants as slice
use Rattle.dap_history.specs.Readings.{position}
use Rattle.dap_history.specs.Moves.{IsAlive}
use Rattle.dap_history.proofs.Texts.{OneProgram}
use Rattle.dap_history.proofs.Along.{IsTaken, IsLawfulEvent}
use Rattle.dap_history.proofs.Silent.{StopsBy, no_stop, at_first, all_silent}
use Rattle.dap_history.proofs.Outputs.{outputs_stop}
use Rattle.dap_history.proofs.Progress.{report_program}
use Rattle.dap_history.proofs.Passing.{Ran, IsConfiguring}
use Rattle.dap_history.proofs.Stopping.{launch_stops_not, stop_of_effect}
use Rattle.dap_history.proofs.Leading.{goal_below}
use Rattle.std.proofs.lemmas.Grind.{common_steps}

-- a frame of the program is alive there
abbrev pub Lives : Block → ℕ → Type 0
Lives main m = (f : Frame) × (below : Configuration) × (at main m ≡ Some (f ∷ below))

lives_so : (main : Block) (m : ℕ) (o : Option Configuration) → at main m ≡ o → RunsAt main m → Lives main m
lives_so main m (Some (f ∷ below)) is runs = (f, below, is)
lives_so main m _ is runs = grind (arith, common_steps, length) steps 1500000

pub lives : (main : Block) (m : ℕ) → RunsAt main m → Lives main m
lives main m runs = lives_so main m (at main m) refl runs

-- a position before one that a run comes to
lives_before : RunsHaveNoGaps → NothingFollowsTheEnd → (main : Block) (m n : ℕ) → m < n → IsSome (at main n)
    → Lives main m
lives_before no_gaps ends main m n less there = by_there (at main m) refl
  where
    by_there : (o : Option Configuration) → at main m ≡ o → Lives main m
    by_there (Some (f ∷ below)) is = (f, below, is)
    by_there (Some []) is =
        let next = no_gaps main (m + 1) n (omega (arith, less)) there in
        let e = sym (ap is_some (ends main m is)) ∙ next in absurd cc
    by_there None is =
        let here = no_gaps main m n (omega (arith, less)) there in
        let e = sym (ap is_some is) ∙ here in absurd cc

module _ (no_gaps : RunsHaveNoGaps) (ends : NothingFollowsTheEnd) (main : Block) (r : PlainReport) where
  -- where the report ends
  abbrev pub Finishes : SliceOutcome → Type 0
  Finishes e = Lives main r.end ⊎ ((at main r.end ≡ Some []) × (e ≡ slice.Done))

  on_lives : (e : SliceOutcome) → EndsBy main r e → Finishes e
  on_lives slice.More (takes_all spent undue runs) = inl (lives main r.end runs)
  on_lives (slice.Due why) (is_due on there runs) = inl (lives main r.end runs)
  on_lives slice.Done (is_over on over) = inr (over, refl)
  on_lives (slice.Fault fault) (faults early passed fails runs) = inl (lives main r.end runs)
  on_lives slice.Held (is_held stays runs) = inl (lives main r.end runs)
  on_lives slice.NoMemory (lacks_memory stays runs) = inl (lives main r.end runs)

  module _ (begun : RunsAt main r.start) where
    some_there : (o : Option Configuration) → at main r.start ≡ o → IsSome (at main r.start)
    some_there o is = grind (arith, common_steps, is_some) steps 200000

    below_lives : r.end ≤ r.start → Lives main r.end
    below_lives below =
        ⊎_elim
        (λ (less : r.end < r.start). lives_before no_gaps ends main r.end r.start less
        (some_there (at main r.start) refl))
        (λ (not : r.start ≤ r.end). let same : r.end ≡ r.start = omega (arith, below, not) in
        subst (Lives main) (sym same) (lives main r.start begun))
        (cases_lt r.end r.start)

    back_lives : (e : SliceOutcome) → GoesBackBy main r e → Finishes e
    back_lives slice.More (is_spent stays spent) = inl (below_lives (omega (arith, stays)))
    back_lives (slice.Due why) (has_come comes) =
        inl (below_lives (goal_below main r.plan r.mode r.start r.end why comes))
    back_lives slice.NoMemory (has_no_memory stays) = inl (below_lives (omega (arith, stays)))
    back_lives _ by = elim by [ ]

  went_lives : (b : Bool) → Went main r (back_if b) → Finishes r.outcome
  went_lives b went = grind (arith, common_steps, on_lives, back_lives) steps 200000

module _ (one : OneProgram) (joins : WrittenJoins) (no_gaps : RunsHaveNoGaps) (ends : NothingFollowsTheEnd)
    (past : History) where
  pub report_lives : (r : PlainReport) → Accepts past r → IsLawfulReport r → Ran one joins past → (l : Launched)
      → launched past ≡ Some l → IsAlive l r.end ⊎ ((at l.program r.end ≡ Some []) × (r.outcome ≡ slice.Done))
  report_lives r accepts lawful ran l is =
      rw (← (report_program one joins past r lawful l accepts (ran.so_far.progress (Some l) is))) (went_lives no_gaps
      ends lawful.program r (goes_back r.mode) lawful.lawful.went)

  -- the end isn't a stop
  done_stops_not : (r : PlainReport) (e : SliceOutcome) → e ≡ slice.Done → (s : StopReason)
      → ¬ (last_such stop_of_event (report_effect past r e).events ≡ Some s)
  done_stops_not r e done s stops = grind (arith, common_steps, outputs_stop) steps 200000

  -- no reply stops a program of which a run was ordered
  reply_stops_not : (o : Option StopReason) → StopsBy (situation past) past o → Ran one joins past → (run : Heading)
      → last_run past ≡ Some run → (s : StopReason) → ¬ (o ≡ Some s)
  reply_stops_not None no_stop ran run run_is s is = absurd cc
  reply_stops_not (Some other) (at_first l r configuring launch due_is) ran run run_is s is =
      let e = sym (ran.configuring (subst IsConfiguring (sym configuring) tt)).0 ∙ run_is in absurd cc

  pub stop_alive : (item : Item) (step : Step) → IsTaken IsLawfulEvent past item → Causes past item step
      → Ran one joins past → (l : Launched) → launched past ≡ Some l → (run : Heading) → last_run past ≡ Some run
      → (s : StopReason) → stop_in step ≡ Some s → IsAlive l (unwrap_or (end_of item) (position past))
  stop_alive (Content (Some request)) step taken is ran l there run run_is s stop_is =
      absurd (reply_stops_not _ (all_silent _ past request.body is.0 is.1).stops ran run run_is s (sym (stop_of_effect
      one joins step _ is.2.effect_is) ∙ stop_is))
  stop_alive (Accepted r) step taken is ran l there run run_is s stop_is =
      ⊎_elim (λ (alive : IsAlive l r.end). alive)
      (λ (over : (at l.program r.end ≡ Some []) × (r.outcome ≡ slice.Done)). absurd
      (done_stops_not r r.outcome over.1 s (sym (stop_of_effect one joins step _ is.effect_is) ∙ stop_is)))
      (report_lives r taken.0 taken.1 ran l there)
  stop_alive item step taken is ran l there run run_is s stop_is =
      grind (arith, common_steps, launch_stops_not, stop_of_effect) steps 200000
