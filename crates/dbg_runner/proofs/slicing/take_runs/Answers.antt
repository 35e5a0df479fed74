use Rattle.dbg_runner.proofs.Common.{ap, arith, Debugged, Mode, None, Option, RanFurther, refl, Room, slice_limit, SliceOutcome, Standing, sym, ℕ, ◌+◌, ◌<◌, ◌≡◌}
use Rattle.dbg_runner.proofs.SliceSteps.{few_numbers, has_room, goes}
use Rattle.dbg_runner.proofs.SliceRuns.{took, all_taken, on_its_way, came_further, ran_took}
use Rattle.dbg_runner.proofs.slicing.take_runs.Goals as goal
use Rattle.dbg_runner.proofs.slicing.take_runs.Goals.{In-runs}
use Rattle.std.proofs.lemmas.Grind.{common_steps}

-- the loop's test, in terms of where the slice began
below : (c : In-runs) → c.runs.debuggee.position < c.args.debuggee.now.position + slice_limit
below c = grind (arith, common_steps)

pub step_on-requires-clause-room : goal.step_on-requires-clause-room
step_on-requires-clause-room c =
    has_room _ _ _ _ c.runs.invariant.0 (below (goal.at.step_on-requires-clause-room c).In-runs)

pub run_on-requires-clause-room : goal.run_on-requires-clause-room
run_on-requires-clause-room c =
    let few = few_numbers c.args.mode c.args.debuggee.now c.runs.debuggee c.runs.outputs c.runs.invariant.0 in
    grind (arith, common_steps, below)

-- the run, in terms of where the slice began
ran : (outer : ℕ) (mode : Mode) (limit begin : ℕ) → limit ≡ begin + slice_limit → (old new : Debugged)
    (room more : Room) (result : Option SliceOutcome) → RanFurther limit outer mode old room result new more
    → RanFurther (begin + slice_limit) outer mode old room result new more
ran outer mode limit begin is old new room more result = grind (arith, common_steps)

pub returns-in-Some : goal.returns-in-Some
returns-in-Some c =
    took c.args.mode c.requires.forward c.args.debuggee.now c.runs.debuggee c.runs.outputs c.runs.invariant.0
    (below (goal.at.returns-in-Some c).In-runs) _ _ c.in-Some.ensures.written c.in-Some.ensures.advance
    c.in-Some.ensures.led c.in-Some.outcome (sym c.in-Some.ensures.ends)

pub returns-in-Some-run_on : goal.returns-in-Some-run_on
returns-in-Some-run_on c =
    ran_took c.args.mode c.requires.forward c.args.outer c.requires.undue c.args.debuggee.now c.runs.debuggee
    c.runs.outputs c.runs.invariant.0 (below (goal.at.returns-in-Some-run_on c).In-runs) _ _ _ (ran _ _ _ _
    c.runs.invariant.1 _ _ _ _ _ c.in-Some-run_on.ensures) c.in-Some-run_on.outcome refl

pub runs-preserved-in-None : goal.runs-preserved-in-None
runs-preserved-in-None c = (
  goes c.args.mode c.requires.forward c.args.debuggee.now c.runs.debuggee c.runs.outputs c.runs.invariant.0
      (below (goal.at.runs-preserved-in-None c).In-runs) _ _ _ c.in-None.ensures.written c.in-None.ensures.advance
      c.in-None.ensures.led (sym c.in-None.ensures.ends),
  c.runs.invariant.1,
)

pub runs-preserved : goal.runs-preserved
runs-preserved c = (
  on_its_way c.args.mode c.requires.forward c.args.outer c.requires.undue c.args.debuggee.now c.runs.debuggee
      c.runs.outputs c.runs.invariant.0
      (below (goal.at.runs-preserved c).In-runs) None _ _
      (ran _ _ _ _ c.runs.invariant.1 _ _ _ _ _ c.in-None-run_on.ensures) refl,
  c.runs.invariant.1,
)

pub runs-smaller : goal.runs-smaller
runs-smaller c =
    let here = below (goal.at.runs-smaller c).In-runs in
    let limit_is = c.runs.invariant.1 in
    let there =
    came_further c.args.mode c.requires.forward c.args.outer c.requires.undue c.args.debuggee.now c.runs.debuggee
    c.runs.outputs c.runs.invariant.0 here None _ _
    (ran _ _ _ _ c.runs.invariant.1 _ _ _ _ _ c.in-None-run_on.ensures) refl in
    omega (arith, here, limit_is, there)

pub returns : goal.returns
returns c =
    let there = c.position.ensures.position in
    let at = ap (λ (m : Standing). m.position) c.machine.ensures in
    let test = c.runs-test.false in
    let limit_is = c.runs.invariant.1 in
    all_taken _ c.requires.forward _ _ _ c.runs.invariant.0 (omega (arith, there, at, test, limit_is))
