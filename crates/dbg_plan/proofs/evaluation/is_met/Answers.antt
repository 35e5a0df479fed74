use Rattle.std.proofs.Common.{◌≡◌, ◌-◌, sym, subst}
use Rattle.pl0_machine.specs.Machine.{program, frames}
use Rattle.pl0_machine.specs.LocatedValues.{located_truth, CanTest}
use Rattle.dbg_plan.specs.Values.{answered}
use Rattle.dbg_plan.proofs.ValuesMet.{IsTested, tested_here, holds_told}
use Rattle.dbg_plan.proofs.evaluation.is_met.Goals as goal
use Rattle.dbg_plan.proofs.evaluation.is_met.Goals.{After-depth-top}

tests : (c : After-depth-top) → IsTested (program c.args.machine.now) (frames c.args.machine.now)
    (c.depth-top.result - 1) c.in-Some.condition
tests c =
    tested_here c.args.machine.now c.args.breakpoint.now c.in-Some.condition c.depth-top.result c.requires.here
    c.in-Some.is c.depth-top.ensures.linked c.depth-top.ensures.depth

pub truth_of-requires : goal.truth_of-requires
truth_of-requires c =
    subst (λ k. CanTest (frames c.args.machine.now) (c.depth-top.result - 1) k) (sym c.deref.ensures)
    (tests (goal.at.truth_of-requires c).After-depth-top).0

pub returns-in-Some : goal.returns-in-Some
returns-in-Some c =
    let t = tests (goal.at.returns-in-Some c).After-depth-top in
    holds_told c.args.machine.now c.args.breakpoint.now c.in-Some.condition (c.depth-top.result - 1) c.truth_of.result
    c.unwrap_or.result c.depth-top.ensures.there c.in-Some.is t
    (subst (λ k. located_truth (frames c.args.machine.now) (c.depth-top.result - 1) k ≡ answered c.truth_of.result)
    c.deref.ensures c.truth_of.ensures) c.unwrap_or.ensures
