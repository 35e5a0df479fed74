use Rattle.std.proofs.Common.{◌≡◌, ◌+◌, ◌-◌, ◌≤◌, length, option_map, sym, subst, arith}
use Rattle.std.specs.Vec.{vec_capacity}
use Rattle.pl0_machine.specs.declared.outcome.StepOutcome.TheVariants.{Went}
use Rattle.pl0_machine.specs.Stretches.{RanOn}
use Rattle.dbg_plan.specs.Counts.{IsCounting, debugged_of}
use Rattle.dbg_plan.specs.Debugged.{Debugged, IsNext}
use Rattle.dbg_plan.specs.Quiet.{RanTo}
use Rattle.dbg_plan.proofs.Counted.{has_table}
use Rattle.dbg_plan.proofs.QuietCounts.{counting_after, fewer, ran_to, is_next}
use Rattle.dbg_plan.proofs.debuggee.Debuggee.run_quietly.Goals as goal
use Rattle.dbg_plan.proofs.debuggee.Debuggee.run_quietly.Goals.{After-run-outcome}

pub run-outcome-requires-clause-table : goal.run-outcome-requires-clause-table
run-outcome-requires-clause-table c =
    has_table c.configuration_laws.ensures.linked _ c.self.inside.counts c.self.invariant.room
    c.self.inside.machine.unit (option_map (λ t. t.now) c.marks_of-marks.result) c.self.invariant.fits
    c.marks_of-marks.ensures

-- there is room for what all steps write
roomy : (c : After-run-outcome) → length c.args.numbers.now.items + (c.args.limit - c.self.inside.machine.position)
    ≤ vec_capacity c.args.numbers.now
roomy c =
    subst (λ (d : Debugged). length c.args.numbers.now.items + (c.args.limit - d.position)
    ≤ vec_capacity c.args.numbers.now) (sym c.self.view_is) c.requires.room

pub invariant_of-self : goal.invariant_of-self
invariant_of-self c =
    let behind = subst (λ (d : Debugged). d.next ≡ d.position + 1) (sym c.self.view_is) c.requires.considered.behind in
    let outcome = c.run-outcome in
    subst (λ b. IsCounting (record c.self.inside
    { machine = outcome.new.self; counts = outcome.new.counts; considered = b }))
    (sym c.stays_considered-self-inside.ensures)
    (counting_after c.configuration_laws.ensures.linked c.self.inside c.self.invariant behind c.args.limit c.args.outer
    (option_map (λ t. t.now) c.marks_of-marks.result) c.marks_of-marks.ensures outcome.new.self outcome.new.counts
    (vec_capacity c.args.numbers.now) c.args.numbers.now.items outcome.new.numbers.items
    (roomy (goal.at.invariant_of-self c).After-run-outcome) outcome.result
    outcome.ensures.ran)

pub returns-clause-ran : goal.returns-clause-ran
returns-clause-ran c =
    let behind = subst (λ (d : Debugged). d.next ≡ d.position + 1) (sym c.self.view_is) c.requires.considered.behind in
    let outcome = c.run-outcome in
    subst (λ d. RanTo c.args.limit c.args.outer d c.args.numbers.now.items outcome.result
    (debugged_of (record c.self.inside
    { machine = outcome.new.self; counts = outcome.new.counts; considered = c.stays_considered-self-inside.result }))
    outcome.new.numbers.items)
    c.self.view_is
    (subst (λ b. RanTo c.args.limit c.args.outer (debugged_of c.self.inside) c.args.numbers.now.items outcome.result
    (debugged_of (record c.self.inside { machine = outcome.new.self; counts = outcome.new.counts; considered = b }))
    outcome.new.numbers.items)
    (sym c.stays_considered-self-inside.ensures)
    (ran_to c.configuration_laws.ensures.linked c.self.inside c.self.invariant behind c.args.limit c.args.outer
    (option_map (λ t. t.now) c.marks_of-marks.result) c.marks_of-marks.ensures outcome.new.self outcome.new.counts
    (vec_capacity c.args.numbers.now) c.args.numbers.now.items outcome.new.numbers.items
    (roomy (goal.at.returns-clause-ran c).After-run-outcome) outcome.result
    outcome.ensures.ran))

pub returns-clause-next : goal.returns-clause-next
returns-clause-next c = λ written is.
    let behind = subst (λ (d : Debugged). d.next ≡ d.position + 1) (sym c.self.view_is) c.requires.considered.behind in
    let outcome = c.run-outcome in
    let went =
    is_next c.configuration_laws.ensures.linked c.self.inside c.self.invariant behind c.args.limit c.args.outer
    (option_map (λ t. t.now) c.marks_of-marks.result) c.marks_of-marks.ensures outcome.new.self outcome.new.counts
    (vec_capacity c.args.numbers.now) c.args.numbers.now.items outcome.new.numbers.items
    (roomy (goal.at.returns-clause-next c).After-run-outcome) outcome.result
    outcome.ensures.ran written is in
    subst
    (λ b. IsNext (debugged_of (record c.self.inside
    { machine = outcome.new.self; counts = outcome.new.counts; considered = b })))
    (sym c.stays_considered-self-inside.ensures) went

pub returns-clause-room : goal.returns-clause-room
returns-clause-room c = λ written is.
    let here = (goal.at.returns-clause-room c).After-run-outcome in
    let behind = subst (λ (d : Debugged). d.next ≡ d.position + 1) (sym c.self.view_is) c.requires.considered.behind in
    let outcome = c.run-outcome in
    let few =
    fewer c.configuration_laws.ensures.linked c.self.inside c.self.invariant behind c.args.limit c.args.outer
    (option_map (λ t. t.now) c.marks_of-marks.result) c.marks_of-marks.ensures outcome.new.self outcome.new.counts
    (vec_capacity c.args.numbers.now) c.args.numbers.now.items outcome.new.numbers.items (roomy here) (Went written)
    (subst (λ o. RanOn c.args.limit c.args.outer (option_map (λ t. t.now) c.marks_of-marks.result)
    c.self.inside.machine o outcome.new.self c.self.inside.counts outcome.new.counts (vec_capacity c.args.numbers.now)
    c.args.numbers.now.items outcome.new.numbers.items) is outcome.ensures.ran) in
    let same = outcome.ensures.capacity in
    omega (arith, few, same)
