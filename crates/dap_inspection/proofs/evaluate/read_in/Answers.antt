use Rattle.std.proofs.Common.{◌≡◌, ◌∙◌, ap, arith}
use Rattle.pl0_tree.specs.Steps.{steps, AreSteps}
use Rattle.pl0_machine.specs.Machine.{program_of}
use Rattle.dbg_plan.proofs.UnitBlocks.{unit_steps, unit_nestings}
use Rattle.dap_inspection.proofs.FrameReadings.{next_within, read_there, not_read_there}
use Rattle.dap_inspection.proofs.evaluate.read_in.Goals as goal
use Rattle.dap_inspection.proofs.evaluate.read_in.Goals.{After-deref-2}
use Rattle.std.proofs.lemmas.Grind.{common_steps}

same_unit : (c : After-deref-2) → c.deref-unit.result.now ≡ c.args.machine.now.unit
same_unit c = c.deref-unit.ensures ∙ c.unit.ensures

steps_are : (c : After-deref-2) → AreSteps (program_of c.deref-unit.result.now) c.deref-2.result.now
    (steps (program_of c.deref-unit.result.now))
steps_are c = grind (arith, common_steps, unit_steps)

pub new-names-requires : goal.new-names-requires
new-names-requires c = grind (arith, common_steps, unit_nestings)

pub parse_expression-requires-clause-step_table : goal.parse_expression-requires-clause-step_table
parse_expression-requires-clause-step_table c = rw c.new-names.ensures (steps_are c)

pub parse_expression-requires-clause-within : goal.parse_expression-requires-clause-within
parse_expression-requires-clause-within c = grind (arith, common_steps, next_within, steps_are, same_unit)

names_are : (c : After-deref-2) → c.new-names.result ≡ c.args.machine.now.unit.tree.program
names_are c = c.new-names.ensures ∙ ap (λ u. u.tree.program) (same_unit c)

pub returns-in-Ok : goal.returns-in-Ok
returns-in-Ok c =
    let m = c.args.machine.now in
    let same = names_are (goal.at.returns-in-Ok c).After-deref-2 in
    read_there c.configuration_laws.ensures.next_steps _ _ c.frame-step.result c.args.text.now c.in-Ok.expression
    c.frame-step.ensures (rw (same, c.as_bytes.ensures.value) at c.in-Ok.ensures.expression)

pub returns : goal.returns
returns c =
    let m = c.args.machine.now in
    let same = names_are (goal.at.returns c).After-deref-2 in
    not_read_there c.configuration_laws.ensures.next_steps c.editor_laws.ensures.expression _ _ c.frame-step.result
    c.args.text.now c.in-Err-InText.field-0-0 c.in-Err-InText.field-0-1 c.frame-step.ensures
    (rw (same, c.as_bytes.ensures.value, c.in-Err-InText.field-0-is) at c.in-Err-InText.ensures.fault)
