use Rattle.std.proofs.Common.{◌<◌, arith, ap, length, sym, subst}
use Rattle.std.proofs.lemmas.Option.{slice_get_within}
use Rattle.pl0_tree.specs.Plain.{plain_block}
use Rattle.pl0_tree.specs.Steps.{blocks, steps, step_path, AreSteps}
use Rattle.pl0_machine.specs.Machine.{program_of}
use Rattle.dbg_plan.proofs.MessageTexts.{no_expression}
use Rattle.dbg_plan.proofs.StepLines.{unit_length}
use Rattle.dbg_plan.proofs.UnitBlocks.{unit_steps, block_at}
use Rattle.dbg_plan.proofs.messages.read_expression.Goals as goal

pub parse_expression-requires-clause-step_table : goal.parse_expression-requires-clause-step_table
parse_expression-requires-clause-step_table c =
    let main = program_of c.args.unit.now in
    subst (λ b. AreSteps (plain_block b) c.deref.result.now (steps (plain_block b))) (sym c.requires.names)
    (subst (λ l. AreSteps main l (steps main)) (sym c.deref.ensures.value) (unit_steps c.args.unit.now))

pub parse_expression-requires-clause-within : goal.parse_expression-requires-clause-within
parse_expression-requires-clause-within c =
    omega (arith, unit_length c.args.unit.now, ap length c.deref.ensures.value, c.requires.within)

pub returns-in-Err-InText-clause-bad : goal.returns-in-Err-InText-clause-bad
returns-in-Err-InText-clause-bad c =
    no_expression c.editor_laws.ensures.expression (program_of c.args.unit.now)
    (step_path (program_of c.args.unit.now) c.args.step) c.args.text.now _ _ _
    (rw (c.requires.names, c.as_bytes.ensures.value) at c.in-Err-InText.ensures.fault) c.in-Err-InText.field-0-is

pub index-requires : goal.index-requires
index-requires c = omega (arith, unit_length c.args.unit.now, c.args.unit.now.steps.ok, c.requires.within)

pub bind_expression-requires : goal.bind_expression-requires
bind_expression-requires c =
    subst (λ b. c.index.result.now.block < length (blocks (plain_block b))) (sym c.requires.names)
    (slice_get_within (blocks (program_of c.args.unit.now)) c.index.result.now.block _
    (block_at c.args.unit.now c.args.step c.index.result.now c.requires.within c.index.ensures))

pub returns-in-Ok-bind_expression-clause-bound : goal.returns-in-Ok-bind_expression-clause-bound
returns-in-Ok-bind_expression-clause-bound c =
    let bound = rw c.requires.names at c.in-Ok-bind_expression.ensures in
    bound (step_path (program_of c.args.unit.now) c.args.step)
    (block_at c.args.unit.now c.args.step c.index.result.now c.requires.within c.index.ensures)
