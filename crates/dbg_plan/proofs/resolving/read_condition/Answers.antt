use Rattle.std.proofs.Common.{arith, ap, length, sym, subst}
use Rattle.pl0_tree.specs.Plain.{plain_block, plain_condition}
use Rattle.pl0_tree.specs.Faults.{IsConditionOf}
use Rattle.pl0_tree.specs.Steps.{steps, step_path, AreSteps}
use Rattle.pl0_machine.specs.Machine.{program_of}
use Rattle.dbg_plan.specs.Breakpoints.{TextCondition}
use Rattle.dbg_plan.proofs.Conditions.{no_condition}
use Rattle.dbg_plan.proofs.StepLines.{unit_length}
use Rattle.dbg_plan.proofs.Texts.{not_empty}
use Rattle.dbg_plan.proofs.UnitBlocks.{unit_steps}
use Rattle.dbg_plan.proofs.resolving.read_condition.Goals as goal
use Rattle.dbg_plan.proofs.resolving.read_condition.Goals.{In-Ok}

pub returns-in-Err-clause-fault : goal.returns-in-Err-clause-fault
returns-in-Err-clause-fault c =
    no_condition c.editor_laws.ensures.condition (program_of c.args.unit.now) c.args.step c.args.text.now
    (not_empty c.args.text.now _ c.is_empty.ensures c.if-is_empty.false) c.in-Err.fault
    (rw (c.requires.names, c.as_bytes.ensures.value) at c.in-Err.ensures.fault)

reads_as : (c : In-Ok) → IsConditionOf (program_of c.args.unit.now) (step_path (program_of c.args.unit.now) c.args.step)
    c.args.text.now (plain_condition c.in-Ok.condition)
reads_as c = rw (c.requires.names, c.as_bytes.ensures.value) at c.in-Ok.ensures.condition

pub bind-requires-clause-reads : goal.bind-requires-clause-reads
bind-requires-clause-reads c = let is = reads_as c in ∣ is.reads ∣₁

pub returns-in-Ok-bind-clause-condition : goal.returns-in-Ok-bind-clause-condition
returns-in-Ok-bind-clause-condition c =
    let main = program_of c.args.unit.now in
    let text = c.args.text.now in
    let same = c.in-Ok-bind.ensures.text in
    record {
      reads = (
        not_empty text _ c.is_empty.ensures c.if-is_empty.false,
        ap (λ (t : TextCondition). t.text) same,
        subst (λ (t : TextCondition). IsConditionOf main (step_path main c.args.step) text t.condition) (sym same)
            (reads_as (goal.at.returns-in-Ok-bind-clause-condition c).In-Ok),
      );
      bound = c.in-Ok-bind.ensures.bound;
    }

pub parse_condition-requires-clause-step_table : goal.parse_condition-requires-clause-step_table
parse_condition-requires-clause-step_table c =
    let main = program_of c.args.unit.now in
    subst (λ b. AreSteps (plain_block b) c.deref.result.now (steps (plain_block b))) (sym c.requires.names)
    (subst (λ l. AreSteps main l (steps main)) (sym c.deref.ensures.value) (unit_steps c.args.unit.now))

pub parse_condition-requires-clause-within : goal.parse_condition-requires-clause-within
parse_condition-requires-clause-within c =
    omega (arith, unit_length c.args.unit.now, ap length c.deref.ensures.value, c.requires.within)
