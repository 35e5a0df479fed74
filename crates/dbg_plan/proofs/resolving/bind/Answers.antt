use Rattle.std.proofs.Common.{◌≡◌, ◌<◌, length, ℕ, IfSome, arith, ap, List, sym, subst}
use Rattle.std.proofs.lemmas.Option.{slice_get_within}
use Rattle.pl0_tree.specs.Plain.{plain_block, plain_condition}
use Rattle.pl0_tree.specs.Steps.{blocks, step_path}
use Rattle.pl0_machine.specs.Machine.{program_of}
use Rattle.dbg_plan.specs.Breakpoints.{TextCondition}
use Rattle.dbg_plan.specs.ReadsAs.{ReadsAs}
use Rattle.dbg_plan.specs.Bound.{IsConditionBound}
use Rattle.dbg_plan.specs.Comparisons.{condition_of}
use Rattle.dbg_plan.proofs.StepLines.{unit_length}
use Rattle.dbg_plan.proofs.UnitBlocks.{block_at}
use Rattle.dbg_plan.proofs.resolving.bind.Goals as goal

pub index-requires : goal.index-requires
index-requires c = omega (arith, unit_length c.args.unit.now, c.args.unit.now.steps.ok, c.requires.within)

pub bind_condition-requires : goal.bind_condition-requires
bind_condition-requires c =
    subst (λ b. c.index.result.now.block < length (blocks (plain_block b))) (sym c.requires.names)
    (slice_get_within (blocks (program_of c.args.unit.now)) c.index.result.now.block _
    (block_at c.args.unit.now c.args.step c.index.result.now c.requires.within c.index.ensures))

pub returns-clause-bound : goal.returns-clause-bound
returns-clause-bound c =
    let q = step_path (program_of c.args.unit.now) c.args.step in
    let bound = rw c.requires.names at c.in_ok-located.ensures in
    let is = c.in_ok-shared.ensures.ok in (
      subst (λ k. IsConditionBound (program_of c.args.unit.now) q (plain_condition c.args.condition) k) (sym is)
          (bound q (block_at c.args.unit.now c.args.step c.index.result.now c.requires.within c.index.ensures)),
      subst (λ k. IfSome c.comparison_at-asked.result (λ a. k ≡ condition_of (length q) a)) (sym is)
          c.comparison_at-asked.ensures,
    )

pub returns-clause-text : goal.returns-clause-text
returns-clause-text c =
    let with_text : List ℕ → TextCondition = λ t. record { text = t; condition = plain_condition c.args.condition } in
    ap with_text c.in_ok-text.ensures.ok

pub invariant_of-result : goal.invariant_of-result
invariant_of-result c =
    record {
      reads = subst (λ t. ∥ ReadsAs t (plain_condition c.args.condition) ∥₁) (sym c.in_ok-text.ensures.ok)
          c.requires.reads;
    }
