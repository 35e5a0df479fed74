-- Units of one text: a plan that was made for one of them fits the other.
use Rattle.std.proofs.Common.{◌≡◌, length, Option, None, Some, subst, ap, ◌∙◌}
use Rattle.std.specs.Coded.{Coded-set, coded_ℕ, coded_list, coded_option}
use Rattle.std.proofs.Math.Logic.{∥∥₁_elim}
use Rattle.pl0_tree.specs.Tokens.{tokens_of}
use Rattle.pl0_tree.specs.Reading.{ReadsProgram}
use Rattle.pl0_tree.specs.Faults.{level_limit}
use Rattle.pl0_tree.specs.Steps.{steps}
use Rattle.pl0_tree.proofs.Unique.{program_once}
use Rattle.pl0_tree.proofs.BlockCode.{block_code}
use Rattle.pl0_unit.specs.declared.unit.Unit.{Unit as Compiled}
use Rattle.pl0_unit.specs.Code.{Coded}
use Rattle.pl0_code.specs.Laws.{OneCode}
use Rattle.pl0_machine.specs.Machine.{program_of}
use Rattle.dbg_plan.specs.Plans.{Listed, AreAtSteps, marked_addresses}
use Rattle.dbg_plan.specs.Counting.{MayBePlanOf}
use Rattle.dbg_runner.specs.Reported.{text_of}

-- one text is the text of one program
pub one_program : (u v : Compiled) → text_of u ≡ text_of v → program_of u ≡ program_of v
one_program u v same =
    let alike = Coded-set block_code (program_of u) (program_of v) in
    ∥∥₁_elim u.tree.lawful alike (λ x. ∥∥₁_elim v.tree.lawful alike
    (λ y. program_once (subst (λ t. ReadsProgram level_limit (tokens_of t) (program_of u)) same x.reads) y.reads))

one_table : OneCode → (u v : Compiled) → program_of u ≡ program_of v → u.begun_steps.items ≡ v.begun_steps.items
one_table one u v same =
    let alike = Coded-set (coded_list (coded_option coded_ℕ)) u.begun_steps.items v.begun_steps.items in
    ∥∥₁_elim v.tree.in_order alike (λ ordered. ∥∥₁_elim u.compiled alike (λ x. ∥∥₁_elim v.compiled alike (λ y.
    (one (program_of v) u.code.items v.code.items u.begun_steps.items v.begun_steps.items ordered
    (subst (λ main. Coded (record { main = main; code = u.code.items; begun_steps = u.begun_steps.items })) same
    x.coded) y.coded).1)))

pub fits_also : OneCode → (u v : Compiled) (plan : Option Listed) → text_of u ≡ text_of v → MayBePlanOf u plan
    → MayBePlanOf v plan
fits_also one u v None same is = tt
fits_also one u v (Some plan) same is =
    let program = one_program u v same in record {
      steps = is.steps ∙ ap (λ main. length (steps main)) program;
      bound = subst (λ main. AreAtSteps main plan.breakpoints) program is.bound;
      marked = is.marked ∙ ap (λ l. marked_addresses plan.breakpoints l) (one_table one u v program);
    }
