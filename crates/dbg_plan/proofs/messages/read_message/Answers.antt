use Rattle.std.proofs.Common.{sym, subst}
use Rattle.pl0_tree.specs.Steps.{step_path}
use Rattle.pl0_machine.specs.Machine.{program_of}
use Rattle.dbg_plan.specs.Messages.{ReadsAsParts, plain_parts}
use Rattle.dbg_plan.proofs.MessageTexts.{reads_as}
use Rattle.dbg_plan.proofs.messages.read_message.Goals as goal

pub invariant_of-result : goal.invariant_of-result
invariant_of-result c =
    let main = program_of c.args.unit.now in
    let is = c.in_ok-parts.ensures.parts in
    record {
      reads = ∣ subst (λ t. ReadsAsParts t (plain_parts c.in_ok-parts.parts.items)) (sym c.in_ok-text.ensures.ok)
          (reads_as main (step_path main c.args.step) c.args.text.now (plain_parts c.in_ok-parts.parts.items) is) ∣₁;
      few = is.few;
    }
