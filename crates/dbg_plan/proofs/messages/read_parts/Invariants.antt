use Rattle.std.proofs.Common.{◌-◌}
use Rattle.pl0_tree.specs.Steps.{step_path}
use Rattle.pl0_machine.specs.Machine.{program_of}
use Rattle.dbg_plan.specs.Messages.{expression_limit}
use Rattle.dbg_plan.proofs.MessageTexts.{IsRead}
use Rattle.dbg_plan.proofs.messages.read_parts.Given as goal

abbrev pub invariant-loop-before : goal.invariant-loop-before
invariant-loop-before l =
    IsRead (program_of l.unit) (step_path (program_of l.unit) l.step) l.text l.values l.parts.items l.rest

abbrev pub decreases-loop-before : goal.decreases-loop-before
decreases-loop-before l = expression_limit - l.values
