use Rattle.std.proofs.Common.{Some, subst, sym}
use Rattle.dbg_plan.specs.declared.debuggee.Advance.TheVariants as advance
use Rattle.dbg_plan.specs.Running.{RanFrom}
use Rattle.dbg_plan.specs.Quiet.{RanTo}
use Rattle.dbg_plan.proofs.QuietCounts.{faulted}
use Rattle.dbg_plan.proofs.debuggee.Debuggee.run.Goals as goal

pub returns-in-Fault-clause-ran : goal.returns-in-Fault-clause-ran
returns-in-Fault-clause-ran c =
    let old = c.args.self.now in
    let new = c.run_quietly.new.self in
    let before = c.args.numbers.now.items in
    let after = c.run_quietly.new.numbers.items in
    subst (λ l. RanFrom c.args.limit c.args.outer c.args.mode old before (Some (advance.Fault c.in-Fault.fault)) new
    after l)
    (sym c.requires.empty)
    (faulted c.args.limit c.args.outer c.args.mode old new before after c.in-Fault.fault
    (subst (λ outcome. RanTo c.args.limit c.args.outer old before (Some outcome) new after) c.in-Fault.is
    c.in_ok-written.ensures.ran))
