use Rattle.std.proofs.Common.{sym, subst}
use Rattle.std.proofs.lemmas.Result.{IfOk-weaker}
use Rattle.dbg_plan.specs.MessageFaults.{UnlessNoMemory}
use Rattle.dbg_plan.specs.Resolutions.{HasMessageAt, plain_line}
use Rattle.dbg_plan.specs.Resolving.{ResolvesLine}
use Rattle.pl0_machine.specs.Machine.{program_of}
use Rattle.dbg_plan.proofs.Lines.{bad_hit_condition, bad_log_message}
use Rattle.dbg_plan.proofs.resolving.resolve_at.Goals as goal

pub returns-in-Err : goal.returns-in-Err
returns-in-Err c =
    bad_hit_condition (program_of c.args.unit.now) (plain_line c.args.asked.now) c.args.breakpoints.now.items
    c.args.step c.args.condition c.requires.there c.requires.condition c.in-Err.ensures.bad

pub returns-in-Err-read_message : goal.returns-in-Err-read_message
returns-in-Err-read_message c =
    let main = program_of c.args.unit.now in
    let old = c.args.breakpoints.now.items in
    let asked = plain_line c.args.asked.now in
    IfOk-weaker c.without_message.result _ _ (λ r is.
    subst (ResolvesLine main asked old old) (sym is.0)
    (bad_log_message main asked old c.args.step c.args.condition c.in-Ok.rule c.requires.there c.requires.condition
    c.in-Ok.ensures.rule
    (subst (λ fault. UnlessNoMemory (¬ HasMessageAt main c.args.step asked.log_message) fault) is.1
    c.in-Err-read_message.ensures.bad))) c.without_message.ensures
