use Rattle.dbg_runner.proofs.Turning.{one, then, gate_back, sends_on_back, sends_last_back, is_lost_back}
use Rattle.dbg_runner.proofs.working.run_back.Goals as goal

pub returns-then-not-deliver-clause-worked : goal.returns-then-not-deliver-clause-worked
returns-then-not-deliver-clause-worked g c =
    let b = c.args.retreat in
    then _ _ _ _ _ _ (gate_back _ b c.requires.back _ c.requires.counted _ _ _ c.debuggee.ensures.is.before
    c.pass.ensures.acts) (one _ _ _ _ _ (c.deliver.ensures.refused c.if-not-deliver.true) (is_lost_back _ b
    c.requires.back _ c.requires.counted _ _ c.next_report-report.ensures))

pub returns-in-None-clause-worked : goal.returns-in-None-clause-worked
returns-in-None-clause-worked g c =
    let b = c.args.retreat in
    then _ _ _ _ _ _ (gate_back _ b c.requires.back _ c.requires.counted _ _ _ c.debuggee.ensures.is.before
    c.pass.ensures.acts) (one _ _ _ _ _ (c.deliver.ensures.sent c.if-not-deliver.false) (sends_last_back _ b
    c.requires.back _ c.requires.counted _ _ c.next_report-report.ensures c.in-None.is))

pub returns-in-Some-clause-worked : goal.returns-in-Some-clause-worked
returns-in-Some-clause-worked g c =
    let b = c.args.retreat in
    let on = c.in-Some.retreat in
    then _ _ _ _ _ _ (then _ _ _ _ _ _ (gate_back c.args.number b c.requires.back c.args.slices c.requires.counted _ _ _
    c.debuggee.ensures.is.before c.pass.ensures.acts) (one _ _ _ _ _ (c.deliver.ensures.sent c.if-not-deliver.false)
    (sends_on_back c.args.number b c.requires.back c.args.slices c.requires.counted c.next_report-report.result.0
    c.next_report-report.result.1 c.next_report-report.ensures on c.in-Some.is))) c.look.ensures.worked
