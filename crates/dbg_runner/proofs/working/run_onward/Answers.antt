use Rattle.dbg_runner.proofs.Common.{ap, arith, box_value, Debugged, IsNextOf, option_map, subst, sym, ◌∙◌}
use Rattle.dbg_runner.proofs.Turning.{one, then, gate, sends_on, sends_last, is_lost, took_some}
use Rattle.dbg_runner.proofs.working.run_onward.Goals as goal

pub returns-then-not-deliver-clause-worked : goal.returns-then-not-deliver-clause-worked
returns-then-not-deliver-clause-worked g c =
    let report = c.next_report-report.result.0 in
    let on = option_map box_value c.next_report-report.result.1 in
    let next = subst (λ (d : Debugged). IsNextOf c.args.number d c.args.mode report on)
    c.into_debuggee-debuggee.ensures.same c.next_report-report.ensures.report in
    then _ _ _ _ _ _ (gate c.args.number c.args.debuggee c.args.mode c.requires.forward c.args.slices _ _ _
    (cc (c.deref-here.ensures, c.into_debuggee-debuggee.ensures.same)) c.pass.ensures.acts) (one _ _ _ _ _
    (c.deliver.ensures.refused c.if-not-deliver.true) (is_lost c.args.number c.args.debuggee c.args.mode
    c.requires.forward c.args.slices report on next))

pub returns-in-None-clause-worked : goal.returns-in-None-clause-worked
returns-in-None-clause-worked g c =
    let report = c.next_report-report.result.0 in
    let on = option_map box_value c.next_report-report.result.1 in
    let next = subst (λ (d : Debugged). IsNextOf c.args.number d c.args.mode report on)
    c.into_debuggee-debuggee.ensures.same c.next_report-report.ensures.report in
    then _ _ _ _ _ _ (gate c.args.number c.args.debuggee c.args.mode c.requires.forward c.args.slices _ _ _
    (cc (c.deref-here.ensures, c.into_debuggee-debuggee.ensures.same)) c.pass.ensures.acts) (one _ _ _ _ _
    (c.deliver.ensures.sent c.if-not-deliver.false) (sends_last c.args.number c.args.debuggee c.args.mode
    c.requires.forward c.args.slices report on next (cc c.in-None.is)))

pub returns-in-Some-clause-worked : goal.returns-in-Some-clause-worked
returns-in-Some-clause-worked g c =
    let report = c.next_report-report.result.0 in
    let on = option_map box_value c.next_report-report.result.1 in
    let next = subst (λ (d : Debugged). IsNextOf c.args.number d c.args.mode report on)
    c.into_debuggee-debuggee.ensures.same c.next_report-report.ensures.report in
    let d = c.in-Some.debuggee.value in
    let kept = c.new.ensures
    ∙ c.keep.ensures.kept
    ∙ ap (λ (x : Debugged). record x { trail = c.keep.new.debuggee.trail }) c.deref_mut.ensures.value
    ∙ ap (λ (x : Debugged). record d { trail = x.trail }) (sym c.new.ensures) in
    then _ _ _ _ _ _ (then _ _ _ _ _ _ (gate c.args.number c.args.debuggee c.args.mode c.requires.forward c.args.slices
    _ _ _ (ap (λ (d : Debugged). d.position) (c.deref-here.ensures ∙ c.into_debuggee-debuggee.ensures.same))
    c.pass.ensures.acts) (one _ _ _ _ _ (c.deliver.ensures.sent c.if-not-deliver.false) (sends_on c.args.number
    c.args.debuggee c.args.mode c.requires.forward c.args.slices report on next d (ap (λ o. option_map box_value o) (sym
    c.in-Some.is)) c.new.result kept))) c.look.ensures.worked

pub invariant_of-run : goal.invariant_of-run
invariant_of-run g c =
    let report = c.next_report-report.result.0 in
    let on = option_map box_value c.next_report-report.result.1 in
    let next = subst (λ (d : Debugged). IsNextOf c.args.number d c.args.mode report on)
    c.into_debuggee-debuggee.ensures.same c.next_report-report.ensures.report in
    let d = c.in-Some.debuggee.value in
    let kept = c.new.ensures
    ∙ c.keep.ensures.kept
    ∙ ap (λ (x : Debugged). record x { trail = c.keep.new.debuggee.trail }) c.deref_mut.ensures.value
    ∙ ap (λ (x : Debugged). record d { trail = x.trail }) (sym c.new.ensures) in
    let counted = c.requires.counted in
    let far = took_some _ _ _ c.requires.forward c.args.slices report on next d (ap (λ o. option_map box_value o) (sym
    c.in-Some.is)) _ kept in
    record { counted = (c.requires.forward, omega (arith, counted, far)) }
