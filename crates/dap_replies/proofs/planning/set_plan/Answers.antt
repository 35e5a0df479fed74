use Rattle.std.proofs.Common.{◌||◌, Some, ap, subst, sym, ◌∙◌}
use Rattle.dbg_plan.specs.Breakpoints.{plain_breakpoints}
use Rattle.dbg_plan.specs.Plans.{Listed}
use Rattle.dbg_runner.specs.Plain.{goes_back}
use Rattle.dap_replies.specs.Runs.{OrderedRun, ordered_to_hold}
use Rattle.dap_replies.specs.declared.phase.Phase.TheVariants as phase
use Rattle.dap_replies.specs.declared.choosing.Reaction.TheVariants as chosen
use Rattle.dap_replies.specs.Choosing.{Carries}
use Rattle.dap_replies.proofs.Situations.{Stop, Fault}
use Rattle.dap_replies.proofs.SetBreakpoints.{once, put_in_standing, waits_in_run, answers_after_end}
use Rattle.dap_replies.proofs.planning.set_plan.Goals as goal

pub returns-in_ok-plan-in-Running : goal.returns-in_ok-plan-in-Running
returns-in_ok-plan-in-Running c =
    let reaction = chosen.SetBreakpoints c.args.answers c.args.plan in
    let t = c.in-Running.target in
    let run = c.in-Running.run' in
    subst (λ p. Carries p reaction c.answer_lines.result) (sym c.in-Running.is)
    (subst (Carries (phase.Running t run) reaction) (sym c.answer_lines.ensures)
    (waits_in_run c.reading_laws.ensures t run c.hold-order.new.self c.args.answers c.args.plan c.hold-order.result
    (c.hold-order.ensures.order ∙ ap (λ (r : OrderedRun). once (r.held || goes_back r.mode) t.runs) c.wait_for.ensures)
    (c.hold-order.ensures.held ∙ ap ordered_to_hold (c.wait_for.ensures
    ∙ ap (λ (l : Listed). record run { waiting_plan = Some (plain_breakpoints l.breakpoints) })
    c.in_ok-plan-in-Running.ensures.ok))))

pub returns-in_ok-debuggee-in-Stopped : goal.returns-in_ok-debuggee-in-Stopped
returns-in_ok-debuggee-in-Stopped c =
    let reaction = chosen.SetBreakpoints c.args.answers c.args.plan in
    let t = c.in-Stopped.target in
    let d = c.in-Stopped.debuggee in
    subst (λ p. Carries p reaction c.answer_lines-in-Stopped.result) (sym c.in-Stopped.is)
    (subst (Carries (phase.Stopped t d) reaction) (sym c.answer_lines-in-Stopped.ensures)
    (put_in_standing c.reading_laws.ensures Stop t d c.in_ok-debuggee-in-Stopped.debuggee c.args.answers
    c.args.plan c.in_ok-debuggee-in-Stopped.ensures))

pub returns-in_ok-debuggee-in-Faulted : goal.returns-in_ok-debuggee-in-Faulted
returns-in_ok-debuggee-in-Faulted c =
    let reaction = chosen.SetBreakpoints c.args.answers c.args.plan in
    let t = c.in-Faulted.target in
    let d = c.in-Faulted.debuggee in
    subst (λ p. Carries p reaction c.answer_lines-in-Faulted.result) (sym c.in-Faulted.is)
    (subst (Carries (phase.Faulted t d) reaction) (sym c.answer_lines-in-Faulted.ensures)
    (put_in_standing c.reading_laws.ensures Fault t d c.in_ok-debuggee-in-Faulted.debuggee c.args.answers
    c.args.plan c.in_ok-debuggee-in-Faulted.ensures))

pub returns-in-Ended : goal.returns-in-Ended
returns-in-Ended c =
    let reaction = chosen.SetBreakpoints c.args.answers c.args.plan in
    let t = c.in-Ended.target in
    let u = c.in-Ended.unit in
    subst (λ p. Carries p reaction c.answer_lines-in-Ended.result) (sym c.in-Ended.is)
    (subst (Carries (phase.Ended t u) reaction) (sym c.answer_lines-in-Ended.ensures)
    (answers_after_end c.reading_laws.ensures t u c.args.answers c.args.plan))
