use Rattle.std.proofs.Common.{◌≡◌, ap, subst, sym, ◌∙◌}
use Rattle.dbg_plan.specs.Breakpoints.{plain_breakpoints}
use Rattle.dbg_plan.specs.Debugged.{Debugged}
use Rattle.dbg_plan.specs.Plans.{Listed}
use Rattle.dap_replies.specs.declared.phase.Phase.TheVariants as phase
use Rattle.dap_replies.specs.declared.choosing.Reaction.TheVariants as chosen
use Rattle.dap_replies.specs.Choosing.{Carries}
use Rattle.dap_replies.proofs.SetBreakpoints.{put_in_before_start}
use Rattle.dap_replies.proofs.planning.before_start.Goals as goal

pub returns : goal.returns
returns c =
    subst
    (Carries (phase.Configuring c.args.target c.args.debuggee) (chosen.SetBreakpoints c.args.answers c.args.plan))
    (sym c.answer_lines.ensures)
    (put_in_before_start c.reading_laws.ensures c.args.target c.args.debuggee c.set_plan.new.self c.args.answers
    c.args.plan (subst (λ (x : Debugged). x.next ≡ x.position) c.debuggee.view_is c.debuggee.invariant.here)
    (c.set_plan.ensures ∙ ap (λ (l : Listed). record c.args.debuggee
    { breakpoints = plain_breakpoints l.breakpoints; counted_from = c.args.debuggee.next }) c.in_ok-plan.ensures.ok))
