use Rattle.std.proofs.Common.{sym, ◌∙◌}
use Rattle.std.proofs.lemmas.Result.{IfOk-weaker}
use Rattle.dap_msg.specs.declared.outgoing.Body.TheVariants as body
use Rattle.dbg_plan.specs.declared.mode.Mode.TheVariants as mode
use Rattle.dap_replies.specs.declared.phase.Phase.TheVariants as phase
use Rattle.dap_replies.specs.declared.choosing.Reaction.TheVariants.{Start}
use Rattle.dap_replies.specs.Choosing.{Carries}
use Rattle.dap_replies.specs.Going.{HasGone, HasStopped}
use Rattle.dap_replies.proofs.Resumed.{told_there, enters_due, enters_running}
use Rattle.dap_replies.proofs.running.enter.Goals as goal

pub returns-in-Some : goal.returns-in-Some
returns-in-Some c =
    let t = c.args.target in
    let d = c.args.unstarted in
    let at = c.consider-reason in
    IfOk-weaker c.stop.result (HasStopped t at.result.1 c.in-Some.reason c.in_ok-events.events.items)
    (Carries (phase.Configuring t d) Start)
    (λ given stopped command choice past is. enters_due c.reading_laws.ensures t d at.result.1 c.first_mode.result
    c.in-Some.reason c.in_ok-events.events.items past given at.ensures.considered c.first_mode.ensures
    (sym c.in-Some.is ∙ at.ensures.due)
    (told_there d at.result.1 at.new.logs c.in_ok-events.events.items at.ensures.considered at.ensures.logs
    c.in_ok-events.ensures) stopped command choice is)
    c.stop.ensures

pub returns : goal.returns
returns c =
    let t = c.args.target in
    let d = c.args.unstarted in
    let at = c.consider-reason in
    IfOk-weaker c.go.result (HasGone t at.result.1 mode.Continue body.None c.in_ok-events.events.items)
    (Carries (phase.Configuring t d) Start)
    (λ given gone command choice past is. enters_running c.reading_laws.ensures t d at.result.1 c.first_mode.result
    c.in_ok-events.events.items past given at.ensures.considered c.first_mode.ensures
    (sym c.in-None.is ∙ at.ensures.due)
    (told_there d at.result.1 at.new.logs c.in_ok-events.events.items at.ensures.considered at.ensures.logs
    c.in_ok-events.ensures) gone command choice is)
    c.go.ensures
