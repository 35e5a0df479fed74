use Rattle.std.proofs.Common.{◌≡◌, ap, subst, sym, ◌∙◌}
use Rattle.std.proofs.lemmas.Result.{IfOk-weaker}
use Rattle.dbg_plan.specs.Due.{depth_at}
use Rattle.dbg_plan.specs.Debugged.{machine_of}
use Rattle.pl0_machine.specs.Machine.{Standing, program_of}
use Rattle.dap_history.specs.Running.{mode_of}
use Rattle.dap_replies.specs.declared.choosing.Reaction.TheVariants.{Resume}
use Rattle.dap_replies.specs.Choosing.{Carries}
use Rattle.dap_replies.specs.Going.{HasGone}
use Rattle.dap_replies.proofs.Resumed.{depth_there, resumes_there}
use Rattle.dap_replies.proofs.running.resume.Goals as goal

pub returns : goal.returns
returns c =
    let t = c.in-Stopped.target in
    let d = c.in-Stopped.debuggee in
    let standing : c.machine.result.now ≡ machine_of d = c.machine.ensures ∙ ap machine_of c.debuggee.ensures.same in
    let depth =
    depth_there c.machine.result.now c.depth.result c.depth.ensures.there c.depth.ensures.depth
    ∙ ap (λ (m : Standing). depth_at (program_of m.unit) m.position) standing in
    IfOk-weaker c.go.result (HasGone t d c.resume_mode-mode.result c.resume_body.result c.new.result.items)
    (Carries c.args.phase (Resume c.args.kind))
    (λ given gone. subst (λ p. Carries p (Resume c.args.kind) given) (sym c.in-Stopped.is)
    (resumes_there c.reading_laws.ensures t d c.resume_mode-mode.result c.resume_body.result c.args.kind given
    c.resume_body.ensures (c.resume_mode-mode.ensures ∙ ap (mode_of c.args.kind) depth)
    (subst (λ es. HasGone t d c.resume_mode-mode.result c.resume_body.result es given) c.new.ensures.items gone)))
    c.go.ensures
