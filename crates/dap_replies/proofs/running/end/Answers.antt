use Rattle.std.proofs.Common.{subst, sym}
use Rattle.std.proofs.lemmas.Result.{IfOk-weaker}
use Rattle.dap_replies.specs.declared.choosing.Reaction.TheVariants.{End}
use Rattle.dap_replies.specs.Choosing.{Carries}
use Rattle.dap_replies.specs.Going.{HasEnded}
use Rattle.dap_replies.proofs.Resumed.{ends_faulted}
use Rattle.dap_replies.proofs.running.end.Goals as goal

pub returns : goal.returns
returns c =
    let t = c.in-Faulted.target in
    let d = c.in-Faulted.debuggee in
    IfOk-weaker c.conclude.result (HasEnded t d.unit c.resume_body.result) (Carries c.args.phase (End c.args.kind))
    (λ given ended. subst (λ p. Carries p (End c.args.kind) given) (sym c.in-Faulted.is)
    (ends_faulted c.reading_laws.ensures t d c.resume_body.result c.args.kind given c.resume_body.ensures ended))
    c.conclude.ensures
