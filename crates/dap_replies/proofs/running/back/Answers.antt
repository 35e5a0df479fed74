use Rattle.std.proofs.Common.{[], subst, IfOk}
use Rattle.std.proofs.lemmas.Result.{IfOk-weaker}
use Rattle.dbg_plan.specs.declared.mode.Mode.{Mode}
use Rattle.dap_msg.specs.declared.outgoing.Body.TheVariants as body
use Rattle.dap_replies.specs.declared.choosing.Reaction.TheVariants.{Retreat}
use Rattle.dap_replies.specs.Choosing.{Carries}
use Rattle.dap_replies.specs.Going.{HasGone}
use Rattle.dap_replies.proofs.Situations.{StandsAt, Stop, Fault, phase_at}
use Rattle.dap_replies.proofs.Resumed.{returns_there}
use Rattle.dap_replies.proofs.running.back.Goals as goal
use Rattle.dap_replies.proofs.running.back.Goals.{After-go}

goes_back : (c : After-go) (s : StandsAt)
    → IfOk c.go.result (Carries (phase_at s c.args.target c.args.debuggee) (Retreat c.args.kind))
goes_back c s =
    let t = c.args.target in
    let d = c.args.debuggee in
    IfOk-weaker c.go.result (HasGone t d c.retreat_mode.result body.None c.new.result.items)
    (Carries (phase_at s t d) (Retreat c.args.kind))
    (λ given gone. returns_there c.reading_laws.ensures s t d c.args.kind given
    (subst (λ (m : Mode). HasGone t d m body.None [] given) c.retreat_mode.ensures
    (subst (λ es. HasGone t d c.retreat_mode.result body.None es given) c.new.ensures.items gone)))
    c.go.ensures

pub returns-clause-stop : goal.returns-clause-stop
returns-clause-stop c = goes_back c Stop

pub returns-clause-fault : goal.returns-clause-fault
returns-clause-fault c = goes_back c Fault
