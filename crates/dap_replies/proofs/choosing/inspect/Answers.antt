use Rattle.std.proofs.Common.{refl, rules, sym, subst}
use Rattle.dap_msg.specs.declared.command.Command.TheVariants.{Inspect}
use Rattle.dap_replies.specs.Choosing.{Chooses}
use Rattle.dap_replies.proofs.Asked.{answers_there, refuses_there}
use Rattle.dap_replies.proofs.choosing.inspect.Goals as goal

pub returns-in-Ok-clause-chooses : goal.returns-in-Ok-clause-chooses
returns-in-Ok-clause-chooses c =
    let d = c.debuggee-debuggee in
    answers_there c.args.phase.now c.in-Stopped.target c.in-Stopped.debuggee d.result.now c.in-Stopped.is
    d.ensures.same d.ensures.considered c.args.question.now c.in-Ok.shown
    (rw c.in-Ok.is at c.in_ok-shown-in-Stopped.ensures.replies)

pub returns-in-Err-clause-chooses : goal.returns-in-Err-clause-chooses
returns-in-Err-clause-chooses c =
    let d = c.debuggee-debuggee in
    refuses_there c.args.phase.now c.in-Stopped.target c.in-Stopped.debuggee d.result.now c.in-Stopped.is
    d.ensures.same d.ensures.considered c.args.question.now c.in-Err.why
    (rw c.in-Err.is at c.in_ok-shown-in-Stopped.ensures.replies)

pub returns-in-Running-clause-chooses : goal.returns-in-Running-clause-chooses
returns-in-Running-clause-chooses c =
    subst (λ p. Chooses (Inspect c.args.question.now) p _) (sym c.in-Running.is)
    (record { fits = refl; reacts = λ past is. refl; suits = tt })

pub returns-in-Fresh-clause-chooses : goal.returns-in-Fresh-clause-chooses
returns-in-Fresh-clause-chooses c = record { fits = refl; reacts = λ past is. search rules; suits = tt }
