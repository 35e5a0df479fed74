use Rattle.std.proofs.Common.{refl, sym, subst}
use Rattle.dap_msg.specs.declared.command.Command.TheVariants as command
use Rattle.dap_replies.specs.Choosing.{Chooses}
use Rattle.dap_replies.proofs.Rows.{nothing_runs, retreats_at_stop, retreats_at_fault}
use Rattle.dap_replies.proofs.choosing.retreat.Goals as goal

pub returns-in-Running-clause-chooses : goal.returns-in-Running-clause-chooses
returns-in-Running-clause-chooses c =
    subst (λ p. Chooses (command.Retreat c.args.kind c.args.asked) p _) (sym c.in-Running.is)
    (record { fits = refl; reacts = λ past is. refl; suits = tt })

pub returns-in-Stopped-clause-chooses : goal.returns-in-Stopped-clause-chooses
returns-in-Stopped-clause-chooses c =
    let by = c.for_thread in
    subst (λ p. Chooses (command.Retreat c.args.kind c.args.asked) p by.result) (sym c.in-Stopped.is)
    (retreats_at_stop c.args.asked _ _ by.result by.ensures.other c.args.kind by.ensures.known)

pub returns-in-Faulted-clause-chooses : goal.returns-in-Faulted-clause-chooses
returns-in-Faulted-clause-chooses c =
    let by = c.for_thread-in-Faulted in
    subst (λ p. Chooses (command.Retreat c.args.kind c.args.asked) p by.result) (sym c.in-Faulted.is)
    (retreats_at_fault c.args.asked _ _ by.result by.ensures.other c.args.kind by.ensures.known)

pub returns-in_default-clause-chooses : goal.returns-in_default-clause-chooses
returns-in_default-clause-chooses c =
    (nothing_runs c.args.phase.now c.args.asked c.in_default.not-Stopped c.in_default.not-Faulted
    c.in_default.not-Running).1 c.args.kind
