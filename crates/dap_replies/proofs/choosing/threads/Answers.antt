use Rattle.std.proofs.Common.{refl, sym, subst}
use Rattle.dap_msg.specs.declared.command.Command.TheVariants as command
use Rattle.dap_replies.specs.Choosing.{Chooses}
use Rattle.dap_replies.proofs.Rows.{threads_begun}
use Rattle.dap_replies.proofs.choosing.threads.Goals as goal

pub returns-in-Fresh-clause-chooses : goal.returns-in-Fresh-clause-chooses
returns-in-Fresh-clause-chooses c = subst (λ p. Chooses command.Threads p _) (sym c.in-Fresh.is)
    (record { fits = refl; reacts = λ past is. refl; suits = tt })

pub returns-in_default-clause-chooses : goal.returns-in_default-clause-chooses
returns-in_default-clause-chooses c = threads_begun c.args.phase.now c.in_default.not-Fresh
