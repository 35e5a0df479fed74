use Rattle.std.proofs.Common.{refl, sym, subst}
use Rattle.dap_msg.specs.declared.command.Command.TheVariants as command
use Rattle.dap_replies.specs.declared.choosing.Reaction.TheVariants.{Begin}
use Rattle.dap_replies.specs.Choosing.{Chooses}
use Rattle.dap_replies.proofs.Rows.{initialized_once}
use Rattle.dap_replies.proofs.choosing.initialize.Goals as goal

pub returns-in-Fresh-clause-chooses : goal.returns-in-Fresh-clause-chooses
returns-in-Fresh-clause-chooses c =
    subst (λ p. Chooses (command.Initialize c.args.asked) p (Begin c.args.asked)) (sym c.in-Fresh.is)
    (record { fits = refl; reacts = λ past is. refl; suits = refl })

pub returns-in_default-clause-chooses : goal.returns-in_default-clause-chooses
returns-in_default-clause-chooses c = initialized_once c.args.phase.now c.in_default.not-Fresh c.args.asked
