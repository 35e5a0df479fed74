use Rattle.std.proofs.Common.{sym, subst}
use Rattle.dap_msg.specs.declared.command.Command.TheVariants as command
use Rattle.dap_replies.specs.Choosing.{Chooses}
use Rattle.dap_replies.proofs.Rows.{not_configuring, starts}
use Rattle.dap_replies.proofs.choosing.configuration_done.Goals as goal

pub returns-in-Configuring-clause-chooses : goal.returns-in-Configuring-clause-chooses
returns-in-Configuring-clause-chooses c = subst (λ p. Chooses command.ConfigurationDone p _) (sym c.in-Configuring.is)
    (starts _ _)

pub returns-in_default-clause-chooses : goal.returns-in_default-clause-chooses
returns-in_default-clause-chooses c = not_configuring c.args.phase.now c.in_default.not-Configuring
