use Rattle.std.proofs.Common.{sym, subst}
use Rattle.dap_replies.specs.declared.choosing.Reaction.TheVariants.{Interrupt}
use Rattle.dap_replies.specs.Choosing.{Carries}
use Rattle.dap_replies.proofs.Paused.{pauses_in_run}
use Rattle.dap_replies.proofs.pausing.interrupt.Goals as goal

pub returns : goal.returns
returns c = subst (λ p. Carries p Interrupt c.wait.result) (sym c.in-Running.is)
    (pauses_in_run c.reading_laws.ensures c.in-Running.target c.in-Running.run' c.wait.result c.wait.ensures)
