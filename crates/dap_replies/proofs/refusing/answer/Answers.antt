use Rattle.std.proofs.Common.{Ok, refl, sym, subst}
use Rattle.dap_history.specs.Reactions.{Answer}
use Rattle.dap_replies.specs.declared.choosing.Reaction.TheVariants as chosen
use Rattle.dap_replies.specs.Choosing.{Carries}
use Rattle.dap_replies.proofs.Unmoved.{unmoved, leaves_phase}
use Rattle.dap_replies.proofs.refusing.answer.Goals as goal

pub returns : goal.returns
returns c = subst (Carries c.args.phase (chosen.Answer c.args.body)) (sym c.without_events.ensures)
    (λ command choice past stands. unmoved c.args.phase (Ok c.args.body) command past stands
    (record { reaction = Answer c.args.body; reacts = choice.reacts past stands; reply_is = refl })
    (leaves_phase c.reading_laws.ensures c.args.phase command c.args.body choice.suits past stands))
