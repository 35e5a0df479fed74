use Rattle.std.proofs.Common.{Err, refl, sym, subst}
use Rattle.dap_history.specs.Reactions.{Refuse}
use Rattle.dap_history.specs.Replies.{refused}
use Rattle.dap_replies.specs.declared.choosing.Reaction.TheVariants as chosen
use Rattle.dap_replies.specs.Choosing.{Carries}
use Rattle.dap_replies.specs.Replied.{request_step}
use Rattle.dap_replies.proofs.Stays.{phase_stays, refusal_is_quiet}
use Rattle.dap_replies.proofs.Unmoved.{unmoved}
use Rattle.dap_replies.proofs.refusing.refuse.Goals as goal

pub returns-clause-carries : goal.returns-clause-carries
returns-clause-carries c = subst (Carries c.args.phase (chosen.Refuse c.args.why)) (sym c.without_events.ensures)
    (λ command choice past stands. unmoved c.args.phase (Err c.args.why) command past stands
    (record { reaction = Refuse c.args.why; reacts = choice.reacts past stands; reply_is = refl })
    (λ seq. phase_stays c.reading_laws.ensures c.args.phase past
    (request_step (record { seq = seq; body = command }) (refused c.args.why))
    (refusal_is_quiet (record { seq = seq; body = command }) c.args.why) stands))
