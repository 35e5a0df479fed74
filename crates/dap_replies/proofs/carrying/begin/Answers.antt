use Rattle.std.proofs.Common.{refl, sym, subst}
use Rattle.dap_msg.specs.declared.command.Command.TheVariants as command
use Rattle.dap_msg.specs.declared.outgoing.Body.TheVariants as body
use Rattle.dap_replies.specs.declared.phase.Phase.TheVariants as phase
use Rattle.dap_history.specs.Replies.{answered}
use Rattle.dap_history.specs.Reactions.{Answer}
use Rattle.dap_replies.specs.Replied.{Replies, request_step}
use Rattle.dap_replies.proofs.Situations.{replies_by}
use Rattle.dap_replies.proofs.Stays.{unlaunched_stays}
use Rattle.dap_replies.proofs.carrying.begin.Goals as goal

pub returns : goal.returns
returns c = λ asked choice.
    subst (λ command. Replies command phase.Fresh c.without_events.result) (sym choice.suits)
    (subst (Replies (command.Initialize c.args.asked) phase.Fresh) (sym c.without_events.ensures) (λ past is. record {
      reply = answered body.Capabilities;
      replies =
          replies_by phase.Fresh past is (command.Initialize c.args.asked) (Answer body.Capabilities) refl
          (answered body.Capabilities) refl;
      gives = record { result_is = refl; effect_is = record { events_are = refl; orders_are = refl } };
      phase_is = λ seq.
          let step =
          request_step (record { seq = seq; body = command.Initialize c.args.asked }) (answered body.Capabilities) in
          record {
            situation_is = c.reading_laws.ensures.situation_is past step;
            keeps = (
              sym (c.reading_laws.ensures.settings_are past step),
              unlaunched_stays c.reading_laws.ensures past step refl refl refl refl refl is.keeps,
            );
          };
    }))
