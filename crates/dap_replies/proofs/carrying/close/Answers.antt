use Rattle.std.proofs.Common.{refl, sym, subst}
use Rattle.dap_msg.specs.declared.command.Command.TheVariants as command
use Rattle.dap_history.specs.Reactions.{Close, reply_of}
use Rattle.dap_replies.specs.Replied.{Replies, request_step}
use Rattle.dap_replies.proofs.Situations.{replies_by}
use Rattle.dap_replies.proofs.Stays.{still_stays}
use Rattle.dap_replies.proofs.carrying.close.Goals as goal

pub returns : goal.returns
returns c = λ asked choice.
    subst (λ command. Replies command c.args.phase c.without_events.result) (sym choice.suits)
    (subst (Replies command.Disconnect c.args.phase) (sym c.without_events.ensures) (λ past is. record {
      reply = reply_of past Close;
      replies = replies_by c.args.phase past is command.Disconnect Close refl (reply_of past Close) refl;
      gives = record { result_is = refl; effect_is = record { events_are = refl; orders_are = refl } };
      phase_is = λ seq.
          still_stays c.reading_laws.ensures c.args.phase past
          (request_step (record { seq = seq; body = command.Disconnect }) (reply_of past Close)) (record {
            launches_none = refl;
            no_go = refl;
            no_hold = refl;
            puts_none = refl;
            waits_none = refl;
            no_mark = refl;
            sets_none = refl;
            no_pause = refl;
            no_end = refl;
            tells_none = refl;
          }) is;
    }))
