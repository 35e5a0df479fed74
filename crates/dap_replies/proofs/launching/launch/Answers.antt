use Rattle.std.proofs.Common.{◌∙◌, ap, Err, None, Some, inl, refl, sym, subst, option_map}
use Rattle.std.proofs.lemmas.Result.{IfOk-weaker}
use Rattle.pl0_tree.specs.Faults.{IsTreeOf, IsFirstFault, FaultIs}
use Rattle.pl0_tree.specs.Plain.{plain_block}
use Rattle.dap_history.specs.Launching.{syntax}
use Rattle.dap_msg.specs.declared.outgoing.Refusal.TheVariants as refusal
use Rattle.dap_replies.specs.declared.phase.Phase.TheVariants as phase
use Rattle.dap_replies.specs.Answering.{without_events}
use Rattle.dap_replies.specs.Replied.{HasLaunched}
use Rattle.dap_replies.proofs.Launched.{launch_refused, launch_begun}
use Rattle.dap_replies.proofs.launching.launch.Goals as goal

pub returns-in_default-clause-launches : goal.returns-in_default-clause-launches
returns-in_default-clause-launches c = λ past waits.
    subst (λ file. HasLaunched c.args.launch (option_map (λ bytes. bytes.items) file) past c.refuse.result)
    (sym c.in_default.is)
    (launch_refused c.reading_laws.ensures c.args.settings c.args.launch None refusal.CannotRead refl c.refuse.result
    c.refuse.ensures.is past waits)

pub returns-in-Ok-clause-launches : goal.returns-in-Ok-clause-launches
returns-in-Ok-clause-launches c = IfOk-weaker c.begin.result _ _ (λ given begun past waits.
    subst (λ file. HasLaunched c.args.launch (option_map (λ bytes. bytes.items) file) past given) (sym c.in-Some.is)
    (launch_begun c.reading_laws.ensures c.args.settings c.args.launch c.in-Some.text.items c.in-Ok.tree
    (c.in-Ok.ensures.kept ∙ c.as_slice.ensures.value)
    (subst (λ text. IsTreeOf text (plain_block c.in-Ok.tree.program)) c.as_slice.ensures.value c.in-Ok.ensures.tree)
    given begun past waits)) c.begin.ensures

pub returns-in-Err-InText-clause-launches : goal.returns-in-Err-InText-clause-launches
returns-in-Err-InText-clause-launches c = λ past waits.
    subst (λ file. HasLaunched c.args.launch (option_map (λ bytes. bytes.items) file) past
    c.refuse-in-Err-InText.result) (sym c.in-Some.is)
    (launch_refused c.reading_laws.ensures c.args.settings c.args.launch (Some c.in-Some.text.items)
    (syntax c.in-Err-InText.kind c.in-Err-InText.place)
    (inl (record {
      kind = c.in-Err-InText.kind;
      place = c.in-Err-InText.place;
      first = subst (λ text. IsFirstFault text c.in-Err-InText.kind c.in-Err-InText.place) c.as_slice.ensures.value
          (subst (FaultIs (IsFirstFault c.as_slice.result.now)) c.in-Err-InText.field-0-is
          c.in-Err-InText.ensures.fault);
      reply_is = refl;
    })) c.refuse-in-Err-InText.result
    (c.refuse-in-Err-InText.ensures.is ∙ ap (λ why. without_events (Err why) None (phase.Ready c.args.settings))
    c.syntax.ensures) past waits)
