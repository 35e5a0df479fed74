-- What a granted `pause` is replied, and the phase afterwards.
use Rattle.std.proofs.Common.{ℕ, true, false, [], ◌∷◌, ◌++◌, None, Some, refl, sym, ◌∙◌, ap, subst}
use Rattle.std.specs.Prelude.{◌||◌, unwrap_or, option_map}
use Rattle.dap_msg.specs.declared.command.Command.TheVariants as command
use Rattle.dap_msg.specs.declared.requests.resume.ThreadArguments.{ThreadArguments}
use Rattle.dap_history.specs.Last.{or_else}
use Rattle.dap_history.specs.Plans.{Plan}
use Rattle.dap_history.specs.History.{History}
use Rattle.dap_history.specs.ReadingLaws.{ReadingsGoOn}
use Rattle.dap_history.specs.Readings.{go, runs, is_back, is_held, waiting_pause}
use Rattle.dap_history.specs.Reactions.{Interrupt, reply_of}
use Rattle.dap_replies.specs.declared.phase.Phase.TheVariants as phase
use Rattle.dap_replies.specs.declared.phase.Target.{Target}
use Rattle.dap_replies.specs.Runs.{OrderedRun, heading_in, ordered_to_hold}
use Rattle.dap_replies.specs.Phases.{IsRun, IsPhase}
use Rattle.dap_replies.specs.declared.effect.Reply.{Reply as Given}
use Rattle.dap_replies.specs.Replied.{request_step}
use Rattle.dap_replies.specs.declared.choosing.Reaction.TheVariants as chosen
use Rattle.dap_replies.specs.Choosing.{Carries}
use Rattle.dap_replies.specs.Going.{WaitsToPause}
use Rattle.dap_replies.proofs.Situations.{replies_by}
use Rattle.dap_replies.proofs.SetBreakpoints.{once, once_as, once_no_mark, once_no_go, held_after}
use Rattle.dap_replies.proofs.Stays.{situation_stays, target_stays, position_stays, plan_stays, last_run_stays, runs_stay, waiting_plan_stays, no_last}

-- ---- during a run

run_pauses : ReadingsGoOn → (past : History) (run : OrderedRun) (seq : ℕ) (asked : ThreadArguments) → IsRun run past
    → IsRun (ordered_to_hold (record run { waiting_pause = true }))
    (past ++ request_step (record { seq = seq; body = command.Pause asked }) (reply_of past Interrupt) ∷ [])
run_pauses laws past run seq asked is =
    let step = request_step (record { seq = seq; body = command.Pause asked }) (reply_of past Interrupt) in
    let no_go = once_no_go (is_held past || is_back past) (runs past) in record {
      first = is.first;
      ordered = last_run_stays laws past step no_go ∙ is.ordered;
      goes_on =
          ap (λ n. record is.first { start = n }) (position_stays laws past step refl) ∙ is.goes_on
          ∙ ap (λ n. heading_in n run) (sym (runs_stay laws past step no_go));
      breakpoints_are = is.breakpoints_are ∙ ap (λ (p : Plan). p.breakpoints) (sym (plan_stays laws past step refl));
      counted_from_is = is.counted_from_is ∙ ap (λ (p : Plan). p.counted_from) (sym (plan_stays laws past step refl));
      waiting_plan_is = is.waiting_plan_is ∙ sym (waiting_plan_stays laws past step no_go refl);
      waiting_pause_is =
          sym (laws.waiting_pause_is past step ∙ ap (λ o. unwrap_or
          (or_else (option_map (λ run. false) o) (Some true)) (waiting_pause past))
          (no_last go step.effect.orders no_go));
      held_is = held_after laws past step run is refl;
    }

pub pauses_in_run : ReadingsGoOn → (t : Target) (run : OrderedRun) (given : Given) → WaitsToPause t run given
    → Carries (phase.Running t run) chosen.Interrupt given
pauses_in_run laws t run given waits (command.Pause asked) choice past is = record {
  reply = reply_of past Interrupt;
  replies =
      replies_by (phase.Running t run) past is (command.Pause asked) Interrupt (choice.reacts past is)
      (reply_of past Interrupt) refl;
  gives = record {
    result_is = waits.result_is;
    effect_is = record {
      events_are = waits.events_are;
      orders_are =
          waits.orders_are ∙ ap (λ b. once b t.runs) (once_as past run is.keeps.1)
          ∙ ap (λ n. once (is_held past || is_back past) n) is.keeps.0.runs_are;
    };
  };
  phase_is = λ seq.
      let step = request_step (record { seq = seq; body = command.Pause asked }) (reply_of past Interrupt) in
      subst (λ p. IsPhase p (past ++ step ∷ [])) (sym waits.phase_is) (record {
        situation_is =
            situation_stays laws past step
            (ap (λ o. or_else o None) (once_no_mark (is_held past || is_back past) (runs past))) ∙ is.situation_is;
        keeps = (
          target_stays laws past step refl (once_no_go (is_held past || is_back past) (runs past)) refl refl t
              run.unit is.keeps.0,
          run_pauses laws past run seq asked is.keeps.1,
        );
      });
}
pauses_in_run laws t run given waits _ choice past is = absurd choice.suits
