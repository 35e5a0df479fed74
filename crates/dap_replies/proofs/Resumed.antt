-- Runs that begin, go on and end at a request.
use Rattle.std.proofs.Common.{◌≡◌, ℕ, ◌+◌, List, ◌∷◌, [], ◌++◌, map, Option, None, Some, Ok, refl, sym, subst, ap, ◌∙◌, append-nil}
use Rattle.std.specs.Prelude.{unwrap_or, option_map, length}
use Rattle.std.specs.Option.{option_to_list}
use Rattle.pl0_unit.specs.declared.unit.Unit.{Unit as Compiled}
use Rattle.pl0_machine.specs.Machine.{Standing, program_of, configuration, frames, depth_of}
use Rattle.dap_msg.specs.declared.command.Command.{Command}
use Rattle.dap_msg.specs.declared.outgoing.Body.{Body}
use Rattle.dap_msg.specs.declared.outgoing.Body.TheVariants as body
use Rattle.dap_msg.specs.Commands.{name_of}
use Rattle.dap_msg.specs.declared.outgoing.Outgoing.TheVariants.{Event}
use Rattle.dap_msg.specs.declared.outgoing.EventBody.{EventBody}
use Rattle.dbg_plan.specs.Logs.{Log, logs}
use Rattle.dbg_plan.specs.Debugged.{Debugged, due_now, logs_now}
use Rattle.dbg_plan.specs.Due.{due, depth_at}
use Rattle.dbg_plan.specs.declared.mode.Mode.{Mode}
use Rattle.dbg_plan.specs.declared.mode.Mode.TheVariants as mode
use Rattle.dbg_plan.specs.declared.mode.Reason.{Reason}
use Rattle.dbg_runner.specs.Orders.{plain_order}
use Rattle.dbg_runner.specs.Plain.{PlainOrder, Go}
use Rattle.dbg_runner.specs.Reported.{heading}
use Rattle.dap_history.specs.declared.situation.Situation.TheVariants as situation_is
use Rattle.dap_history.specs.Last.{or_else, last_such}
use Rattle.dap_history.specs.History.{History, Effect}
use Rattle.dap_history.specs.Readings.{situation, runs, position, plan, settings_of, answer_mark, message_mark}
use Rattle.dap_history.specs.ReadingLaws.{ReadingsGoOn}
use Rattle.dap_history.specs.Replies.{nothing, only_events, only_orders, reply_with, stop_of, stopped_events, exited_events, log_events}
use Rattle.dap_history.specs.Running.{goes, resumes, first_mode, first_logs, enters, retreat_mode, mode_of, body_of}
use Rattle.dap_history.specs.Reactions.{Start, Resume, End, Retreat}
use Rattle.dap_history.proofs.Told.{numbers_in, numbers_of_logs, mark_of_logs, stop_marks}
use Rattle.dap_history.specs.Emission.{RepliesIn}
use Rattle.dap_replies.specs.declared.phase.Phase.{Phase}
use Rattle.dap_replies.specs.declared.phase.Phase.TheVariants as phase
use Rattle.dap_replies.specs.declared.phase.Target.{Target}
use Rattle.dap_replies.specs.Phases.{IsTarget, IsDebuggee, IsPhase}
use Rattle.dap_replies.specs.declared.effect.Reply.{Reply as Given}
use Rattle.dap_msg.specs.declared.requests.resume.ResumeKind.{ResumeKind}
use Rattle.dap_msg.specs.declared.requests.resume.RetreatKind.{RetreatKind}
use Rattle.dap_replies.specs.Replied.{request_step, HasReplied}
use Rattle.dap_replies.specs.Going.{HasGone, HasStopped, HasEnded, IsOver}
use Rattle.dap_replies.specs.declared.choosing.Reaction.TheVariants as chosen
use Rattle.dap_replies.specs.Choosing.{launched_as, Chooses, Carries}
use Rattle.dap_replies.proofs.Situations.{replies_by, StandsAt, Stop, Fault, phase_at}
use Rattle.dap_replies.proofs.Begun.{run_begins}
use Rattle.dap_replies.proofs.Stays.{told_stays, target_stays, debuggee_stays}

-- ---- the definitions

-- the order of the definitions is that of the next run of the debuggee
next_order : (t : Target) (d : Debugged) (m : Mode) (past : History) → IsTarget t d.unit past → IsDebuggee d past
    → resumes past (launched_as t d.unit) m ≡ Go (heading (t.runs + 1) d m) ∷ []
next_order t d m past is_t is_d =
    sym (ap (λ n. Go (heading (n + 1) d m) ∷ []) is_t.runs_are
    ∙ ap (λ n. Go (record (heading (runs past + 1) d m) { start = n }) ∷ []) is_d.position_is
    ∙ ap (λ bs. goes past (launched_as t d.unit) (position past)
    (record { breakpoints = bs; counted_from = d.counted_from }) m) is_d.breakpoints_are
    ∙ ap (λ n. goes past (launched_as t d.unit) (position past)
    (record { breakpoints = (plan past).breakpoints; counted_from = n }) m) is_d.counted_from_is)

-- what is due at position 0, by the definitions
pub configures : (t : Target) (d : Debugged) (m : Mode) (why : Option Reason) (command : Command) (past : History)
    → m ≡ first_mode (launched_as t d.unit) → why ≡ due_now d m
    → Chooses command (phase.Configuring t d) chosen.Start → IsPhase (phase.Configuring t d) past
    → RepliesIn (situation past) past command (reply_with body.None (enters past (launched_as t d.unit) why))
configures t d m why command past m_is why_is choice is =
    let is_d = is.keeps.1 in
    let l = launched_as t d.unit in
    replies_by (phase.Configuring t d) past is command (Start l) (choice.reacts past is)
    (reply_with body.None (enters past l why))
    (ap (λ r. reply_with body.None (enters past l r))
    (why_is
    ∙ ap (λ m. due l.program d.breakpoints d.counted_from m d.position) m_is
    ∙ ap (λ bs. due l.program bs d.counted_from (first_mode l) d.position) is_d.breakpoints_are
    ∙ ap (λ n. due l.program (plan past).breakpoints n (first_mode l) d.position) is_d.counted_from_is
    ∙ ap (λ n. due l.program (plan past).breakpoints (plan past).counted_from (first_mode l) n) is.keeps.2))

-- ---- what follows an answer

-- after these events the debuggee goes on
abbrev pub goes_after : List EventBody → List PlainOrder → Effect
goes_after events orders = record nothing { events = events; orders = orders }

pub goes_on : ReadingsGoOn → (command : Command) (t : Target) (d : Debugged) (m : Mode) (body : Body)
    (events : List EventBody) (past : History) (given : Given) → settings_of command ≡ None
    → numbers_in events ≡ []
    → IsTarget t d.unit past → IsDebuggee d past → HasGone t d m body events given
    → RepliesIn (situation past) past command
    (reply_with body (goes_after events (resumes past (launched_as t d.unit) m)))
    → HasReplied command past given
goes_on laws command t d m body events past given sets_none tells_none is_t is_d gone replies =
    let next = next_order t d m past is_t is_d in record {
      reply = reply_with body (goes_after events (resumes past (launched_as t d.unit) m));
      replies = replies;
      gives = record {
        result_is = gone.result_is;
        effect_is = record { events_are = gone.events_are; orders_are = gone.orders_are ∙ sym next };
      };
      phase_is = λ seq.
          let step =
          request_step (record { seq = seq; body = command })
          (reply_with body (goes_after events (resumes past (launched_as t d.unit) m))) in
          subst (λ p. IsPhase p (past ++ step ∷ [])) (sym gone.phase_is)
          (run_begins laws t d m past step is_t (debuggee_stays laws past step refl refl d is_d)
          (record { orders_are = next; launches_nothing = refl; sets_nothing = sets_none })
          t.told (is_t.told_is ∙ sym (told_stays laws past step tells_none)));
    }

-- after these events the program stops where it stands
pub stops_there : ReadingsGoOn → (command : Command) (t : Target) (d : Debugged) (why : Reason)
    (events : List EventBody) (past : History) (given : Given) → settings_of command ≡ None
    → numbers_in (events ++ stopped_events (stop_of why)) ≡ [] → last_such message_mark
    (map Event (events ++ stopped_events (stop_of why))) ≡ Some situation_is.Stopped
    → IsTarget t d.unit past → IsDebuggee d past → HasStopped t d why events given
    → RepliesIn (situation past) past command
    (reply_with body.None (only_events (events ++ stopped_events (stop_of why))))
    → HasReplied command past given
stops_there laws command t d why events past given sets_none tells_none mark is_t is_d stopped replies = record {
  reply = reply_with body.None (only_events (events ++ stopped_events (stop_of why)));
  replies = replies;
  gives = record {
    result_is = stopped.result_is;
    effect_is =
        record {
          events_are = stopped.events_are;
          orders_are = ap (λ o. option_to_list (option_map plain_order o))
              stopped.order_is;
        };
  };
  phase_is = λ seq.
      let step =
      request_step (record { seq = seq; body = command })
      (reply_with body.None (only_events (events ++ stopped_events (stop_of why)))) in
      subst (λ p. IsPhase p (past ++ step ∷ [])) (sym stopped.phase_is) (record {
        situation_is =
            laws.situation_is past step ∙ ap (λ mark. unwrap_or
            (or_else mark (answer_mark (name_of command) (Ok body.None))) (situation past)) mark;
        keeps = (
          target_stays laws past step refl refl sets_none tells_none t d.unit is_t,
          debuggee_stays laws past step
              refl refl d is_d,
        );
      });
}

over : (t : Target) (u : Compiled) (past : History) (p : Phase) → situation past ≡ situation_is.Ended
    → IsTarget t u past → IsOver t u p → IsPhase p past
over t u past (phase.Ended t' u') ended is_t is = record {
  situation_is = ended;
  keeps = subst (λ t. IsTarget t u'.value past) (sym is.0) (subst (λ u. IsTarget t u past) (sym is.1) is_t);
}
over t u past _ ended is_t is = absurd is

-- the program is over
pub ends_there : ReadingsGoOn → (command : Command) (t : Target) (u : Compiled) (body : Body) (past : History)
    (given : Given) → settings_of command ≡ None → IsTarget t u past → HasEnded t u body given
    → RepliesIn (situation past) past command (reply_with body (only_events (exited_events 1)))
    → HasReplied command past given
ends_there laws command t u body past given sets_none is_t ended replies = record {
  reply = reply_with body (only_events (exited_events 1));
  replies = replies;
  gives = record {
    result_is = ended.result_is;
    effect_is =
        record {
          events_are = ended.events_are;
          orders_are = ap (λ o. option_to_list (option_map plain_order o))
              ended.order_is;
        };
  };
  phase_is = λ seq.
      let step = request_step (record { seq = seq; body = command })
      (reply_with body (only_events (exited_events 1))) in
      over t u (past ++ step ∷ []) given.effect.phase (laws.situation_is past step)
      (target_stays laws past step refl refl sets_none refl t u is_t) ended.phase_is;
}

-- ---- `configurationDone`

-- position 0 was considered
abbrev considered : Debugged → Debugged
considered d = record d { next = d.next + 1 }

still_there : (d : Debugged) (past : History) → IsDebuggee d past → IsDebuggee (considered d) past
still_there d past is =
    record { position_is = is.position_is; breakpoints_are = is.breakpoints_are; counted_from_is = is.counted_from_is }

-- what it logs, by the definitions
logs_as : (t : Target) (d : Debugged) (past : History) → IsPhase (phase.Configuring t d) past
    → log_events d.breakpoints (logs_now d) ≡ first_logs past (launched_as t d.unit)
logs_as t d past is =
    let is_d = is.keeps.1 in
    let main = program_of d.unit in
    ap (λ n. log_events d.breakpoints (logs main d.breakpoints d.counted_from n)) is.keeps.2
    ∙ ap (λ n. log_events d.breakpoints (logs main d.breakpoints n 0)) is_d.counted_from_is
    ∙ ap (λ bs. log_events bs (logs main bs (plan past).counted_from 0)) is_d.breakpoints_are

-- the debuggee's logs, told of where it was considered
pub told_there : (d e : Debugged) (ls : List Log) (events : List EventBody) → e ≡ considered d → ls ≡ logs_now d
    → events ≡ log_events e.breakpoints ls → events ≡ log_events d.breakpoints (logs_now d)
told_there d e ls events e_is ls_are is =
    is ∙ ap (λ (e : Debugged). log_events e.breakpoints ls) e_is ∙ ap (log_events d.breakpoints) ls_are

-- position 0 is due
pub enters_due : ReadingsGoOn → (t : Target) (d e : Debugged) (m : Mode) (why : Reason) (events : List EventBody)
    (past : History) (given : Given) → e ≡ considered d → m ≡ first_mode (launched_as t d.unit) → Some why ≡ due_now d m
    → events ≡ log_events d.breakpoints (logs_now d) → HasStopped t e why events given
    → (command : Command) → Chooses command (phase.Configuring t d) chosen.Start
    → IsPhase (phase.Configuring t d) past → HasReplied command past given
enters_due laws t d e m why events past given e_is m_is why_is events_are stopped command choice is =
    let bs = (plan past).breakpoints in
    let ls = logs (program_of d.unit) bs (plan past).counted_from 0 in
    stops_there laws command t (considered d) why (first_logs past (launched_as t d.unit)) past given
    choice.suits
    (numbers_of_logs bs ls (stopped_events (stop_of why)))
    (mark_of_logs bs ls (stopped_events (stop_of why)) ∙ stop_marks why)
    is.keeps.0 (still_there d past is.keeps.1)
    (subst (λ es. HasStopped t (considered d) why es given) (events_are ∙ logs_as t d past is)
    (subst (λ e. HasStopped t e why events given) e_is stopped))
    (configures t d m (Some why) command past m_is why_is choice is)

-- the first run begins there
pub enters_running : ReadingsGoOn → (t : Target) (d e : Debugged) (m : Mode) (events : List EventBody) (past : History)
    (given : Given) → e ≡ considered d → m ≡ first_mode (launched_as t d.unit) → None ≡ due_now d m
    → events ≡ log_events d.breakpoints (logs_now d) → HasGone t e mode.Continue body.None events given
    → (command : Command) → Chooses command (phase.Configuring t d) chosen.Start
    → IsPhase (phase.Configuring t d) past → HasReplied command past given
enters_running laws t d e m events past given e_is m_is none_due events_are gone command choice is =
    let bs = (plan past).breakpoints in
    let ls = logs (program_of d.unit) bs (plan past).counted_from 0 in
    goes_on laws command t (considered d) mode.Continue body.None
    (first_logs past (launched_as t d.unit)) past given choice.suits
    (ap numbers_in (sym (append-nil (log_events bs ls))) ∙ numbers_of_logs bs ls [])
    is.keeps.0 (still_there d past is.keeps.1)
    (subst (λ es. HasGone t (considered d) mode.Continue body.None es given) (events_are ∙ logs_as t d past is)
    (subst (λ e. HasGone t e mode.Continue body.None events given) e_is gone))
    (configures t d m None command past m_is none_due choice is)

-- ---- `continue`, `next`, `stepIn` and `stepOut`

-- the depth where a machine stands, by the definitions
pub depth_there : (m : Standing) (depth : ℕ) → configuration m ≡ Some (frames m) → depth ≡ depth_of m
    → depth ≡ depth_at (program_of m.unit) m.position
depth_there m depth there depth_is = depth_is ∙ ap (λ c. unwrap_or (option_map length c) 0) (sym there)

-- the program goes on from a stop
pub resumes_there : ReadingsGoOn → (t : Target) (d : Debugged) (m : Mode) (body : Body) (kind : ResumeKind)
    (given : Given) → body ≡ body_of kind
    → m ≡ mode_of kind (depth_at (program_of d.unit) d.position) → HasGone t d m body [] given
    → Carries (phase.Stopped t d) (chosen.Resume kind) given
resumes_there laws t d m body kind given body_is m_is gone command choice past is =
    let l = launched_as t d.unit in
    goes_on laws command t d m body [] past given choice.suits refl is.keeps.0 is.keeps.1 gone
    (replies_by (phase.Stopped t d) past is command (Resume l kind) (choice.reacts past is)
    (reply_with body (only_orders (resumes past l m)))
    (ap (λ b. reply_with b (only_orders (resumes past l m))) body_is
    ∙ ap (λ m. reply_with (body_of kind) (only_orders (resumes past l m)))
    (m_is ∙ ap (λ n. mode_of kind (depth_at l.program n)) is.keeps.1.position_is)))

-- a program that faulted is over
pub ends_faulted : ReadingsGoOn → (t : Target) (d : Debugged) (body : Body) (kind : ResumeKind) (given : Given)
    → body ≡ body_of kind → HasEnded t d.unit body given → Carries (phase.Faulted t d) (chosen.End kind) given
ends_faulted laws t d body kind given body_is ended command choice past is =
    ends_there laws command t d.unit body past given choice.suits is.keeps.0 ended
    (replies_by (phase.Faulted t d) past is command (End kind) (choice.reacts past is)
    (reply_with body (only_events (exited_events 1))) (ap (λ b. reply_with b (only_events (exited_events 1))) body_is))

-- ---- `stepBack` and `reverseContinue`

-- the program goes back from a stop or from a fault
pub returns_there : ReadingsGoOn → (s : StandsAt) (t : Target) (d : Debugged) (kind : RetreatKind) (given : Given)
    → HasGone t d (retreat_mode kind) body.None [] given → Carries (phase_at s t d) (chosen.Retreat kind) given
returns_there laws Stop t d kind given gone command choice past is =
    let l = launched_as t d.unit in
    goes_on laws command t d (retreat_mode kind) body.None [] past given choice.suits refl is.keeps.0 is.keeps.1 gone
    (replies_by (phase.Stopped t d) past is command (Retreat l kind) (choice.reacts past is)
    (reply_with body.None (goes_after [] (resumes past l (retreat_mode kind)))) refl)
returns_there laws Fault t d kind given gone command choice past is =
    let l = launched_as t d.unit in
    goes_on laws command t d (retreat_mode kind) body.None [] past given choice.suits refl is.keeps.0 is.keeps.1 gone
    (replies_by (phase.Faulted t d) past is command (Retreat l kind) (choice.reacts past is)
    (reply_with body.None (goes_after [] (resumes past l (retreat_mode kind)))) refl)
