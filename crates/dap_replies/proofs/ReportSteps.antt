-- Where a report leads: the phase afterwards represents the history with the report's step.
use Rattle.std.proofs.Common.{◌≡◌, ℕ, ◌+◌, ◌-◌, ℤ, List, [], ◌∷◌, ◌++◌, map, drop, length, Bool, true, false, Option, None, Some, refl, sym, subst, ◌∙◌, ap}
use Rattle.std.specs.Prelude.{unwrap_or, if◌then◌else◌}
use Rattle.std.specs.List.{filter_map}
use Rattle.std.proofs.lemmas.List.{append-nil}
use Rattle.pl0_unit.specs.declared.unit.Unit.{Unit as Compiled}
use Rattle.pl0_machine.specs.Machine.{program_of}
use Rattle.dap_msg.specs.declared.outgoing.Outgoing.TheVariants.{Event}
use Rattle.dap_msg.specs.declared.outgoing.EventBody.{EventBody}
use Rattle.dap_msg.specs.declared.outgoing.EventBody.TheVariants as event
use Rattle.dap_msg.specs.declared.outgoing.StopReason.{StopReason}
use Rattle.dap_msg.specs.declared.outgoing.StopReason.TheVariants as stop
use Rattle.dbg_plan.specs.Breakpoints.{Breakpoint}
use Rattle.dbg_plan.specs.Debugged.{Debugged}
use Rattle.dbg_plan.specs.Trail.{Trail}
use Rattle.dbg_plan.specs.declared.mode.Mode.{Mode}
use Rattle.dbg_runner.specs.Plain.{Heading, PlainReport, Go, goes_back, back_if}
use Rattle.dbg_runner.specs.Reported.{Reported, text_of, plain_report, heading, counts_from, stopped, trail_in}
use Rattle.dap_history.specs.Last.{last_such}
use Rattle.dap_history.specs.Plans.{Plan}
use Rattle.dap_history.specs.History.{Item, Accepted, Step, History, messages}
use Rattle.dap_history.specs.ReadingLaws.{ReadingsGoOn}
use Rattle.dap_history.specs.Readings.{stop_mark, message_mark, situation, settings_by, go, end_of, position, numbers, numbers_told, plan, runs}
use Rattle.dap_history.specs.Replies.{only_events, stopped_events, exited_events, log_events}
use Rattle.dap_history.specs.Reports.{outputs, from_next, put_in_at, put_in_by, stopped_effect, continued_effect}
use Rattle.dap_history.specs.declared.situation.Situation.TheVariants.{Ended}
use Rattle.dap_history.proofs.Told.{numbers_in}
use Rattle.dap_history.proofs.Outputs.{told_numbers, outputs_numbers, outputs_mark}
use Rattle.dap_replies.specs.declared.phase.Phase.TheVariants as phase
use Rattle.dap_replies.specs.declared.phase.Target.{Target}
use Rattle.dap_replies.specs.Runs.{OrderedRun, begun_run, heading_in, with_waiting}
use Rattle.dap_replies.specs.Phases.{IsTarget, IsDebuggee, IsRun, IsPhase}
use Rattle.dap_replies.proofs.Units.{one_program}
use Rattle.dap_replies.specs.Replied.{report_step}
use Rattle.dap_replies.specs.Reporting.{fresh, outputs_after, with_told, ContinuesRun, standing}
use Rattle.dap_replies.proofs.Stays.{situation_stays, settings_stay, launched_stays, last_run_stays, runs_stay, plan_stays, waiting_plan_stays, waiting_pause_stays, held_stays}
use Rattle.dap_replies.proofs.Begun.{with_next_run, run_begins}

-- ---- what a report tells

-- the numbers that are reported are those that the target says
pub fresh_as : (t : Target) (u : Compiled) (r : Reported) (past : History) → IsTarget t u past
    → fresh t.told r ≡ told_numbers past (plain_report r)
fresh_as t u r past is = ap (λ n. drop (n - r.numbers_before) r.numbers) is.told_is

pub outputs_as : (t : Target) (u : Compiled) (r : Reported) (past : History) → IsTarget t u past
    → outputs_after t.told r ≡ outputs past (plain_report r)
outputs_as t u r past is = ap (λ ns. map event.Output ns ++ log_events r.plan r.logs) (fresh_as t u r past is)

-- the step of a report, with what follows what it tells
abbrev TellsIn : PlainReport → History → Step → List EventBody → Type 0
TellsIn r past step more = numbers (messages step) ≡ numbers_in (outputs past r ++ more)

told_after : ReadingsGoOn → (t : Target) (u : Compiled) (r : Reported) (past : History) (step : Step)
    (more : List EventBody) → IsTarget t u past → TellsIn (plain_report r) past step more → numbers_in more ≡ []
    → (with_told t r).told ≡ numbers_told (past ++ step ∷ [])
told_after laws t u r past step more is tells none =
    ap (λ n. n + length (fresh t.told r)) is.told_is
    ∙ ap (λ (ns : List ℤ). numbers_told past + length ns)
    (fresh_as t u r past is
    ∙ sym (tells ∙ outputs_numbers past (plain_report r) more ∙ ap (λ ns. told_numbers past (plain_report r) ++ ns) none
    ∙ append-nil (told_numbers past (plain_report r))))
    ∙ sym (laws.numbers_told_is past step)

-- what a target keeps where a report was told
target_tells : ReadingsGoOn → (t : Target) (u : Compiled) (r : Reported) (past : History) (step : Step)
    (more : List EventBody)
    → step.effect.launched ≡ None → filter_map go step.effect.orders ≡ [] → settings_by step.item step.answer ≡ None
    → IsTarget t u past → TellsIn (plain_report r) past step more → numbers_in more ≡ []
    → IsTarget (with_told t r) u (past ++ step ∷ [])
target_tells laws t u r past step more launches_none no_go sets_none is tells none = record {
  launched_is = launched_stays laws past step launches_none ∙ is.launched_is;
  settings_are = is.settings_are ∙ sym (settings_stay laws past step sets_none);
  runs_are = is.runs_are ∙ sym (runs_stay laws past step no_go);
  told_is = told_after laws t u r past step more is tells none;
}

no_mark : (past : History) (r : PlainReport) → last_such message_mark (map Event (outputs past r)) ≡ None
no_mark past r =
    ap (λ es. last_such message_mark (map Event es)) (sym (append-nil (outputs past r))) ∙ outputs_mark past r []

-- ---- the run goes on

pub report_goes_on : ReadingsGoOn → (t : Target) (run : OrderedRun) (reported : Reported) (past : History)
    → IsPhase (phase.Running t run) past
    → IsPhase (phase.Running (with_told t reported) (record run { position = reported.end }))
    (past ++ report_step (plain_report reported) (only_events (outputs past (plain_report reported))) ∷ [])
report_goes_on laws t run reported past is = record {
  situation_is = situation_stays laws past step (no_mark past r) ∙ is.situation_is;
  keeps = (
    target_tells laws t run.unit reported past step [] refl refl refl is.keeps.0
        (ap numbers_in (sym (append-nil (outputs past r)))) refl,
    record {
      first = was.first;
      ordered = last_run_stays laws past step refl ∙ was.ordered;
      goes_on =
          ap (λ n. record was.first { start = n }) (laws.position_is past step)
          ∙ ap (λ (h : Heading). record h { start = r.end }) was.goes_on
          ∙ ap (λ n. heading_in n (record run { position = r.end })) (sym (runs_stay laws past step refl));
      breakpoints_are = was.breakpoints_are ∙ ap (λ (p : Plan). p.breakpoints) (sym (plan_stays laws past step refl));
      counted_from_is = was.counted_from_is ∙ ap (λ (p : Plan). p.counted_from) (sym (plan_stays laws past step refl));
      waiting_plan_is = was.waiting_plan_is ∙ sym (waiting_plan_stays laws past step refl refl);
      waiting_pause_is = was.waiting_pause_is ∙ sym (waiting_pause_stays laws past step refl refl);
      held_is = was.held_is ∙ sym (held_stays laws past step refl);
    },
  );
}
  where
    r : PlainReport
    r = plain_report reported

    step : Step
    step = report_step r (only_events (outputs past r))

    was : IsRun run past
    was = is.keeps.1

-- ---- the program is over

pub report_ends : ReadingsGoOn → (t : Target) (u : Compiled) (reported : Reported) (past : History) → IsTarget t u past
    → (situation (past ++ report_step (plain_report reported)
    (only_events (outputs past (plain_report reported) ++ exited_events 0)) ∷ []) ≡ Ended)
    × IsTarget (with_told t reported) u (past ++ report_step (plain_report reported)
    (only_events (outputs past (plain_report reported) ++ exited_events 0)) ∷ [])
report_ends laws t u reported past is = (
  laws.situation_is past step ∙ ap (λ mark. unwrap_or mark (situation past)) (outputs_mark past r (exited_events 0)),
  target_tells laws t u reported past step (exited_events 0) refl refl refl is refl refl,
)
  where
    r : PlainReport
    r = plain_report reported

    step : Step
    step = report_step r (only_events (outputs past r ++ exited_events 0))

-- ---- the debuggee comes back

-- a unit of the program's text will do as well
same_target : (t : Target) (u v : Compiled) (past : History) → text_of u ≡ text_of v → IsTarget t u past
    → IsTarget t v past
same_target t u v past same is = record {
  launched_is =
      is.launched_is
      ∙ ap (λ text. Some (record {
        path = t.path;
        stop_on_entry = t.stop_on_entry;
        text = text;
        program = program_of u;
      })) same
      ∙ ap (λ program. Some (record {
        path = t.path;
        stop_on_entry = t.stop_on_entry;
        text = text_of v;
        program = program;
      }))
      (one_program u v same);
  settings_are = is.settings_are;
  runs_are = is.runs_are;
  told_is = is.told_is;
}

-- the debuggee under the plan that is in force then
pub record Stands (d : Debugged) (r : Reported) (now : Plan) : Type 0 where
  pub unit_is : d.unit ≡ r.unit
  pub position_is : d.position ≡ r.end
  pub breakpoints_are : d.breakpoints ≡ now.breakpoints
  pub counted_from_is : d.counted_from ≡ now.counted_from

-- the plan in force when what waits is put in where a report ends
abbrev put_in_of : Bool → Option (List Breakpoint) → ℕ → Plan → Option Plan
put_in_of back waits finish now =
    if back then Some (from_next finish (unwrap_or waits now.breakpoints)) else put_in_at finish waits

-- the debuggee of a report, where the run goes back or not
abbrev stopped_by : Bool → Reported → Trail → Debugged
stopped_by back r trail =
    record {
      unit = r.unit;
      position = r.end;
      breakpoints = r.plan;
      counted_from = counts_from (back_if back) r;
      next = r.end + 1;
      trail = trail;
    }

put_in_stands : (back : Bool) (waits : Option (List Breakpoint)) (r : Reported) (trail : Trail) (now : Plan)
    → r.plan ≡ now.breakpoints → r.counted_from ≡ now.counted_from
    → Stands (with_waiting waits (stopped_by back r trail)) r (unwrap_or (put_in_of back waits r.end now) now)
put_in_stands false None r trail now plan_is counted_is =
    record { unit_is = refl; position_is = refl; breakpoints_are = plan_is; counted_from_is = counted_is }
put_in_stands false (Some bs) r trail now plan_is counted_is =
    record { unit_is = refl; position_is = refl; breakpoints_are = refl; counted_from_is = refl }
put_in_stands true None r trail now plan_is counted_is =
    record { unit_is = refl; position_is = refl; breakpoints_are = plan_is; counted_from_is = refl }
put_in_stands true (Some bs) r trail now plan_is counted_is =
    record { unit_is = refl; position_is = refl; breakpoints_are = refl; counted_from_is = refl }

-- the debuggee that came back, with what waited put in
abbrev pub back : OrderedRun → Reported → Debugged
back run r = with_waiting run.waiting_plan (stopped r (trail_in r.debuggee))

-- the plan in force when what waits is put in where the report ends
abbrev pub plan_then : History → Reported → Plan
plan_then past r = unwrap_or (put_in_by past (plain_report r)) (plan past)

pub back_stands : (t : Target) (run : OrderedRun) (r : Reported) (past : History) → ContinuesRun r t run
    → IsRun run past
    → Stands (back run r) r (plan_then past r)
back_stands t run r past goes is =
    subst (λ waits. Stands (back run r) r
    (unwrap_or (put_in_of (goes_back r.mode) waits r.end (plan past)) (plan past))) is.waiting_plan_is
    (put_in_stands (goes_back r.mode) run.waiting_plan r (trail_in r.debuggee) (plan past)
    (ap (λ (h : Heading). h.plan) goes ∙ is.breakpoints_are)
    (ap (λ (h : Heading). h.counted_from) goes ∙ is.counted_from_is))

pub back_target : (t : Target) (run : OrderedRun) (r : Reported) (past : History) → ContinuesRun r t run
    → IsPhase (phase.Running t run) past → IsTarget t (back run r).unit past
back_target t run r past goes is =
    subst (λ u. IsTarget t u past) (sym (back_stands t run r past goes is.keeps.1).unit_is)
    (same_target t run.unit r.unit past (sym (ap (λ (h : Heading). h.text) goes)) is.keeps.0)

pub back_debuggee : ReadingsGoOn → (d : Debugged) (r : Reported) (past : History) (step : Step)
    → Stands d r (plan_then past r) → step.item ≡ Accepted (plain_report r)
    → step.effect.put_in ≡ put_in_by past (plain_report r) → IsDebuggee d (past ++ step ∷ [])
back_debuggee laws d r past step stood item_is put_in_is = record {
  position_is =
      stood.position_is
      ∙ sym (laws.position_is past step ∙ ap (λ (i : Item). unwrap_or (end_of i) (position past)) item_is);
  breakpoints_are = stood.breakpoints_are ∙ ap (λ (p : Plan). p.breakpoints) (sym plan_is);
  counted_from_is = stood.counted_from_is ∙ ap (λ (p : Plan). p.counted_from) (sym plan_is);
}
  where
    plan_is : plan (past ++ step ∷ []) ≡ plan_then past r
    plan_is = laws.plan_is past step ∙ ap (λ o. unwrap_or o (plan past)) put_in_is

-- ---- the program stands

stands_so : (t : Target) (d : Debugged) (reason : StopReason) (past : History) → situation past ≡ stop_mark reason
    → IsTarget t d.unit past → IsDebuggee d past → IsPhase (standing t d reason) past
stands_so t d (stop.Exception fault) past there target_is debuggee_is =
    record { situation_is = there; keeps = (target_is, debuggee_is) }
stands_so t d _ past there target_is debuggee_is = record { situation_is = there; keeps = (target_is, debuggee_is) }

pub report_stands : ReadingsGoOn → (t : Target) (run : OrderedRun) (r : Reported) (reason : StopReason) (past : History)
    → ContinuesRun r t run → IsPhase (phase.Running t run) past
    → IsPhase (standing (with_told t r) (back run r) reason)
    (past ++ report_step (plain_report r) (stopped_effect past (plain_report r) (stopped_events reason)) ∷ [])
report_stands laws t run r reason past goes is =
    stands_so (with_told t r) (back run r) reason (past ++ step ∷ [])
    (laws.situation_is past step ∙ ap (λ mark. unwrap_or mark (situation past))
    (outputs_mark past (plain_report r) (stopped_events reason)))
    (target_tells laws t (back run r).unit r past step (stopped_events reason) refl refl refl
    (back_target t run r past goes is)
    refl refl)
    (back_debuggee laws (back run r) r past step (back_stands t run r past goes is.keeps.1) refl refl)
  where
    step : Step
    step = report_step (plain_report r) (stopped_effect past (plain_report r) (stopped_events reason))

-- ---- the program goes on as another run

-- the run that is ordered then
abbrev pub next_run : History → Reported → Heading
next_run past r =
    let now = plan_then past r in
    record (plain_report r).heading
    { run = runs past + 1; plan = now.breakpoints; counted_from = now.counted_from; start = r.end }

same_heading : (n : ℕ) (d : Debugged) (m : Mode) (h : Heading)
    → n ≡ h.run → text_of d.unit ≡ h.text → d.breakpoints ≡ h.plan → d.counted_from ≡ h.counted_from → m ≡ h.mode
    → d.position ≡ h.start → heading n d m ≡ h
same_heading n d m h run_is text_is plan_is counted_is mode_is start_is =
    rw (run_is, text_is, plan_is, counted_is, mode_is, start_is)

pub back_heading : (t : Target) (run : OrderedRun) (r : Reported) (past : History) → ContinuesRun r t run
    → IsPhase (phase.Running t run) past → heading (t.runs + 1) (back run r) run.mode ≡ next_run past r
back_heading t run r past goes is =
    let so = back_stands t run r past goes is.keeps.1 in
    same_heading (t.runs + 1) (back run r) run.mode (next_run past r) (ap (λ n. n + 1) is.keeps.0.runs_are)
    (ap text_of so.unit_is) so.breakpoints_are so.counted_from_is (sym (ap (λ (h : Heading). h.mode) goes))
    so.position_is

pub report_begins_again : ReadingsGoOn → (t : Target) (run : OrderedRun) (r : Reported) (past : History)
    → ContinuesRun r t run → IsPhase (phase.Running t run) past
    → IsPhase (phase.Running (with_next_run t (with_told t r).told) (begun_run (back run r) run.mode))
    (past ++ report_step (plain_report r) (continued_effect past (plain_report r)) ∷ [])
report_begins_again laws t run r past goes is =
    run_begins laws t (back run r) run.mode past step (back_target t run r past goes is)
    (back_debuggee laws (back run r) r past step (back_stands t run r past goes is.keeps.1) refl refl)
    (record {
      orders_are = ap (λ h. Go h ∷ []) (sym (back_heading t run r past goes is));
      launches_nothing = refl;
      sets_nothing = refl;
    })
    (with_told t r).told
    (told_after laws t run.unit r past step [] is.keeps.0
    (ap numbers_in (sym (append-nil (outputs past (plain_report r))))) refl)
  where
    step : Step
    step = report_step (plain_report r) (continued_effect past (plain_report r))
