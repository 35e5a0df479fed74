-- Each step leads where the table of transitions says, so the situation is where the steps lead from Fresh.
use Rattle.dap_history.proofs.Common.{Dialect, Answers, Body, Breakpoint, Causes, Command, CommandName, Configuring, Content, Effect, Event, Fresh, HasEffect, Heading, History, Incoming, IsHistoryOf, IsStopped, Item, Launch, Launched, Launches, Loaded, Mode, None, Ok, Option, Outgoing, PlainReport, Reaction, Ready, Reason, Refusal, RepliesIn, Reply, Rest, RetreatKind, Running, SetBreakpointsArguments, Situation, SliceOutcome, Some, Step, ThreadArguments, [], after_step, ap, append-nil, due_first, effect_in, enters, first_logs, held_effect, hold_once, item_leads, last_such, message_mark, name_of, nothing, only_orders, or_else, order_mark, plan, refl, reply_of, report_effect, resumes, retreat_mode, situation, stop_of_event, stopped_events, sym, unwrap_or, with_answer, ℕ, ◌++◌, ◌∙◌, ◌∷◌, ◌≡◌}
use Rattle.std.proofs.Common.{List, Bool, true, false, Result, arith}
use Rattle.std.specs.Prelude.{map, option_map}
use Rattle.dap_msg.specs.declared.command.Command.TheVariants as command
use Rattle.dap_msg.specs.declared.command.CommandName.TheVariants as name
use Rattle.dap_msg.specs.declared.command.Supported.TheVariants as supported
use Rattle.dap_msg.specs.declared.outgoing.Body.TheVariants as body
use Rattle.dap_msg.specs.declared.outgoing.Outgoing.TheVariants.{Answer}
use Rattle.dap_msg.specs.declared.outgoing.StopReason.TheVariants as stop
use Rattle.dbg_runner.specs.declared.outcome.SliceOutcome.TheVariants as slice
use Rattle.dap_history.specs.Transitions.{runs_unless, report_leads, after_steps, EachStepLeads, SituationIsAfterSteps}
use Rattle.dap_history.proofs.Readings.{situation-snoc}
use Rattle.dap_history.proofs.Along.{IsTaken, IsKept, any_events, along}
use Rattle.dap_history.proofs.Each.{EachTaken, each_kept, each_first}
use Rattle.dap_history.proofs.Told.{stop_of_logs, mark_of_logs, stop_marks}
use Rattle.dap_history.proofs.Silent.{first_at}
use Rattle.dap_history.proofs.Reacted.{IsCalm, Reacted, by_answering, by_setting, by_starting, by_retreating, by_interrupting, by_reaction}
use Rattle.dap_history.proofs.Outputs.{outputs_stop, outputs_mark, outputs_stop_not, outputs_unmarked}
use Rattle.dap_history.proofs.Passing.{mark_of_effect}
use Rattle.dap_history.proofs.GoingBack.{marks_are}
use Rattle.dap_history.proofs.Asked.{no_go_held}
use Rattle.std.proofs.lemmas.Grind.{common_steps}

-- what an item is answered with and causes leads from the situation where the table says
abbrev Fits : Situation → Item → Option Outgoing → Effect → Type 0
Fits s item answer effect =
    unwrap_or (or_else (last_such order_mark effect.orders)
    (last_such message_mark (with_answer answer (map Event effect.events)))) s
    ≡ item_leads item answer (last_such stop_of_event effect.events) s

-- ---- replies

-- an order to hold, or none, leads nowhere
hold_unmarked : (past : History) → last_such order_mark (hold_once past) ≡ None
hold_unmarked past = marks_are (hold_once past) ∙ ap (option_map (λ (run : Heading). Running)) (no_go_held past)

module _ (seq : ℕ) (past : History) where
  -- the same for a request
  abbrev Leads : Situation → Command → Result Body Refusal → Effect → Type 0
  Leads s asked result effect =
      Fits s (Content (Some (record { seq = seq; body = asked }))) (Some (Answer seq (name_of asked) result)) effect

  abbrev ReplyLeads : Situation → Command → Reply → Type 0
  ReplyLeads s asked reply = Leads s asked reply.result reply.effect

  calm_leads : (s : Situation) (asked : Command) (b : Body) → IsCalm past s asked b → Leads s asked (Ok b) nothing
  calm_leads s asked b calm = grind (arith, common_steps) steps 200000

  -- where the request is granted; the body of the answer doesn't matter
  abbrev Granted : Situation → Command → Effect → Type 0
  Granted s asked effect = Leads s asked (Ok body.None) effect

  sets_lead : (s t : Situation) (a : SetBreakpointsArguments) (bs : List Breakpoint)
      → Granted s (command.SetBreakpoints a) (effect_in t past bs)
  sets_lead s t a bs = grind (arith, common_steps, hold_unmarked) steps 200000

  enters_leads : (l : Launched) (why : Option Reason)
      → Granted Configuring command.ConfigurationDone (enters past l why)
  enters_leads l None = cc (append-nil (first_logs past l), stop_of_logs (plan past).breakpoints (first_at past l) [])
  enters_leads l (Some r) = grind (arith, common_steps, mark_of_logs, stop_marks, stop_of_logs) steps 200000

  back_leads : (s : Situation) (kind : RetreatKind) (a : ThreadArguments) (l : Launched) (m : Mode) → IsStopped s
      → Granted s (command.Retreat kind a) (only_orders (resumes past l m))
  back_leads s kind a l m stands = grind (arith, common_steps) steps 200000

  reaction_leads : {s : Situation} {asked : Command} {reaction : Reaction} → Reacted past s asked reaction
      → ReplyLeads s asked (reply_of past reaction)
  reaction_leads (by_answering s asked b calm) = calm_leads s asked b calm
  reaction_leads (by_setting s a l found bs there path_is resolved) = sets_lead s (situation past) a bs
  reaction_leads (by_starting l there) = enters_leads l (due_first past l)
  reaction_leads (by_retreating s kind a l stands there) = back_leads s kind a l (retreat_mode kind) stands
  reaction_leads (by_interrupting a) = ap (λ m. unwrap_or (or_else m None) Running) (hold_unmarked past)
  reaction_leads _ = refl

  reply_leads : (reply : Reply) (s : Situation) (asked : Command) → RepliesIn s past asked reply
      → ReplyLeads s asked reply
  reply_leads reply s asked is = by_reaction (ReplyLeads s asked) (λ reaction. reaction_leads) is

-- ---- items

by_reply : (seq : ℕ) (launch : Launch) (file : Option (List ℕ)) (reply known : Reply) → reply ≡ known
    → Fits Ready (Loaded launch file) (Some (Answer seq (name.Supported supported.Launch) known.result)) known.effect
    → Fits Ready (Loaded launch file) (Some (Answer seq (name.Supported supported.Launch) reply.result)) reply.effect
by_reply seq launch file reply known is fits = rw is fits

-- what a launch's file brings leads on from Ready
launch_fits : (seq : ℕ) (launch : Launch) (file : Option (List ℕ)) (reply : Reply)
    → Launches launch.arguments file reply
    → Fits Ready (Loaded launch file) (Some (Answer seq (name.Supported supported.Launch) reply.result)) reply.effect
launch_fits seq launch file reply is = grind (arith, common_steps, by_reply) steps 200000

-- what an accepted report causes leads on from Running
abbrev ReportFits : SliceOutcome → Effect → Type 0
ReportFits e effect =
    unwrap_or (mark_of_effect effect) Running ≡ report_leads e Running (last_such stop_of_event effect.events)

module _ (past : History) (r : PlainReport) where
  held_fits : (pauses : Bool) → ReportFits slice.Held (held_effect past r pauses)
  held_fits true = cc (outputs_mark past r (stopped_events stop.Pause), outputs_stop past r (stopped_events stop.Pause))
  held_fits false = sym (ap runs_unless (outputs_stop_not past r))

  report_fits : (e : SliceOutcome) → ReportFits e (report_effect past r e)
  report_fits slice.More = ap (λ m. unwrap_or m Running) (outputs_unmarked past r)
  report_fits e = grind (arith, common_steps, outputs_unmarked, outputs_mark, stop_marks, held_fits) steps 200000

abbrev StepFits : Situation → Item → Step → Type 0
StepFits s item step = Fits s item step.answer step.effect

effect_fits : (s : Situation) (item : Item) (effect : Effect) (step : Step) → HasEffect effect step
    → Fits s item None effect → StepFits s item step
effect_fits s item effect step has fits = rw has.answer_is (rw has.effect_is fits)

answer_fits : (s : Situation) (item : Item) (seq : ℕ) (command : CommandName) (reply : Reply) (step : Step)
    → Answers seq command reply step → Fits s item (Some (Answer seq command reply.result)) reply.effect
    → StepFits s item step
answer_fits s item seq command reply step answers fits = rw answers.answer_is (rw answers.effect_is fits)

item_fits : (Q : Incoming → Type 0) (past : History) (item : Item) (step : Step) → IsTaken Q past item
    → Causes past item step → StepFits (situation past) item step
item_fits Q past (Content (Some request)) step taken is =
    answer_fits (situation past) (Content (Some request)) _ _ is.0 step is.2
    (reply_leads request.seq past is.0 (situation past) request.body is.1)
item_fits here past item step taken is =
    grind (arith, common_steps, effect_fits, nothing, answer_fits, launch_fits, report_fits) steps 200000

-- ---- along a history

after_steps-snoc : (s : Situation) (steps : List Step) (step : Step)
    → after_steps s (steps ++ step ∷ []) ≡ after_step (after_steps s steps) step
after_steps-snoc s [] step = refl
after_steps-snoc s (first ∷ steps) step = after_steps-snoc (after_step s first) steps step

-- the situation is where the steps lead
abbrev IsLed : History → Type 0
IsLed past = situation past ≡ after_steps Fresh past

abbrev pub Any : Incoming → Type 0
Any e = Unit {0}

pub step_leads : (past : History) (step : Step) → IsTaken Any past step.item → Causes past step.item step
    → situation (past ++ step ∷ []) ≡ after_step (situation past) step
step_leads past step taken causes = situation-snoc past step ∙ item_fits Any past step.item step taken causes

led_kept : IsKept Any IsLed
led_kept = grind (arith, common_steps, step_leads, after_steps-snoc) steps 200000

module _ (f : Dialect) (events : List Incoming) (past : History) (rest : Rest)
    (history : IsHistoryOf f events past rest) where
  each : EachTaken Any IsLed past
  each = along Any (EachTaken Any IsLed) (each_kept Any IsLed led_kept) (each_first Any IsLed refl) f events past rest
      (any_events events) history

-- ---- the laws

pub each_step_leads : EachStepLeads
each_step_leads f events past rest history before step after past_is =
    grind (arith, common_steps, step_leads, each) steps 200000

pub situation_after : SituationIsAfterSteps
situation_after f events past rest history = (each f events past rest history).now
