-- A pause that waits stops the program where its run is held, and nothing else stops it with that reason.
use Rattle.dap_history.proofs.Common.{Accepted, All, Body, Causes, Command, Content, Err, Grants, Heading, History, Incoming, IsSome, Item, Launch, Launches, None, Ok, Option, Outgoing, PlainReport, Reason, Refusal, RepliesIn, Reply, Request, Situation, SliceOutcome, Some, Step, StopReason, ThreadArguments, [], ap, go, held_effect, inl, inr, last_such, name_of, or_else, refl, report_effect, run_in, stop_in, stop_of, stop_of_event, subst, sym, unwrap_or, waiting_pause, ℕ, ◌++◌, ◌∙◌, ◌∷◌, ◌≡◌, ◌⊎◌}
use Rattle.std.proofs.Common.{List, Bool, true, false}
use Rattle.std.specs.Prelude.{option_map}
use Rattle.dap_msg.specs.declared.command.Command.TheVariants as command
use Rattle.dap_msg.specs.declared.command.Supported.{Supported}
use Rattle.dap_msg.specs.declared.command.CommandName.TheVariants as name
use Rattle.dap_msg.specs.declared.outgoing.Outgoing.TheVariants.{Answer}
use Rattle.dap_msg.specs.declared.outgoing.StopReason.TheVariants as stop
use Rattle.dbg_runner.specs.declared.outcome.SliceOutcome.TheVariants as slice
use Rattle.dap_history.specs.Readings.{is_pause}
use Rattle.dap_history.specs.Moves.{PauseWaits, PausesStop}
use Rattle.dap_history.proofs.Readings.{waiting_pause-snoc}
use Rattle.dap_history.proofs.Along.{IsKept, any_events, along}
use Rattle.dap_history.proofs.Each.{none_first, WasTaken, EachTaken, each_kept, each_first}
use Rattle.dap_history.proofs.Silent.{StopsBy, no_stop, at_first, all_silent}
use Rattle.dap_history.proofs.Outputs.{outputs_stop, outputs_stop_not}
use Rattle.dap_history.proofs.Reacted.{replied, by_reaction}
use Rattle.dap_history.proofs.Asked.{reaction_mode}
use Rattle.dap_history.proofs.Since.{SplitsAt, splits_last, longer, none_since, one_more_since, one_less_since}
use Rattle.std.proofs.Common.{arith}
use Rattle.std.proofs.lemmas.Grind.{common_steps}

-- ---- a granted pause

-- a refusal grants none, whatever the command
refusal_not : (seq : ℕ) (k : Supported) (why : Refusal)
    → is_pause (Some (Answer seq (name.Supported k) (Err why))) ≡ None
refusal_not seq k why = grind (arith, common_steps) steps 200000

-- the command is a `pause` that is granted
abbrev GrantsPause : Command → Reply → Type 0
GrantsPause asked reply = (a : ThreadArguments) × (asked ≡ command.Pause a) × (b : Body) × (reply.result ≡ Ok b)

paused_by : (s : Situation) (past : History) (seq : ℕ) (asked : Command) (reply : Reply) → RepliesIn s past asked reply
    → is_pause (Some (Answer seq (name_of asked) reply.result)) ≡ Some true → GrantsPause asked reply
paused_by s past seq asked reply is pauses = grind (arith, common_steps, replied, refusal_not) steps 200000

-- the step grants a pause
record PausedBy (step : Step) : Type 0 where
  request : Request
  asked : ThreadArguments
  granted : Grants step request
  pause_is : request.body ≡ command.Pause asked

step_pauses : (past : History) (item : Item) (step : Step) → step.item ≡ item → Causes past item step
    → is_pause step.answer ≡ Some true → PausedBy step
step_pauses past (Content (Some request)) step item_is is pauses = grind (arith, common_steps, paused_by) steps 1500000
step_pauses past item step item_is is pauses = grind (arith, common_steps) steps 200000

pauses_step : (step : Step) (request : Request) (a : ThreadArguments) → Grants step request
    → request.body ≡ command.Pause a → is_pause step.answer ≡ Some true
pauses_step step request a granted is = grind (arith, common_steps) steps 1500000

-- a pause orders no run
pause_goes_not : (past : History) (step : Step) (request : Request) (a : ThreadArguments) → Causes past step.item step
    → Grants step request → request.body ≡ command.Pause a → run_in step ≡ None
pause_goes_not past step request a causes granted is =
    grind (arith, common_steps, by_reaction, go, reaction_mode) steps 1500000

-- ---- a pause that waits is read so

abbrev IsRead : History → Type 0
IsRead past =
    ((waiting_pause past ≡ true) × PauseWaits past) ⊎ ((waiting_pause past ≡ false) × (¬ PauseWaits past))

only_true : (a : Option Outgoing) (b : Bool) → is_pause a ≡ Some b → b ≡ true
only_true a b is = grind (arith, common_steps) steps 200000

module _ (past : History) (step : Step) (causes : Causes past step.item step) where
  -- whether a pause waits after the step
  waits_after : (o : Option Heading) (p : Option Bool) → run_in step ≡ o → is_pause step.answer ≡ p
      → waiting_pause (past ++ step ∷ []) ≡ unwrap_or (or_else (option_map (λ (run : Heading). false) o) p)
      (waiting_pause past)
  waits_after o p run_is pause_is = grind (arith, common_steps, waiting_pause-snoc, false) steps 1500000

  -- the step that granted the pause is this one, or the pause waited before
  since : (w : PauseWaits (past ++ step ∷ [])) → (Grants step w.request) ⊎ (PauseWaits past × (run_in step ≡ None))
  since w = by_split (splits_last past step w.early w.step w.later w.past_is)
    where
      by_split : SplitsAt past step w.early w.step w.later
          → (Grants step w.request) ⊎ (PauseWaits past × (run_in step ≡ None))
      by_split (inl e) = inl (subst (λ s. Grants s w.request) (sym e.1) w.granted)
      by_split (inr e) =
          let none = one_less_since (λ (s : Step). run_in s ≡ None) e.0 step
          (subst (All (λ (s : Step). run_in s ≡ None)) e.2 w.none_since) in
          inr (
            record {
              early = w.early;
              step = w.step;
              later = e.0;
              past_is = e.1;
              request = w.request;
              asked = w.asked;
              granted = w.granted;
              pause_is = w.pause_is;
              none_since = none.0;
            },
            none.1,
          )

  waits_on : run_in step ≡ None → PauseWaits past → PauseWaits (past ++ step ∷ [])
  waits_on none w = grind (arith, common_steps, longer, none_since, one_more_since) steps 1500000

  begins_to_wait : PausedBy step → PauseWaits (past ++ step ∷ [])
  begins_to_wait by = grind (arith, common_steps, none_since) steps 1500000

  read_more : IsRead past → IsRead (past ++ step ∷ [])
  read_more here = by_run (run_in step) refl
    where
      ends : (run : Heading) → run_in step ≡ Some run → ¬ PauseWaits (past ++ step ∷ [])
      ends run goes w = by_since (since w)
        where
          by_since : ¬ ((Grants step w.request) ⊎ (PauseWaits past × (run_in step ≡ None)))
          by_since (inl granted) =
              let e = sym goes ∙ pause_goes_not past step w.request w.asked causes granted w.pause_is in cc
          by_since (inr was) = let e = sym goes ∙ was.1 in cc

      stays : run_in step ≡ None → is_pause step.answer ≡ None → IsRead past → IsRead (past ++ step ∷ [])
      stays none unpaused (inl is) = inl (waits_after None None none unpaused ∙ is.0, waits_on none is.1)
      stays none unpaused (inr is) = inr (waits_after None None none unpaused ∙ is.0, λ w. by_since w (since w))
        where
          by_since : (w : PauseWaits (past ++ step ∷ []))
              → ¬ ((Grants step w.request) ⊎ (PauseWaits past × (run_in step ≡ None)))
          by_since w (inl granted) = grind (arith, common_steps, pauses_step) steps 200000
          by_since w (inr was) = is.1 was.0

      by_pause : run_in step ≡ None → (p : Option Bool) → is_pause step.answer ≡ p → IsRead (past ++ step ∷ [])
      by_pause none None unpaused = stays none unpaused here
      by_pause none (Some b) pauses =
          let pauses_now : is_pause step.answer ≡ Some true = pauses ∙ ap Some (only_true step.answer b pauses) in
          inl (
            waits_after None (Some true) none pauses_now,
            begins_to_wait (step_pauses past step.item step refl causes pauses_now),
          )

      by_run : (o : Option Heading) → run_in step ≡ o → IsRead (past ++ step ∷ [])
      by_run (Some run) goes = inr (waits_after (Some run) (is_pause step.answer) goes refl, ends run goes)
      by_run None none = by_pause none (is_pause step.answer) refl

abbrev Any : Incoming → Type 0
Any e = Unit {0}

read_kept : IsKept Any IsRead
read_kept = grind (arith, common_steps, read_more) steps 1500000

read_first : IsRead []
read_first = inr (refl, λ w. absurd (none_first w.early w.step w.later w.past_is))

-- ---- what stops with that reason

-- no position is due for a pause
no_pause : (why : Reason) → ¬ (Some (stop_of why) ≡ Some stop.Pause)
no_pause why is = grind (arith, common_steps) steps 200000

reply_not : (s : Situation) (past : History) (o : Option StopReason) → StopsBy s past o → ¬ (o ≡ Some stop.Pause)
reply_not s past None no_stop is = absurd cc
reply_not s past (Some other) (at_first l r configuring launch due_is) is = no_pause r is

launch_not : (launch : Launch) (file : Option (List ℕ)) (reply : Reply) → Launches launch.arguments file reply
    → ¬ (last_such stop_of_event reply.effect.events ≡ Some stop.Pause)
launch_not launch file reply is stops_ = grind (arith, common_steps) steps 200000

module _ (past : History) (r : PlainReport) where
  report_pauses : (e : SliceOutcome) → last_such stop_of_event (report_effect past r e).events ≡ Some stop.Pause
      → (e ≡ slice.Held) × (waiting_pause past ≡ true)
  report_pauses slice.More is = let e = sym (outputs_stop_not past r) ∙ is in absurd cc
  report_pauses e is = grind (arith, common_steps, outputs_stop_not, no_pause, outputs_stop) steps 200000

  held_stops : (pauses : Bool) → pauses ≡ true → last_such stop_of_event (held_effect past r pauses).events
      ≡ Some stop.Pause
  held_stops pauses is = grind (arith, common_steps, outputs_stop) steps 200000

  held_goes : (pauses : Bool) → pauses ≡ false → (last_such stop_of_event (held_effect past r pauses).events ≡ None)
      × IsSome (last_such go (held_effect past r pauses).orders)
  held_goes pauses is = grind (arith, common_steps, outputs_stop_not) steps 200000

-- a step that stops with that reason is the report of a held run
stops_so : (past : History) (item : Item) (step : Step) → Causes past item step → stop_in step ≡ Some stop.Pause
    → (r : PlainReport) × (item ≡ Accepted r) × (r.outcome ≡ slice.Held) × (waiting_pause past ≡ true)
stops_so past (Content (Some request)) step is stops_ =
    absurd (reply_not _ past _ (all_silent _ past request.body is.0 is.1).stops (cc is.2.effect_is))
stops_so past item step is stops_ = grind (arith, common_steps, launch_not, report_pauses) steps 200000

-- ---- the law

-- what is so of the effect of a held run's report is so of the step
held_step : (past : History) (step : Step) (r : PlainReport) → Causes past step.item step → step.item ≡ Accepted r
    → r.outcome ≡ slice.Held → step.effect ≡ held_effect past r (waiting_pause past)
held_step past step r causes item_is outcome_is = grind (arith, common_steps) steps 1500000

waits_then : (past : History) → IsRead past → PauseWaits past → waiting_pause past ≡ true
waits_then past is w = grind (arith, common_steps) steps 200000

waits_not : (past : History) → IsRead past → ¬ PauseWaits past → waiting_pause past ≡ false
waits_not past is w = grind (arith, common_steps) steps 200000

waits_so : (past : History) → IsRead past → waiting_pause past ≡ true → PauseWaits past
waits_so past is true_ = grind (arith, common_steps) steps 200000

pub pauses_stop : PausesStop
pauses_stop f events past rest history before step after past_is = (
  λ r item_is outcome_is. (
    λ waits. cc (
      held_step before step r was.causes item_is outcome_is,
      held_stops before r
          (waiting_pause before) (waits_then before was.held waits),
    ),
    λ not. on_effect r item_is outcome_is (held_goes before
        r (waiting_pause before) (waits_not before was.held not)),
  ),
  λ stops_.
      let by = stops_so before step.item step was.causes stops_ in
      (by.0, by.1, by.2, waits_so before was.held by.3),
)
  where
    each : EachTaken Any IsRead past
    each = along Any (EachTaken Any IsRead) (each_kept Any IsRead read_kept) (each_first Any IsRead read_first) f events
        past rest (any_events events) history

    was : WasTaken Any IsRead before step
    was = each.each before step after past_is

    on_effect : (r : PlainReport) → step.item ≡ Accepted r → r.outcome ≡ slice.Held
        → (last_such stop_of_event (held_effect before r (waiting_pause before)).events ≡ None)
        × IsSome (last_such go (held_effect before r (waiting_pause before)).orders)
        → (stop_in step ≡ None) × IsSome (run_in step)
    on_effect r item_is outcome_is is = rw (held_step before step r was.causes item_is outcome_is) is
