-- What the events and orders of a report say.
use Rattle.dap_history.proofs.Common.{Body, CommandName, Effect, Event, EventBody, Heading, History, None, Option, PlainReport, Refusal, SliceOutcome, Some, Step, [], ap, append-nil, exception_of, exited_events, filter_map, go, held_effect, last_such, log_events, log_texts, message_mark, messages, numbers, numbers_told, outputs, refl, report_effect, stop_of, stop_of_event, stopped_events, sym, text_of_log, waiting_pause, with_answer, ℕ, ◌++◌, ◌-◌, ◌∙◌, ◌≡◌}
use Rattle.std.proofs.Common.{List, ℤ, arith}
use Rattle.std.specs.Prelude.{map, drop, Result, Bool, true, false}
use Rattle.std.proofs.lemmas.List.{append_assoc}
use Rattle.dap_msg.specs.declared.outgoing.Outgoing.TheVariants.{Answer}
use Rattle.dap_msg.specs.declared.outgoing.EventBody.TheVariants as event
use Rattle.dap_msg.specs.declared.outgoing.StopReason.TheVariants as stop
use Rattle.dbg_runner.specs.declared.outcome.SliceOutcome.TheVariants as slice
use Rattle.dap_history.proofs.Silent.{NextRuns, no_runs, next_run}
use Rattle.dap_history.proofs.Told.{numbers_in, texts_in, numbers_of_numbers, texts_of_numbers, stop_of_numbers, mark_of_numbers, numbers_of_logs, texts_of_logs, stop_of_logs, mark_of_logs}
use Rattle.std.proofs.lemmas.Grind.{common_steps}

-- ---- the numbers and logs of a step

-- an answer is neither
pub answer_aside : (seq : ℕ) (command : CommandName) (result : Result Body Refusal) (step : Step)
    → step.answer ≡ Some (Answer seq command result) → numbers (messages step) ≡ numbers_in step.effect.events
answer_aside seq command result step is = ap (λ a. numbers (with_answer a (map Event step.effect.events))) is

pub no_answer : (step : Step) → step.answer ≡ None → numbers (messages step) ≡ numbers_in step.effect.events
no_answer step is = ap (λ a. numbers (with_answer a (map Event step.effect.events))) is

pub answer_unlogged : (seq : ℕ) (command : CommandName) (result : Result Body Refusal) (step : Step)
    → step.answer ≡ Some (Answer seq command result) → log_texts (messages step) ≡ texts_in step.effect.events
answer_unlogged seq command result step is = ap (λ a. log_texts (with_answer a (map Event step.effect.events))) is

pub no_answer_unlogged : (step : Step) → step.answer ≡ None → log_texts (messages step) ≡ texts_in step.effect.events
no_answer_unlogged step is = ap (λ a. log_texts (with_answer a (map Event step.effect.events))) is

-- ---- a report's outputs, and what follows them

abbrev pub told_numbers : History → PlainReport → List ℤ
told_numbers past r = drop (numbers_told past - r.numbers_before) r.numbers

abbrev pub told_texts : PlainReport → List (List ℕ)
told_texts r = map (text_of_log r.plan) r.logs

pub outputs_apart : (past : History) (r : PlainReport) (es : List EventBody) → outputs past r
    ++ es ≡ map event.Output (told_numbers past r) ++ (log_events r.plan r.logs ++ es)
outputs_apart past r es = append_assoc (map event.Output (told_numbers past r)) (log_events r.plan r.logs) es

pub outputs_numbers : (past : History) (r : PlainReport) (es : List EventBody)
    → numbers_in (outputs past r ++ es) ≡ told_numbers past r ++ numbers_in es
outputs_numbers past r es = grind (arith, common_steps, outputs_apart, numbers_of_numbers, numbers_of_logs) steps 200000

pub outputs_texts : (past : History) (r : PlainReport) (es : List EventBody)
    → texts_in (outputs past r ++ es) ≡ told_texts r ++ texts_in es
outputs_texts past r es = grind (arith, common_steps, outputs_apart, texts_of_numbers, texts_of_logs) steps 200000

pub outputs_stop : (past : History) (r : PlainReport) (es : List EventBody)
    → last_such stop_of_event (outputs past r ++ es) ≡ last_such stop_of_event es
outputs_stop past r es =
    cc (outputs_apart past r es, stop_of_numbers (told_numbers past r) _, stop_of_logs r.plan r.logs es)

pub outputs_mark : (past : History) (r : PlainReport) (es : List EventBody)
    → last_such message_mark (map Event (outputs past r ++ es)) ≡ last_such message_mark (map Event es)
outputs_mark past r es =
    cc (outputs_apart past r es, mark_of_numbers (told_numbers past r) _, mark_of_logs r.plan r.logs es)

-- alone they report no stop, and lead to no situation
module _ (past : History) (r : PlainReport) where
  pub outputs_stop_not : last_such stop_of_event (outputs past r) ≡ None
  outputs_stop_not = ap (last_such stop_of_event) (sym (append-nil (outputs past r))) ∙ outputs_stop past r []

  pub outputs_unmarked : last_such message_mark (map Event (outputs past r)) ≡ None
  outputs_unmarked = cc (append-nil (outputs past r), outputs_mark past r [])

abbrev pub if_paused : Bool → List EventBody
if_paused true = stopped_events stop.Pause
if_paused false = []

-- what follows a report's outputs
abbrev pub following : History → SliceOutcome → List EventBody
following past slice.More = []
following past (slice.Due reason) = stopped_events (stop_of reason)
following past slice.Held = if_paused (waiting_pause past)
following past slice.Done = exited_events 0
following past (slice.Fault fault) = stopped_events (stop.Exception (exception_of fault))
following past slice.NoMemory = []

-- a report for which there was no memory tells nothing
pub report_events : (past : History) (r : PlainReport) (e : SliceOutcome)
    → (e ≡ slice.NoMemory → (r.numbers ≡ []) × (r.logs ≡ [])) → (report_effect past r e).events ≡ outputs past r
    ++ following past e
report_events past r slice.Held none = by_pause (waiting_pause past)
  where
    by_pause : (pauses : Bool) → (held_effect past r pauses).events ≡ outputs past r ++ if_paused pauses
    by_pause true = refl
    by_pause false = sym (append-nil (outputs past r))
report_events past r e none = grind (arith, common_steps, append-nil) steps 200000

pub following_numbers : (past : History) (e : SliceOutcome) → numbers_in (following past e) ≡ []
following_numbers past e = grind (arith, common_steps) steps 200000

pub following_texts : (past : History) (e : SliceOutcome) → texts_in (following past e) ≡ []
following_texts past e = grind (arith, common_steps) steps 200000

module _ (past : History) (r : PlainReport) (e : SliceOutcome)
    (none : e ≡ slice.NoMemory → (r.numbers ≡ []) × (r.logs ≡ [])) where
  -- whatever the report's end, its numbers are reported but for those that were before
  pub report_numbers : numbers_in (report_effect past r e).events ≡ told_numbers past r
  report_numbers =
      grind (arith, common_steps, report_events, outputs_numbers, following_numbers, append-nil) steps 200000

  -- and all its logs
  pub report_texts : texts_in (report_effect past r e).events ≡ told_texts r
  report_texts =
      ap texts_in (report_events past r e none) ∙ outputs_texts past r _ ∙ ap (λ l. told_texts r ++ l) (following_texts
      past e) ∙ append-nil _

pub report_launches : (past : History) (r : PlainReport) (e : SliceOutcome) → (report_effect past r e).launched ≡ None
report_launches past r e = grind (arith, common_steps) steps 200000

-- a run that a report orders is of the report's text, and begins at its end
pub data GoesAs (text : List ℕ) (finish : ℕ) : Option Heading → Type 0 where
  no_run : GoesAs text finish None
  as_text : (run : Heading) → run.text ≡ text → run.start ≡ finish → GoesAs text finish (Some run)

abbrev pub GoesOn : PlainReport → Effect → Type 0
GoesOn r effect = GoesAs r.text r.end (last_such go effect.orders)

pub report_goes : (past : History) (r : PlainReport) (e : SliceOutcome) → GoesOn r (report_effect past r e)
report_goes past r slice.Held = held_goes (waiting_pause past)
  where
    held_goes : (pauses : Bool) → GoesOn r (held_effect past r pauses)
    held_goes true = no_run
    held_goes false = as_text _ refl refl
report_goes past r _ = no_run

-- it is the next one
pub report_runs : (past : History) (r : PlainReport) (e : SliceOutcome)
    → NextRuns past (filter_map go (report_effect past r e).orders)
report_runs past r e = grind (arith, common_steps, no_runs, filter_map, go, next_run) steps 200000
