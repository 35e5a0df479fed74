-- What a report tells after its numbers and logs.
use Rattle.dap_history.proofs.Common.{Accepted, All, All-append, All-cons, All-nil, Breakpoint, Causes, EventBody, History, IsOutput, Log, PlainReport, SliceOutcome, [], append-nil, held_effect, log_events, outputs, refl, report_effect, subst, sym, waiting_pause, ◌++◌, ◌∷◌, ◌≡◌}
use Rattle.std.proofs.Common.{List, Bool, true, false}
use Rattle.std.specs.Prelude.{map, ℤ}
use Rattle.dap_msg.specs.declared.outgoing.EventBody.TheVariants as event
use Rattle.dbg_runner.specs.declared.outcome.SliceOutcome.TheVariants as slice
use Rattle.dap_history.specs.Stops.{tells_held, tells, EachReportIsTold}
use Rattle.dap_history.proofs.Along.{any_events, along}
use Rattle.dap_history.proofs.Each.{WasTaken, EachTaken, each_kept, each_first}
use Rattle.dap_history.proofs.Told.{reason_told, fault_told}
use Rattle.dap_history.proofs.GoingBack.{Anything, anything_kept}
use Rattle.std.proofs.Common.{arith}
use Rattle.std.proofs.lemmas.Grind.{common_steps}

numbers_output : (vs : List ℤ) → All IsOutput (map event.Output vs)
numbers_output [] = All-nil IsOutput
numbers_output (v ∷ vs) = All-cons IsOutput (event.Output v) (map event.Output vs) tt (numbers_output vs)

pub logs_output : (bs : List Breakpoint) (ls : List Log) → All IsOutput (log_events bs ls)
logs_output bs [] = All-nil IsOutput
logs_output bs (l ∷ ls) = All-cons IsOutput _ (log_events bs ls) tt (logs_output bs ls)

outputs_output : (past : History) (r : PlainReport) → All IsOutput (outputs past r)
outputs_output past r = All-append IsOutput (map event.Output _) _ (numbers_output _) (logs_output r.plan r.logs)

-- the events are numbers and logs, and then these
abbrev EndsIn : List EventBody → List EventBody → Type 0
EndsIn events last = (front : List EventBody) × All IsOutput front × (events ≡ front ++ last)

report_tells : (past : History) (r : PlainReport) (e : SliceOutcome)
    → EndsIn (report_effect past r e).events (tells past e)
report_tells past r slice.More = (outputs past r, outputs_output past r, sym (append-nil (outputs past r)))
report_tells past r slice.Held = by_pause (waiting_pause past)
  where
    by_pause : (pauses : Bool) → EndsIn (held_effect past r pauses).events (tells_held pauses)
    by_pause true = (outputs past r, outputs_output past r, refl)
    by_pause false = (outputs past r, outputs_output past r, sym (append-nil (outputs past r)))
report_tells past r e = grind (arith, common_steps, outputs_output, reason_told, fault_told, All-nil) steps 200000

pub each_report_told : EachReportIsTold
each_report_told f events past rest history before step after past_is r item_is =
    (is.answer_is, rw is.effect_is (report_tells before r r.outcome))
  where
    each : EachTaken (λ e. Unit {0}) (Anything (λ e. Unit {0})) past
    each =
        along (λ e. Unit {0}) (EachTaken (λ e. Unit {0}) (Anything (λ e. Unit {0})))
        (each_kept (λ e. Unit {0}) (Anything (λ e. Unit {0})) (anything_kept (λ e. Unit {0})))
        (each_first (λ e. Unit {0}) (Anything (λ e. Unit {0})) tt)
        f events past rest (any_events events) history

    was : WasTaken (λ e. Unit {0}) (Anything (λ e. Unit {0})) before step
    was = each.each before step after past_is

    is : Causes before (Accepted r) step
    is = subst (λ i. Causes before i step) item_is was.causes
