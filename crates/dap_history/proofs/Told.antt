-- What numbers and logs say among events, and to which situation a stop leads.
use Rattle.dap_history.proofs.Common.{Breakpoint, Event, EventBody, Faulted, Log, Reason, RunFault, Situation, Some, StopReason, Stopped, [], ap, exception_of, filter_map, last_such, log_events, log_of, message_mark, output, refl, stop_of, stop_of_event, text_of_log, told_reason, ℕ, ◌++◌, ◌∙◌, ◌∷◌, ◌≡◌}
use Rattle.std.proofs.Common.{List, ℤ, arith}
use Rattle.std.specs.Prelude.{map}
use Rattle.dap_msg.specs.declared.outgoing.EventBody.TheVariants as event
use Rattle.dap_history.specs.Readings.{stop_mark}
use Rattle.dap_history.specs.Stops.{told_fault}
use Rattle.dap_history.proofs.Readings.{or_else-none}
use Rattle.std.proofs.lemmas.Grind.{common_steps}

-- the numbers, and the texts of the logs, that events report
abbrev pub numbers_in : List EventBody → List ℤ
numbers_in es = filter_map output (map Event es)

abbrev pub texts_in : List EventBody → List (List ℕ)
texts_in es = filter_map log_of (map Event es)

-- ---- numbers in front

pub numbers_of_numbers : (vs : List ℤ) (es : List EventBody) → numbers_in (map event.Output vs ++ es) ≡ vs
    ++ numbers_in es
numbers_of_numbers [] es = refl
numbers_of_numbers (v ∷ vs) es = ap (λ l. v ∷ l) (numbers_of_numbers vs es)

pub texts_of_numbers : (vs : List ℤ) (es : List EventBody) → texts_in (map event.Output vs ++ es) ≡ texts_in es
texts_of_numbers [] es = refl
texts_of_numbers (v ∷ vs) es = texts_of_numbers vs es

pub stop_of_numbers : (vs : List ℤ) (es : List EventBody) → last_such stop_of_event
    (map event.Output vs ++ es) ≡ last_such stop_of_event es
stop_of_numbers [] es = refl
stop_of_numbers (v ∷ vs) es = or_else-none _ ∙ stop_of_numbers vs es

pub mark_of_numbers : (vs : List ℤ) (es : List EventBody) → last_such message_mark
    (map Event (map event.Output vs ++ es)) ≡ last_such message_mark (map Event es)
mark_of_numbers [] es = refl
mark_of_numbers (v ∷ vs) es = or_else-none _ ∙ mark_of_numbers vs es

-- ---- logs in front

module _ (bs : List Breakpoint) where
  pub numbers_of_logs : (ls : List Log) (es : List EventBody) → numbers_in (log_events bs ls ++ es) ≡ numbers_in es
  numbers_of_logs [] es = refl
  numbers_of_logs (l ∷ ls) es = numbers_of_logs ls es

  pub texts_of_logs : (ls : List Log) (es : List EventBody) → texts_in (log_events bs ls ++ es) ≡ map
      (text_of_log bs) ls
      ++ texts_in es
  texts_of_logs [] es = refl
  texts_of_logs (l ∷ ls) es = ap (λ ts. text_of_log bs l ∷ ts) (texts_of_logs ls es)

  pub stop_of_logs : (ls : List Log) (es : List EventBody) → last_such stop_of_event (log_events bs ls ++ es)
      ≡ last_such
      stop_of_event es
  stop_of_logs [] es = refl
  stop_of_logs (l ∷ ls) es = or_else-none _ ∙ stop_of_logs ls es

  pub mark_of_logs : (ls : List Log) (es : List EventBody) → last_such message_mark
      (map Event (log_events bs ls ++ es)) ≡ last_such message_mark (map Event es)
  mark_of_logs [] es = refl
  mark_of_logs (l ∷ ls) es = or_else-none _ ∙ mark_of_logs ls es

-- ---- stops

-- what is so of Stopped and of Faulted is so of where a stop leads
pub by_stop_mark : (P : Situation → Type 0) → P Stopped → P Faulted → (why : StopReason) → P (stop_mark why)
by_stop_mark is stopped faulted why = grind (arith, common_steps) steps 200000

pub stop_marks : (r : Reason) → message_mark (Event (event.Stopped (stop_of r))) ≡ Some Stopped
stop_marks r = grind (arith, common_steps) steps 200000

-- what the laws spell is what is told

pub reason_told : (r : Reason) → stop_of r ≡ told_reason r
reason_told _ = refl

pub fault_told : (f : RunFault) → exception_of f ≡ told_fault f
fault_told _ = refl
