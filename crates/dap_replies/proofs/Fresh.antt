-- How many numbers are reported: no more than the steps that were taken, and none of a quiet report.
use Rattle.std.proofs.Common.{◌≡◌, ℕ, zero, suc, ◌+◌, ◌-◌, ◌<◌, ◌≤◌, Bool, true, false, [], ◌++◌, map, None, Some, length, drop, ◌∙◌, ap, arith, length-append, length-drop}
use Rattle.std.proofs.Math.Seq.{drop-nil}
use Rattle.pl0_tree.specs.Tree.{Block}
use Rattle.pl0_meaning.specs.Runs.{Outcome, Goes, Faults, Stuck, outcome, written_by, written_from, written}
use Rattle.dbg_runner.specs.Lawful.{Went, IsLawfulReport}
use Rattle.dbg_runner.specs.Plain.{PlainReport, goes_back, back_if}
use Rattle.dbg_runner.specs.Reported.{Reported, plain_report}
use Rattle.dap_msg.specs.declared.outgoing.EventBody.TheVariants as event
use Rattle.dap_history.specs.Replies.{log_events}
use Rattle.dap_replies.specs.Replied.{IsQuiet}
use Rattle.dap_replies.specs.Reporting.{fresh, outputs_after}

-- a step writes at most one number
written_by_few : (o : Outcome) → length (written_by o) ≤ 1
written_by_few (Goes None c) = omega arith
written_by_few (Goes (Some v) c) = omega arith
written_by_few (Faults fault) = omega arith
written_by_few Stuck = omega arith

written_few : (main : Block) (a count : ℕ) → length (written_from main a count) ≤ count
written_few main a zero = omega arith
written_few main a (suc count) =
    omega (
      arith,
      written_by_few (outcome main a),
      written_few main (a + 1) count,
      length-append
          (written_by (outcome main a)) (written_from main (a + 1) count),
    )

fits_by : (main : Block) (r : PlainReport) (back : Bool) → r.numbers_before ≡ length (written main 0 r.start)
    → Went main r (back_if back)
    → (told limit : ℕ) → told < limit → r.end < limit → told + length (drop (told - r.numbers_before) r.numbers) < limit
fits_by main r false before went told limit few ends =
    omega (
      arith,
      few,
      ends,
      before,
      went.begun,
      ap length went.numbers,
      written_few main 0 (r.start - 0),
      written_few
          main r.start (r.end - r.start),
      length-drop (told - r.numbers_before) r.numbers,
    )
fits_by main r true before went told limit few ends =
    omega (arith, few, ap length went.numbers, length-drop (told - r.numbers_before) r.numbers)

-- those reported before and those of a report are as few
pub told_fits : (r : PlainReport) → IsLawfulReport r → (told limit : ℕ) → told < limit → r.end < limit
    → told + length (drop (told - r.numbers_before) r.numbers) < limit
told_fits r is told limit few ends =
    fits_by is.program r (goes_back r.mode) is.lawful.before is.lawful.went told limit few ends

-- where a report has no numbers, none is fresh
pub none_fresh : (told : ℕ) (r : Reported) → r.numbers ≡ [] → fresh told r ≡ []
none_fresh told r none = ap (drop (told - r.numbers_before)) none ∙ drop-nil (told - r.numbers_before)

-- a quiet report has no events
pub quiet_outputs : (told : ℕ) (r : Reported) → IsQuiet (plain_report r) → outputs_after told r ≡ []
quiet_outputs told r quiet =
    ap (λ numbers. map event.Output numbers ++ log_events r.plan r.logs) (none_fresh told r quiet.no_numbers)
    ∙ ap (log_events r.plan) quiet.no_logs
