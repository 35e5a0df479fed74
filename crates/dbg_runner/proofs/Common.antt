-- What several lemma files import, from the libraries and from the definitions.
pub use Rattle.dbg_plan.specs.Advances.{Advanced, considered_at}
pub use Rattle.dbg_plan.specs.Breakpoints.{Breakpoint}
pub use Rattle.dbg_plan.specs.Debugged.{Debugged, due_now, IsConsidered, IsRunning, logs_now, machine_of, debugged_program}
pub use Rattle.dbg_plan.specs.Due.{accepts, arrivals, arrives_in, due, is_hit}
pub use Rattle.dbg_plan.specs.Logs.{Log, log_at, log_in, logs}
pub use Rattle.dbg_plan.specs.Retreat.{goal_of, last_due, reversed, stepped_back, Stop, stop_at}
pub use Rattle.dbg_plan.specs.Running.{Closes, RanFrom}
pub use Rattle.dbg_plan.specs.Trail.{floor_of, greatest, Trail}
pub use Rattle.dbg_plan.specs.declared.debuggee.Advance.{Advance}
pub use Rattle.dbg_plan.specs.declared.debuggee.Advance.TheVariants.{Done, Fault, To}
pub use Rattle.dbg_plan.specs.declared.mode.Mode.{Mode}
pub use Rattle.dbg_plan.specs.declared.mode.Reason.{Reason}
pub use Rattle.dbg_runner.specs.Courses.{arrival, in_all, IsAt, IsCounted, IsOn, IsRetreat, leads_to, RanAgain, retreating_of}
pub use Rattle.dbg_runner.specs.Hops.{gone_back, moved, standing}
pub use Rattle.dbg_runner.specs.Lawful.{due_in, EndsBy, faults, GoesBackBy, has_come, has_no_memory, is_due, is_held, is_over, is_spent, IsLawfulReport, IsPassed, IsReportOf, IsSpent, lacks_memory, logs_in, logs_told, RunsAt, takes_all, Went, WentBack, WentOn}
pub use Rattle.dbg_runner.specs.Laws.{AllButLastGoOn, AreCountedOn, AreReportsOf, by_go, by_quit, by_refusal, finding_hold, finding_none, HasLast, IsCut, KeepsOn, later, logs_between, logs_from, logs_of, LogsJoin, NothingDueIsPassed, numbers_of, NumbersJoin, passing, reports_of_run, RetreatsAreSilent, RetreatsHaveGoals, RetreatsLead, sending, taken_by, up_to_go}
pub use Rattle.dbg_runner.specs.Plain.{Go, goes_back, Heading, heading_after, Hold, PlainOrder, PlainReport, back_if, direction}
pub use Rattle.dbg_runner.specs.ReportFields.{IsReport, reported_with, sliced, StandsAtEnd}
pub use Rattle.dbg_runner.specs.Reported.{beside_report, carried, Carries, counts_from, heading, in_report, IsKept, plain_report, Reported, stopped, trail_in, whereabouts, unsliced, written_before}
pub use Rattle.dbg_runner.specs.Retreating.{GoesOnBack, heading_back, IsRoomFor, Retreating, steps_again, steps_to, summary_back}
pub use Rattle.dbg_runner.specs.Rooms.{IsRoomOf, Room, slice_limit}
pub use Rattle.dbg_runner.specs.Runner.{Act, begun, Does, Ended, finds_go, finds_hold, finds_none, finds_quit, finds_vain_hold, goes_on, Going, HandedBack, has_none_to_hold, Holding, holds, Idle, is_refused, is_refused_held, IsOfHold, IsOfNextSlice, DoesAll, Looked, Looking, onward, Passed, passes, quits, Ready, Runner, RunsAgain, Sent, Slicing, StandsIn, stops, takes_go, Waited, Worked}
pub use Rattle.dbg_runner.specs.Slices.{IsNextBackOf, IsNextOf, IsOfSlice, IsSliceOf}
pub use Rattle.dbg_runner.specs.Steps.{ending, ending_by, IsWritten, RanFurther, TookSteps}
pub use Rattle.dbg_runner.specs.Turns.{going, heading_of_course, held_at, held_in, stands_at}
pub use Rattle.dbg_runner.specs.declared.outcome.SliceOutcome.{SliceOutcome}
pub use Rattle.dbg_runner.specs.declared.retreat.Way.TheVariants.{Returns, Searches}
pub use Rattle.pl0_machine.specs.Machine.{frames_of, outcome_of, program, Standing}
pub use Rattle.pl0_meaning.specs.Runs.{at, Faults, last_position, led_to, Outcome, outcome, Stuck, step_at, written, written_by, written_from}
pub use Rattle.pl0_meaning.specs.declared.RunFault.{RunFault}
pub use Rattle.pl0_tree.specs.Tree.{Block}
pub use Rattle.std.proofs.Common.{[], add-one, ap, append-nil, append_assoc, arith, Bool, Box, box_value, false, filter, Global, IfSome, if◌then◌else◌, inl, inr, is_some, length, List, min, nat_eq, nat_le, None, Option, option_map, refl, Some, subst, suc, sym, true, zero, ℕ, ℤ, ⊎_elim, ◌*◌, ◌++◌, ◌+◌, ◌-◌, ◌<◌, ◌∙◌, ◌∷◌, ◌≡◌, ◌≢◌, ◌≤◌, ◌⊎◌}
pub use Rattle.std.proofs.Math.Nat.{min-eq_left, min-eq_right, min-le_left, min-le_right}
pub use Rattle.std.proofs.lemmas.Bool.{cases_eq, cases_lt, eqb-false, leb-true, true≢false}
pub use Rattle.std.specs.Prelude.{option_and_then, ◌&&◌}
