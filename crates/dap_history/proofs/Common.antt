-- What several lemma files import, from the libraries and from the definitions.
pub use Rattle.dap_frame.specs.Header.{FaultAt, HasFaultyLine, line_of, lines_of}
pub use Rattle.dap_frame.specs.declared.fault.FramingFault.{FramingFault}
pub use Rattle.dap_history.specs.Breakpoints.{IsResolved, answer_to_line, asked_as, effect_in, hold_once, is_same_path, line_offset, offset}
pub use Rattle.dap_history.specs.Considered.{all_runs, before_start, end_in, run_end, run_texts, starts_by}
pub use Rattle.dap_history.specs.Emission.{Answers, Causes, HasEffect, IsAfter, RepliesIn}
pub use Rattle.dap_history.specs.Events.{AreLawful, File, Incoming, IsHistoryOf, IsInFront, IsTaking, LeadsByEvent, LeadsByEvents, LeadsByFile, LeadsByPiece, LeadsByReport, Loads, MayTake, NoMemory, Piece, ReadFailed, Report, Rest, Rests, Takes, TakesSome, closed, faulty, no_content, one_content, only_bytes, open_ended, waits}
pub use Rattle.dap_history.specs.Frames.{Counting, at_most, frame_by_id, scopes_from, shown_column, shown_frame, shown_frames, shown_line}
pub use Rattle.dap_history.specs.GoingBack.{back_by, back_in, back_of, held_by}
pub use Rattle.dap_history.specs.History.{Accepted, Content, Effect, Fault, History, InputEnd, Item, Launched, Loaded, MemoryFailure, ReadFailure, Step, messages, messages_of, orders_of, with_answer}
pub use Rattle.dap_history.specs.Initialized.{less_by}
pub use Rattle.dap_history.specs.Inspection.{EvaluatesIn, RepliesAt, RepliesFrom, Subject, result_answer, scopes, subject_in}
pub use Rattle.dap_history.specs.Last.{last_such, or_else}
pub use Rattle.dap_history.specs.Launching.{Launches, launches, wanted_in}
pub use Rattle.dap_history.specs.Laws.{AreReadAs, ContentsAreOfTheStream, launch_request, log_of, log_texts, read_as, waiting}
pub use Rattle.dap_history.specs.LineAnswers.{GiveBreakpoints}
pub use Rattle.dap_history.specs.Plans.{Plan, no_plan}
pub use Rattle.dap_history.specs.Reactions.{Close, Inspects, InspectsAs, Interrupt, Reaction, Reacts, Refuse, Resume, Retreat, SetBreakpoints, SetsOf, Start, for_thread, other_source, reply_of}
pub use Rattle.dap_history.specs.Readings.{answer_mark, closing, closing_command, closing_report, command_mark, end_of, ending_of, event_mark, go, hold_mark, is_back, last_run, launched, message_mark, numbers, numbers_told, order_mark, output, plan, reached, runs, settings, settings_by, situation, step_mark, waiting_pause, waiting_plan, waits_by}
pub use Rattle.dap_history.specs.Replies.{OfProgram, Reply, answered, exception_of, exited_events, log_events, nothing, only_orders, refused, reply_with, stop_of, stopped_events, text_of_log}
pub use Rattle.dap_history.specs.Reports.{Accepts, from_next, held_effect, outputs, put_in_at, report_effect}
pub use Rattle.dap_history.specs.Running.{body_of, due_first, enters, first_logs, mode_of, resumes, retreat_mode}
pub use Rattle.dap_history.specs.Runs.{Grants, held_mode, mode_asked, mode_by}
pub use Rattle.dap_history.specs.Stops.{AnswersFrom, IsOutput, IsRetreatsStop, IsRightStop, IsRunsStop, IsStopOf, IsStopped, NoneDueBefore, NoneDueUpTo, Orders, StoppedLastAt, due_in_run, run_in, stop_in, stop_of_event, told_reason}
pub use Rattle.dap_history.specs.Transitions.{after_step, item_leads}
pub use Rattle.dap_history.specs.Verdicts.{refused_by, refused_thread}
pub use Rattle.dap_history.specs.declared.ending.Ending.{Ending}
pub use Rattle.dap_history.specs.declared.fault.LoadFault.{LoadFault}
pub use Rattle.dap_history.specs.declared.launch.Launch.{Launch}
pub use Rattle.dap_history.specs.declared.situation.Situation.{Situation}
pub use Rattle.dap_history.specs.declared.situation.Situation.TheVariants.{Configuring, Ended, Faulted, Fresh, Ready, Running, Stopped}
pub use Rattle.dap_msg.specs.Commands.{name_of}
pub use Rattle.dap_msg.specs.Request.{IsRequestFrom}
pub use Rattle.dap_msg.specs.declared.command.Command.{Command}
pub use Rattle.dap_msg.specs.declared.command.CommandName.{CommandName}
pub use Rattle.dap_msg.specs.declared.outgoing.Body.{Body}
pub use Rattle.dap_msg.specs.declared.outgoing.BreakpointAnswer.{BreakpointAnswer}
pub use Rattle.dap_msg.specs.declared.outgoing.EventBody.{EventBody}
pub use Rattle.dap_msg.specs.declared.outgoing.Outgoing.{Outgoing}
pub use Rattle.dap_msg.specs.declared.outgoing.Outgoing.TheVariants.{Event}
pub use Rattle.dap_msg.specs.declared.outgoing.Refusal.{Refusal}
pub use Rattle.dap_msg.specs.declared.outgoing.Scope.{Scope}
pub use Rattle.dap_msg.specs.declared.outgoing.StopReason.{StopReason}
pub use Rattle.dap_msg.specs.declared.question.Question.{Question}
pub use Rattle.dap_msg.specs.declared.request.Dialect.{Dialect}
pub use Rattle.dap_msg.specs.declared.request.Request.{Request}
pub use Rattle.dap_msg.specs.declared.requests.initialize.InitializeArguments.{InitializeArguments}
pub use Rattle.dap_msg.specs.declared.requests.launch.LaunchArguments.{LaunchArguments}
pub use Rattle.dap_msg.specs.declared.requests.resume.ResumeKind.{ResumeKind}
pub use Rattle.dap_msg.specs.declared.requests.resume.RetreatKind.{RetreatKind}
pub use Rattle.dap_msg.specs.declared.requests.resume.ThreadArguments.{ThreadArguments}
pub use Rattle.dap_msg.specs.declared.requests.set_breakpoints.SetBreakpointsArguments.{SetBreakpointsArguments}
pub use Rattle.dap_msg.specs.declared.requests.set_breakpoints.SourceBreakpoint.{SourceBreakpoint}
pub use Rattle.dbg_plan.specs.Breakpoints.{Breakpoint}
pub use Rattle.dbg_plan.specs.Due.{depth_at, due, reason_of}
pub use Rattle.dbg_plan.specs.Logs.{Log, LogsAreSaid}
pub use Rattle.dbg_plan.specs.Resolutions.{AreResolved, HasConditionAt, HasRule, IsResolvedTo, ReadsConditionAt, ReadsMessageAt, ReadsRule, step_from}
pub use Rattle.dbg_plan.specs.Retreat.{Stop, goal_of, last_due, reversed, stepped_back, stop_at}
pub use Rattle.dbg_plan.specs.declared.evaluation.EvalFault.{EvalFault}
pub use Rattle.dbg_plan.specs.declared.evaluation.EvalFault.TheVariants.{DivideByZero, Overflow}
pub use Rattle.dbg_plan.specs.declared.mode.Mode.{Mode}
pub use Rattle.dbg_plan.specs.declared.mode.Reason.{Reason}
pub use Rattle.dbg_plan.specs.declared.resolving.Resolution.{Resolution}
pub use Rattle.dbg_plan.specs.declared.resolving.Resolution.TheVariants.{At, BadCondition, BadHitCondition, BadLogMessage, NoStep}
pub use Rattle.dbg_runner.specs.Lawful.{EndsBy, GoesBackBy, IsLawfulReport, IsPassed, Went, WentBack, WentOn, faults, has_come, has_no_memory, is_due, is_spent, lacks_memory, logs_told, takes_all}
pub use Rattle.dbg_runner.specs.Plain.{Go, Heading, Hold, PlainOrder, PlainReport, Quit, goes_back, back_if, direction}
pub use Rattle.dbg_runner.specs.declared.outcome.SliceOutcome.{SliceOutcome}
pub use Rattle.pl0_meaning.specs.Laws.{FramesAreFew, WrittenJoins}
pub use Rattle.pl0_meaning.specs.Runs.{at, frame_limit, written}
pub use Rattle.pl0_meaning.specs.Values.{Configuration, Frame, next_step, value}
pub use Rattle.pl0_meaning.specs.declared.RunFault.{RunFault}
pub use Rattle.pl0_syntax.specs.Laws.{AtMostOne}
pub use Rattle.pl0_tree.specs.Blocks.{frame_name}
pub use Rattle.pl0_tree.specs.Faults.{IsTreeOf}
pub use Rattle.pl0_tree.specs.Scope.{Path}
pub use Rattle.pl0_tree.specs.Steps.{StepAt, steps}
pub use Rattle.pl0_tree.specs.Tree.{Block, Expression, Name}
pub use Rattle.std.proofs.Common.{Err, None, Ok, Option, Some, [], ap, append-nil, arith, cond, eqb-true, get_or, inl, inr, length, length-append, refl, subst, suc, sym, zero, ℕ, ⊎_elim, ◌++◌, ◌+◌, ◌-◌, ◌<◌, ◌^◌, ◌||◌, ◌∙◌, ◌∷◌, ◌≡◌, ◌≢◌, ◌≤◌, ◌⊎◌}
pub use Rattle.std.proofs.Math.Logic.{∥∥₁_elim}
pub use Rattle.std.proofs.Math.Seq.{drop-nil}
pub use Rattle.std.proofs.lemmas.Bool.{cases_lt}
pub use Rattle.std.proofs.lemmas.Grind.{flat_map-append}
pub use Rattle.std.proofs.lemmas.List.{map-append}
pub use Rattle.std.proofs.lemmas.List.Elements.{All-append, All-cons, All-nil, filter_map-append}
pub use Rattle.std.specs.List.{cons_option, filter_map, flat_map, range_with_len}
pub use Rattle.std.specs.Option.{option_map_or}
pub use Rattle.std.specs.Prelude.{All, IsSome, if◌then◌else◌, is_some, max, slice_get, string_bytes, unwrap_or}
