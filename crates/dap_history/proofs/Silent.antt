-- No reply reports a number or launches a program but that of a launch, and each Go of a reply is of the launched text.
use Rattle.dap_history.proofs.Common.{Body, Breakpoint, Command, CommandName, Configuring, Effect, Ended, Event, EventBody, Fresh, Heading, History, Hold, Launched, Log, Mode, None, Option, Quit, Reaction, Ready, Reason, RepliesIn, Reply, Running, Situation, Some, StopReason, [], answered, ap, append-nil, due_first, effect_in, enters, exited_events, filter_map, first_logs, go, if◌then◌else◌, is_back, last_such, launched, name_of, nothing, only_orders, output, plan, refl, reply_of, resumes, runs, situation, starts_by, stop_of, stop_of_event, stopped_events, sym, ◌++◌, ◌+◌, ◌||◌, ◌∙◌, ◌∷◌, ◌≡◌}
use Rattle.std.proofs.Common.{List, Bool, true, false}
use Rattle.std.specs.Prelude.{map}
use Rattle.dap_msg.specs.declared.command.Command.TheVariants as command
use Rattle.dap_msg.specs.declared.outgoing.Outgoing.TheVariants.{Answer}
use Rattle.dbg_plan.specs.Logs.{logs as position_logs}
use Rattle.dap_history.specs.Readings.{is_held, position}
use Rattle.dap_history.specs.Replies.{only_events}
use Rattle.dap_history.proofs.Reacted.{IsCalm, Reacted, by_refusing, by_answering, by_setting, by_starting, by_resuming, by_ending, by_retreating, by_interrupting, by_closing, by_reaction}
use Rattle.dap_history.proofs.Told.{numbers_in, texts_in, numbers_of_logs, stop_of_logs}

-- the runs ordered are of the launched text
pub data GoesBy (past : History) : Option Heading → Type 0 where
  no_go : GoesBy past None
  of_text : (run : Heading) (l : Launched) → launched past ≡ Some l → run.text ≡ l.text → run.start ≡ position past
      → GoesBy past (Some run)

-- what position 0 logs
abbrev pub first_at : History → Launched → List Log
first_at past l = position_logs l.program (plan past).breakpoints (plan past).counted_from 0

-- a reply stops the program at position 0 alone, in Configuring, where it is due
pub data StopsBy (s : Situation) (past : History) : Option StopReason → Type 0 where
  no_stop : StopsBy s past None
  at_first : (l : Launched) (r : Reason) → s ≡ Configuring → launched past ≡ Some l → due_first past l ≡ Some r
      → StopsBy s past (Some (stop_of r))

-- at most one run is ordered, the next one
pub data NextRuns (past : History) : List Heading → Type 0 where
  no_runs : NextRuns past []
  next_run : (run : Heading) → run.run ≡ runs past + 1 → NextRuns past (run ∷ [])

-- a reply logs what position 0 logs, in Configuring, where it starts the program
pub data LogsBy (s : Situation) (past : History) (events : List EventBody) : Bool → Type 0 where
  no_logs : texts_in events ≡ [] → LogsBy s past events false
  logs_first : (l : Launched) (more : List EventBody) → s ≡ Configuring → launched past ≡ Some l
      → events ≡ first_logs past l ++ more → texts_in more ≡ [] → LogsBy s past events true

pub record IsSilent (starts : Bool) (s : Situation) (past : History) (effect : Effect) : Type 0 where
  pub no_numbers : filter_map output (map Event effect.events) ≡ []
  pub no_launch : effect.launched ≡ None
  pub goes : GoesBy past (last_such go effect.orders)
  pub runs_are : NextRuns past (filter_map go effect.orders)
  pub stops : StopsBy s past (last_such stop_of_event effect.events)
  pub logs : LogsBy s past effect.events starts

pub nothing_silent : {s : Situation} (past : History) → IsSilent false s past nothing
nothing_silent past =
    record {
      no_numbers = refl;
      no_launch = refl;
      goes = no_go;
      runs_are = no_runs;
      stops = no_stop;
      logs = no_logs
          refl;
    }

hold_silent : {s : Situation} (past : History) (held : Bool)
    → IsSilent false s past (only_orders (if held then [] else Hold (runs past) ∷ []))
hold_silent past true = nothing_silent past
hold_silent past false =
    record {
      no_numbers = refl;
      no_launch = refl;
      goes = no_go;
      runs_are = no_runs;
      stops = no_stop;
      logs = no_logs
          refl;
    }

resumes_silent : {s : Situation} (past : History) (l : Launched) (m : Mode) → launched past ≡ Some l
    → IsSilent false s past (only_orders (resumes past l m))
resumes_silent past l m there =
    record {
      no_numbers = refl;
      no_launch = refl;
      goes = of_text _ l there refl refl;
      runs_are = next_run _ refl;
      stops = no_stop;
      logs = no_logs refl;
    }

over_silent : {s : Situation} (past : History) → IsSilent false s past (only_events (exited_events 1))
over_silent past =
    record {
      no_numbers = refl;
      no_launch = refl;
      goes = no_go;
      runs_are = no_runs;
      stops = no_stop;
      logs = no_logs
          refl;
    }

pub quit_silent : {s : Situation} (past : History) → IsSilent false s past (only_orders (Quit ∷ []))
quit_silent past =
    record {
      no_numbers = refl;
      no_launch = refl;
      goes = no_go;
      runs_are = no_runs;
      stops = no_stop;
      logs = no_logs
          refl;
    }

-- breakpoints that are put in or wait report nothing, and a Hold is no run
effect_silent : {t : Situation} (s : Situation) (past : History) (bs : List Breakpoint)
    → IsSilent false t past (effect_in s past bs)
effect_silent {t = t} Running past bs =
    let held = hold_silent {s = t} past (is_held past || is_back past) in record {
      no_numbers = refl;
      no_launch = refl;
      goes = held.goes;
      runs_are = held.runs_are;
      stops = no_stop;
      logs = no_logs refl;
    }
effect_silent Ended past bs = nothing_silent past
effect_silent Fresh past bs = nothing_silent past
effect_silent Ready past bs = nothing_silent past
effect_silent _ past bs =
    record {
      no_numbers = refl;
      no_launch = refl;
      goes = no_go;
      runs_are = no_runs;
      stops = no_stop;
      logs = no_logs
          refl;
    }

enters_silent : (past : History) (l : Launched) (why : Option Reason) → launched past ≡ Some l → due_first past l ≡ why
    → IsSilent true Configuring past (enters past l why)
enters_silent past l None is due_is =
    let bs = (plan past).breakpoints in
    let alone : first_logs past l ++ [] ≡ first_logs past l = append-nil (first_logs past l) in
    record {
      no_numbers = ap numbers_in (sym alone) ∙ numbers_of_logs bs (first_at past l) [];
      no_launch = refl;
      goes =
          of_text _ l is refl refl;
      runs_are = next_run _ refl;
      stops = rw (ap (last_such stop_of_event) (sym alone) ∙
          stop_of_logs bs (first_at past l) []) no_stop;
      logs = logs_first l [] refl is (sym alone) refl;
    }
enters_silent past l (Some r) is due_is =
    let bs = (plan past).breakpoints in
    record {
      no_numbers = numbers_of_logs bs (first_at past l) _;
      no_launch = refl;
      goes = no_go;
      runs_are = no_runs;
      stops = rw (stop_of_logs bs (first_at past l) _) (at_first l r refl is due_is);
      logs = logs_first l (stopped_events
          (stop_of r)) refl is refl refl;
    }

-- of a reply to `configurationDone` or to another command
abbrev SilentReply : CommandName → Situation → History → Reply → Type 0
SilentReply command s past reply = IsSilent (starts_by (Some (Answer 0 command reply.result))) s past reply.effect

calm_silent : (past : History) (s : Situation) (asked : Command) (b : Body) → IsCalm past s asked b
    → SilentReply (name_of asked) s past (answered b)
calm_silent past s (command.Pause a) b calm = nothing_silent past
calm_silent past s (command.SetBreakpoints a) b calm = nothing_silent past
calm_silent past s (command.Initialize a) b calm = nothing_silent past
calm_silent past s command.Threads b calm = nothing_silent past
calm_silent past s (command.Inspect q) b calm = nothing_silent past
calm_silent past s _ b calm = absurd calm

reaction_silent : (past : History) {s : Situation} {asked : Command} {reaction : Reaction}
    → Reacted past s asked reaction → SilentReply (name_of asked) s past (reply_of past reaction)
reaction_silent past (by_refusing s asked why) = nothing_silent past
reaction_silent past (by_answering s asked b calm) = calm_silent past s asked b calm
reaction_silent past (by_setting s a l found bs there path_is resolved) = effect_silent (situation past) past bs
reaction_silent past (by_starting l there) = enters_silent past l (due_first past l) there refl
reaction_silent past (by_resuming kind a l there) = resumes_silent past l _ there
reaction_silent past (by_ending kind a) = over_silent past
reaction_silent past (by_retreating s kind a l stands there) = resumes_silent past l _ there
reaction_silent past (by_interrupting a) = hold_silent past (is_held past || is_back past)
reaction_silent past (by_closing s) = quit_silent past

pub all_silent : (s : Situation) (past : History) (asked : Command) (reply : Reply) → RepliesIn s past asked reply
    → SilentReply (name_of asked) s past reply
all_silent s past asked reply is =
    by_reaction (SilentReply (name_of asked) s past) (λ reaction. reaction_silent past) is
