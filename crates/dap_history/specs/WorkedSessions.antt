-- Worked sessions, computed from the definitions: each line that ends in `refl` was checked by computing both of its
-- sides. For any program that doesn't stop at position 0: a session that is paused, one whose breakpoints change while
-- the program runs, and one that goes back. Then one that steps through a text; and what is refused.
use mathlib.Core.Path.{ap, subst}
use Rattle.std.specs.Prelude.{◌≡◌, ℕ, zero, suc, pos, true, false, List, [], ◌∷◌, ◌++◌, map, None, Some, Ok, Err, refl}
use Rattle.dap_msg.specs.declared.command.Command.{Command}
use Rattle.dap_msg.specs.declared.command.Command.TheVariants as command
use Rattle.dap_msg.specs.Commands.{name_of}
use Rattle.dap_msg.specs.declared.command.CommandName.TheVariants as name
use Rattle.dap_msg.specs.declared.command.Supported.TheVariants as supported
use Rattle.dap_msg.specs.declared.requests.resume.ResumeKind.TheVariants as resume
use Rattle.dap_msg.specs.declared.requests.resume.RetreatKind.TheVariants as retreat
use Rattle.dap_msg.specs.declared.outgoing.Outgoing.TheVariants.{Answer}
use Rattle.dap_msg.specs.declared.outgoing.Body.TheVariants as body
use Rattle.dap_msg.specs.declared.outgoing.EventBody.TheVariants as event
use Rattle.dap_msg.specs.declared.outgoing.StopReason.TheVariants as stop
use Rattle.dap_msg.specs.declared.outgoing.Refusal.TheVariants as refusal
use Rattle.dap_msg.specs.declared.question.Question.TheVariants as question
use Rattle.dap_msg.specs.declared.requests.launch.LaunchArguments.{LaunchArguments}
use Rattle.pl0_tree.specs.Tree.{Block}
use Rattle.pl0_tree.specs.declared.tree.Place.{Place}
use Rattle.pl0_tree.specs.declared.fault.FaultKind.TheVariants.{Expected, Twice, Unknown, TooEarly, WrongKind}
use Rattle.dbg_plan.specs.Breakpoints.{Breakpoint}
use Rattle.dbg_plan.specs.Due.{due}
use Rattle.dbg_plan.specs.declared.mode.Mode.TheVariants as mode
use Rattle.dbg_plan.specs.declared.mode.Reason.TheVariants as reason
use Rattle.dbg_runner.specs.Plain.{PlainReport, Go, Hold, Quit}
use Rattle.dbg_runner.specs.declared.outcome.SliceOutcome.{SliceOutcome}
use Rattle.dbg_runner.specs.declared.outcome.SliceOutcome.TheVariants as slice
use Rattle.dap_history.specs.declared.situation.Situation.{Situation}
use Rattle.dap_history.specs.declared.situation.Situation.TheVariants.{Fresh, Ready, Configuring, Running, Stopped, Faulted, Ended}
use Rattle.dap_history.specs.History.{Content, Loaded, Accepted, InputEnd, Step, History, Effect}
use Rattle.dap_history.specs.Readings.{from_one, situation, runs, position, reached, numbers_told, plan, waiting_plan, waiting_pause, is_held}
use Rattle.dap_history.specs.Replies.{Reply, nothing, answered, only_orders, refused}
use Rattle.dap_history.specs.Launching.{Launches, launches, syntax}
use Rattle.dap_history.specs.Breakpoints.{effect_in}
use Rattle.dap_history.specs.Reports.{Accepts, report_effect}
use Rattle.dap_history.specs.Reactions.{Reaction, reply_of}
use Rattle.dap_history.specs.Emission.{RepliesIn, Causes}
use Rattle.dap_history.specs.Transitions.{after_step, after_steps}
use Rattle.dap_history.specs.WorkedShown.{main as text_q}

abbrev IsZero : ℕ → Type 0
IsZero zero = Unit {0}
IsZero (suc n) = ⊥

-- the reply, where the table has this reaction alone
replied : {s : Situation} {past : History} {asked : Command} {reply : Reply} {this : Reaction}
    → (is : RepliesIn s past asked reply) → is.reaction ≡ this → reply ≡ reply_of past this
replied {past = past} {reply = reply} is only = subst (λ r. reply ≡ reply_of past r) only is.reply_is

abbrev taken : ℕ → Command → Reply → Step
taken seq asked reply =
    record {
      item = Content (Some (record { seq = seq; body = asked }));
      answer = Some (Answer seq (name_of asked) reply.result);
      effect = reply.effect;
    }

abbrev reported : PlainReport → Effect → Step
reported r effect = record { item = Accepted r; answer = None; effect = effect }

module _ (text : List ℕ) (program : Block) (path : List ℕ) (bs : List Breakpoint) where
  abbrev arguments : LaunchArguments
  arguments = record { program = path; stop_on_entry = false }

  -- initialize, launch, configurationDone, where position 0 isn't due
  abbrev begun : History
  begun =
      taken 1 (command.Initialize from_one) (answered body.Capabilities)
      ∷ record {
        item = Loaded (record { seq = 2; arguments = arguments }) (Some text);
        answer = Some
            (Answer 2 (name.Supported supported.Launch) (Ok body.None));
        effect = launches arguments text program;
      }
      ∷ []

  configuring : situation begun ≡ Configuring
  configuring = refl

  -- without breakpoints position 0 isn't due, and Go 1 is ordered
  configures : (reply : Reply) → RepliesIn (situation begun) begun command.ConfigurationDone reply
      → reply ≡ record {
        result = Ok body.None;
        effect = record nothing {
          orders = Go (record { run = 1; text = text; plan = []; counted_from = 0; mode = mode.Continue; start = 0 })
              ∷ [];
        };
      }
  configures reply is = replied is is.reacts

  abbrev running : History
  running =
      begun ++ taken 3 command.ConfigurationDone
      (record {
        result = Ok body.None;
        effect = record nothing {
          orders = Go (record { run = 1; text = text; plan = []; counted_from = 0; mode = mode.Continue; start = 0 })
              ∷ [];
        };
      }) ∷ []

  is_running : (situation running ≡ Running) × (runs running ≡ 1) × (position running ≡ 0) × (is_held running ≡ false)
      × (waiting_pause running ≡ false) × (waiting_plan running ≡ None)
  is_running = (refl, refl, refl, refl, refl, refl)

  -- a report of run 1 that goes on from 0 to 256, or is held at 256
  abbrev report : ℕ → ℕ → SliceOutcome → PlainReport
  report from to outcome =
      record {
        heading = record { run = 1; text = text; plan = []; counted_from = 0; mode = mode.Continue; start = from };
        end = to;
        numbers_before = 0;
        steps_rerun = 0;
        numbers = [];
        logs = [];
        outcome = outcome;
      }

  -- a report of this run is accepted
  accepted : Accepts running (report 0 256 slice.More)
  accepted = record { running = refl; run = _; run_is = refl; expected = refl }

  abbrev further : History
  further =
      running ++ reported (report 0 256 slice.More) (report_effect running (report 0 256 slice.More) slice.More) ∷ []

  -- the next one is expected at 256
  further_on : (position further ≡ 256) × (situation further ≡ Running) × (is_held further ≡ false)
  further_on = (refl, refl, refl)

  -- ---- a pause

  pauses : (reply : Reply) → RepliesIn (situation further) further (command.Pause (record { thread_id = 1 })) reply
      → reply ≡ record { result = Ok body.None; effect = record nothing { orders = Hold 1 ∷ [] } }
  pauses reply is = replied is is.reacts

  abbrev paused : History
  paused = further ++ taken 4 (command.Pause (record { thread_id = 1 }))
      (record { result = Ok body.None; effect = record nothing { orders = Hold 1 ∷ [] } }) ∷ []

  -- a second pause holds no more
  pauses_again : (reply : Reply) → RepliesIn (situation paused) paused (command.Pause (record { thread_id = 1 })) reply
      → reply ≡ answered body.None
  pauses_again reply is = replied is is.reacts

  stops_paused : report_effect paused (report 256 256 slice.Held) slice.Held ≡ record nothing
      { events = event.Stopped stop.Pause ∷ [] }
  stops_paused = refl

  -- ---- breakpoints

  waits : effect_in (situation further) further bs ≡ record nothing { waits = Some bs; orders = Hold 1 ∷ [] }
  waits = refl

  abbrev asked : History
  asked = further ++ record { item = Content None; answer = None; effect = effect_in Running further bs } ∷ []

  -- the run is held and goes on as run 2, whose breakpoints count from 257
  goes_on_held : report_effect asked (report 256 256 slice.Held) slice.Held
      ≡ record nothing {
        put_in = Some (record { breakpoints = bs; counted_from = 257 });
        orders = Go
            (record { run = 2; text = text; plan = bs; counted_from = 257; mode = mode.Continue; start = 256 }) ∷ [];
      }
  goes_on_held = refl

  abbrev again : History
  again = asked ++ reported (report 256 256 slice.Held) (report_effect asked (report 256 256 slice.Held) slice.Held)
      ∷ []

  is_again : (situation again ≡ Running) × (runs again ≡ 2) × (position again ≡ 256)
      × (plan again ≡ record { breakpoints = bs; counted_from = 257 }) × (waiting_plan again ≡ None)
      × (is_held again ≡ false)
  is_again = (refl, refl, refl, refl, refl, refl)

  -- ---- going back

  -- a run that stops at position 15, after one number
  abbrev forward : PlainReport
  forward =
      record {
        heading = record { run = 1; text = text; plan = []; counted_from = 0; mode = mode.Continue; start = 0 };
        end = 15;
        numbers_before = 0;
        steps_rerun = 0;
        numbers = pos 7 ∷ [];
        logs = [];
        outcome = slice.Due reason.Breakpoint;
      }

  abbrev stopped : History
  stopped = running ++ reported forward (report_effect running forward (slice.Due reason.Breakpoint)) ∷ []

  tells_one : report_effect running forward (slice.Due reason.Breakpoint) ≡ record nothing
      { events = event.Output (pos 7) ∷ event.Stopped stop.Breakpoint ∷ [] }
  tells_one = refl

  -- `reverseContinue` orders run 2 in the mode Reverse
  reverses : (reply : Reply) → RepliesIn (situation stopped) stopped
      (command.Retreat retreat.ReverseContinue (record { thread_id = 1 })) reply
      → reply ≡ record {
        result = Ok body.None;
        effect = record nothing {
          orders = Go (record { run = 2; text = text; plan = []; counted_from = 0; mode = mode.Reverse; start = 15 })
              ∷ [];
        };
      }
  reverses reply is = replied is is.reacts

  abbrev going_back : History
  going_back =
      stopped ++ taken 5 (command.Retreat retreat.ReverseContinue (record { thread_id = 1 }))
      (record {
        result = Ok body.None;
        effect = record nothing {
          orders = Go (record { run = 2; text = text; plan = []; counted_from = 0; mode = mode.Reverse; start = 15 })
              ∷ [];
        };
      }) ∷ []

  -- a pause and breakpoints hold nothing there
  pauses_not : (reply : Reply) → RepliesIn (situation going_back) going_back (command.Pause (record { thread_id = 1 }))
      reply → reply ≡ answered body.None
  pauses_not reply is = replied is is.reacts

  waits_alone : effect_in (situation going_back) going_back bs ≡ record nothing { waits = Some bs }
  waits_alone = refl

  abbrev backward : ℕ → ℕ → SliceOutcome → PlainReport
  backward to again outcome =
      record {
        heading = record { run = 2; text = text; plan = []; counted_from = 0; mode = mode.Reverse; start = 15 };
        end = to;
        numbers_before = 1;
        steps_rerun = again;
        numbers = [];
        logs = [];
        outcome = outcome;
      }

  -- at its stop the plan counts anew
  stops_back : report_effect going_back (backward 10 24 (slice.Due reason.Breakpoint)) (slice.Due reason.Breakpoint)
      ≡ record nothing {
        events = event.Stopped stop.Breakpoint
            ∷ [];
        put_in = Some (record { breakpoints = []; counted_from = 11 });
      }
  stops_back = refl

  abbrev back : History
  back = going_back ++ reported (backward 10 24 (slice.Due reason.Breakpoint))
      (report_effect going_back (backward 10 24 (slice.Due reason.Breakpoint)) (slice.Due reason.Breakpoint)) ∷ []

  is_back_there : (position back ≡ 10) × (reached back ≡ 15) × (numbers_told back ≡ 1)
      × (plan back ≡ record { breakpoints = []; counted_from = 11 })
  is_back_there = (refl, refl, refl, refl)

  -- what was told isn't told again
  abbrev once_more : PlainReport
  once_more =
      record {
        heading = record { run = 3; text = text; plan = []; counted_from = 11; mode = mode.Continue; start = 10 };
        end = 20;
        numbers_before = 0;
        steps_rerun = 0;
        numbers = pos 7 ∷ pos 8 ∷ [];
        logs = [];
        outcome = slice.Done;
      }

  tells_the_rest : report_effect back once_more slice.Done ≡ record nothing
      { events = event.Output (pos 8) ∷ event.Exited 0 ∷ event.Terminated ∷ [] }
  tells_the_rest = refl

  -- ---- situations, by the table of transitions

  leads_there : (after_steps Fresh begun ≡ Configuring) × (after_steps Fresh running ≡ Running)
      × (after_steps Fresh again ≡ Running) × (after_steps Fresh stopped ≡ Stopped)
      × (after_steps Fresh going_back ≡ Running) × (after_steps Fresh back ≡ Stopped)
  leads_there = (refl, refl, refl, refl, refl, refl)

  -- a pause that is granted keeps Running; then the report of the held run leads to Stopped
  pauses_there : (after_steps Fresh paused ≡ Running) × (after_step Running (reported (report 256 256 slice.Held)
      (report_effect paused (report 256 256 slice.Held) slice.Held)) ≡ Stopped)
  pauses_there = (refl, refl)

  abbrev continues : Command
  continues = command.Resume resume.Continue (record { thread_id = 1 })

  -- `continue` is refused in Running, and before a fault it ends the program
  refused_there : (reply : Reply) → RepliesIn Running again continues reply
      → after_step Running (taken 6 continues reply) ≡ Running
  refused_there reply is = ap (λ (r : Reply). after_step Running (taken 6 continues r)) (replied is is.reacts)

  ends_there : (reply : Reply) → RepliesIn Faulted again continues reply
      → after_step Faulted (taken 6 continues reply) ≡ Ended
  ends_there reply is = ap (λ (r : Reply). after_step Faulted (taken 6 continues r)) (replied is is.reacts)

  -- ---- while the program runs

  -- a question is refused
  refused_running : (reply : Reply) → RepliesIn (situation running) running
      (command.Inspect (question.StackTrace (record { thread_id = 1; start_frame = 0; levels = 0 }))) reply
      → reply ≡ refused refusal.NotStopped
  refused_running reply is = replied is is.reacts

  -- a report that comes twice is not accepted again: the next one is expected where the first ended
  not_twice : ¬ Accepts further (report 0 256 slice.More)
  not_twice accepts = subst IsZero (ap (λ h. h.start) accepts.expected) tt

  -- the end of the input tells nothing, and orders Quit
  ends_running : (step : Step) → Causes running InputEnd step
      → (step.answer ≡ None) × (step.effect ≡ only_orders (Quit ∷ []))
  ends_running step is = (is.answer_is, is.effect_is)

-- ---- a session that steps through the text of `WorkedShown`, with `stopOnEntry`

module _ (text path : List ℕ) where
  abbrev on_entry : History
  on_entry =
      taken 1 (command.Initialize from_one) (answered body.Capabilities)
      ∷ record {
        item = Loaded (record { seq = 2; arguments = record { program = path; stop_on_entry = true } }) (Some text);
        answer = Some
            (Answer 2 (name.Supported supported.Launch) (Ok body.None));
        effect = launches (record { program = path; stop_on_entry = true }) text text_q;
      }
      ∷ []

  abbrev entering : Reply
  entering = record { result = Ok body.None; effect = record nothing { events = event.Stopped stop.Entry ∷ [] } }

  -- the program stops at position 0, and no run is ordered
  enters : (reply : Reply) → RepliesIn (situation on_entry) on_entry command.ConfigurationDone reply
      → reply ≡ entering
  enters reply is = replied is is.reacts

  abbrev entered : History
  entered = on_entry ++ taken 3 command.ConfigurationDone entering ∷ []

  -- `next` orders run 1, in which one frame may be alive
  steps : (reply : Reply) → RepliesIn (situation entered) entered
      (command.Resume resume.Next (record { thread_id = 1 })) reply
      → reply ≡ record {
        result = Ok body.None;
        effect = record nothing {
          orders = Go (record { run = 1; text = text; plan = []; counted_from = 0; mode = mode.Over 1; start = 0 })
              ∷ [];
        };
      }
  steps reply is = replied is is.reacts

-- it stops at position 1, where one frame is alive
steps_once : due text_q [] 0 (mode.Over 1) 1 ≡ Some reason.Step
steps_once = refl

-- at line 7, whose step is 2
abbrev at_seven : Breakpoint
at_seven = record { step = 2; condition = None; rule = None; message = None }

-- the second `next` stops at position 2, at the breakpoint; without it only at 19, after the call
steps_to_line_7 : due text_q (at_seven ∷ []) 0 (mode.Over 1) 2 ≡ Some reason.Breakpoint
steps_to_line_7 = refl

steps_over : map (due text_q [] 0 (mode.Over 1)) (2 ∷ 3 ∷ 6 ∷ 10 ∷ 14 ∷ 18 ∷ 19 ∷ []) ≡
    None ∷ None ∷ None ∷ None ∷ None ∷ None ∷ Some reason.Step ∷ []
steps_over = refl

-- from position 10, where four frames are alive, `stepOut` stops at 12
steps_out : map (due text_q [] 0 (mode.Out 4)) (11 ∷ 12 ∷ []) ≡ None ∷ Some reason.Step ∷ []
steps_out = refl

-- in the main program it stops nowhere
steps_out_of_main : map (due text_q [] 0 (mode.Out 1)) (2 ∷ 10 ∷ 18 ∷ 19 ∷ []) ≡ None ∷ None ∷ None ∷ None ∷ []
steps_out_of_main = refl

-- ---- launches that are refused

abbrev place : ℕ → ℕ → Place
place line column = record { line = line; column = column }

-- A text with such a first fault is refused so. Tests have a text for each: `x := 1.`, `var x; x := 1`,
-- `procedure p; call q; procedure q; ; call p.`, `var x; call x.` and `const a = 1, a = 2; .`.
syntax_refusals : map (λ (kind, p). syntax kind p) ((Unknown, place 1 1) ∷ (Expected, place 1 14)
    ∷ (TooEarly, place 1 19) ∷ (WrongKind, place 1 13) ∷ (Twice, place 1 14) ∷ []) ≡
    refusal.Syntax 10 1 1 ∷ refusal.Syntax 6 1 14 ∷ refusal.Syntax 11 1 19 ∷ refusal.Syntax 12 1 13
    ∷ refusal.Syntax 9 1 14 ∷ []
syntax_refusals = refl

-- where there is no file, the launch is refused, and the situation stays Ready, so a further launch may follow
no_file : (these : LaunchArguments) (reply : Reply) → Launches these None reply
    → reply ≡ refused refusal.CannotRead
no_file these reply is = is

stays_ready : (these : LaunchArguments) → after_step Ready (record {
  item = Loaded (record { seq = 2; arguments = these }) None;
  answer = Some (Answer 2 (name.Supported supported.Launch) (Err refusal.CannotRead));
  effect = nothing;
}) ≡ Ready
stays_ready these = refl
