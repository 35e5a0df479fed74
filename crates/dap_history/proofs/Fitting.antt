-- The numbers of a history's messages fit in 64 bits.
use Rattle.dap_history.proofs.Common.{Dialect, All, All-cons, All-nil, Answers, At, Block, Body, Breakpoint, Causes, Command, CommandName, Configuration, Content, Counting, Effect, Err, EvaluatesIn, Event, EventBody, Frame, FramesAreFew, HasEffect, History, Incoming, IsHistoryOf, Item, LaunchArguments, Launched, Launches, Loaded, Log, None, OfProgram, Ok, Option, Outgoing, PlainReport, Question, Reaction, Reason, Refusal, RepliesAt, RepliesFrom, RepliesIn, Reply, Resolution, Rest, ResumeKind, Scope, Situation, SliceOutcome, Some, Step, StepAt, Subject, [], answer_to_line, answered, ap, arith, at, at_most, body_of, cond, due_first, effect_in, enters, eqb-true, frame_limit, held_effect, launched, length, log_events, messages, messages_of, nothing, option_map_or, or_else, other_source, outputs, refl, refused, reply_of, report_effect, scopes, scopes_from, shown_column, shown_frame, shown_frames, shown_line, slice_get, subject_in, subst, suc, sym, with_answer, zero, ℕ, ◌++◌, ◌+◌, ◌-◌, ◌<◌, ◌^◌, ◌∷◌, ◌≡◌, ◌≤◌}
use Rattle.std.proofs.Common.{Bool, nat_eq, List, map, option_map, Result, ℤ}
use Rattle.std.proofs.lemmas.List.Elements.{All-take, All-drop, All-map}
use Rattle.dap_msg.specs.declared.question.Question.TheVariants as question
use Rattle.dap_msg.specs.declared.command.Command.TheVariants as command
use Rattle.dap_msg.specs.declared.outgoing.Body.TheVariants as body
use Rattle.dap_msg.specs.declared.outgoing.EventBody.TheVariants as event
use Rattle.dap_msg.specs.declared.outgoing.StackFrame.{StackFrame}
use Rattle.dap_msg.specs.declared.requests.stack_trace.StackTraceArguments.{StackTraceArguments}
use Rattle.dap_msg.specs.Laws.{LineFits, BodyFits, ResultFits, NumbersFit}
use Rattle.dap_msg.specs.Questions.{ShownFits}
use Rattle.dap_msg.specs.Scopes.{ReferenceFits}
use Rattle.dap_msg.specs.StackTrace.{FrameFits}
use Rattle.dap_msg.specs.declared.question.Shown.{Shown}
use Rattle.std.specs.Prelude.{if◌then◌else◌}
use Rattle.dap_history.specs.Readings.{position}
use Rattle.dap_history.specs.Inspection.{stack_trace, variables}
use Rattle.dap_history.proofs.Readings.{launched-snoc, messages_of-snoc}
use Rattle.dap_history.proofs.Along.{IsKept, any_events, along}
use Rattle.dap_history.proofs.Silent.{all_silent}
use Rattle.dap_history.proofs.Outputs.{report_launches}
use Rattle.dap_history.proofs.Places.{most, BlockNear, read_near, MayBeNear, program_step_near, FramesNear, frames_near, next_step_near}
use Rattle.dap_history.proofs.Reacted.{IsCalm, Reacted, by_refusing, by_answering, by_setting, by_starting, by_resuming, by_ending, by_reaction}
use Rattle.std.proofs.lemmas.Grind.{common_steps}

-- ---- messages one after another

abbrev pub MessagesFit : List Outgoing → Type 0
MessagesFit [] = Unit {0}
MessagesFit (m ∷ ms) = NumbersFit m × MessagesFit ms

messages_fit-append : (ms ns : List Outgoing) → MessagesFit ms → MessagesFit ns → MessagesFit (ms ++ ns)
messages_fit-append [] ns a b = b
messages_fit-append (m ∷ ms) ns a b = (a.0, messages_fit-append ms ns a.1 b)

pub message_fits : (ms : List Outgoing) (n : ℕ) (m : Outgoing) → MessagesFit ms → slice_get ms n ≡ Some m → NumbersFit m
message_fits (x ∷ ms) (suc n) m fits is = message_fits ms n m fits.1 is
message_fits ms n m fits is = grind (arith, common_steps) steps 200000

abbrev EventsFit : List EventBody → Type 0
EventsFit es = MessagesFit (map Event es)

events_fit-append : (es fs : List EventBody) → EventsFit es → EventsFit fs → EventsFit (es ++ fs)
events_fit-append [] fs a b = b
events_fit-append (e ∷ es) fs a b = (a.0, events_fit-append es fs a.1 b)

logs_fit : (bs : List Breakpoint) (ls : List Log) → EventsFit (log_events bs ls)
logs_fit bs [] = tt
logs_fit bs (l ∷ ls) = (tt, logs_fit bs ls)

-- what a reply says fits, and what it reports
record ReplyFits (reply : Reply) : Type 0 where
  result : ResultFits reply.result
  events : EventsFit reply.effect.events

fits_if : (reply other : Reply) → ReplyFits other → reply ≡ other → ReplyFits reply
fits_if reply other fits is = subst ReplyFits (sym is) fits

refused_fits : (why : Refusal) → ReplyFits (refused why)
refused_fits why = record { result = tt; events = tt }

-- what the answer to a question says fits
abbrev AnswerFits : Result Shown Refusal → Type 0
AnswerFits (Ok b) = ShownFits b
AnswerFits (Err why) = Unit {0}

thread_fits : (known : Bool) (b : Shown) (why : Refusal) → ShownFits b → AnswerFits (if known then Ok b else Err why)
thread_fits known b why fits = grind (arith, common_steps) steps 200000

-- ---- lines, frames and scopes

near_small : (n : ℕ) → n ≤ most → n < 2 ^ 64
near_small n is = omega arith

line_small : (less : ℕ) (o : Option StepAt) → MayBeNear o → option_map_or (λ s. s.place.line) o 0 - less < 2 ^ 64
line_small less o near = grind (arith, common_steps) steps 200000

place_line_small : (counting : Counting) (o : Option StepAt) → MayBeNear o
    → shown_line counting (option_map (λ s. s.place) o) < 2 ^ 64
place_line_small counting o near = grind (arith, common_steps) steps 200000

place_column_small : (counting : Counting) (o : Option StepAt) → MayBeNear o
    → shown_column counting (option_map (λ s. s.place) o) < 2 ^ 64
place_column_small counting o near = grind (arith, common_steps) steps 200000

scopes_if : (b : Bool) (n i : ℕ) (word : List ℕ) (rest other : List Scope) → nat_eq n i ≡ b → n < frame_limit
    → All ReferenceFits rest → All ReferenceFits other
    → All ReferenceFits (cond b (record { name = word; reference = i + 1 } ∷ rest) other)
scopes_if b n i word rest other is few near far = grind (arith, common_steps, eqb-true, All-cons) steps 200000

scopes_fit : (main : Block) (c : Configuration) (i : ℕ) → length c ≤ frame_limit
    → All ReferenceFits (scopes_from main c i)
scopes_fit main [] i few = All-nil ReferenceFits
scopes_fit main (f ∷ below) i few =
    let less : length below ≤ frame_limit = omega (arith, few) in
    scopes_if _ _ i _ _ _ refl (omega (arith, few)) (scopes_fit main below f.link less) (scopes_fit main below i less)

module _ (main : Block) (near : BlockNear main) where
  answers_fit : (less : ℕ) (answers : List Resolution) → All LineFits (map (answer_to_line main less) answers)
  answers_fit less answers = All-map LineFits (answer_to_line main less) answers (λ k d lt. one_fits _)
    where
      one_fits : (r : Resolution) → LineFits (answer_to_line main less r)
      one_fits (At n) = line_small less _ (program_step_near main n near)
      one_fits _ = tt

  shown_fit : (counting : Counting) (c : Configuration) → FramesNear c → length c ≤ frame_limit
      → All FrameFits (shown_frames main counting c)
  shown_fit counting [] frames few = All-nil FrameFits
  shown_fit counting (f ∷ below) frames few =
      let less : length below ≤ frame_limit = omega (arith, few) in
      let there = next_step_near main near f frames.0 in
      All-cons FrameFits (shown_frame main counting f (length below + 1)) _ (
        omega (arith, few),
        place_line_small
            counting _ there,
        place_column_small counting _ there,
      ) (shown_fit counting below frames.1 less)

at_most_fit : (n : ℕ) (frames : List StackFrame) → All FrameFits frames → All FrameFits (at_most n frames)
at_most_fit zero frames fit = fit
at_most_fit (suc n) frames fit = All-take FrameFits (suc n) frames fit

-- ---- what is taken

-- the seq of the item's request is one of 64 bits
abbrev pub ItemFits : Item → Type 0
ItemFits (Content (Some request)) = request.seq < 2 ^ 64
ItemFits (Loaded launch file) = launch.seq < 2 ^ 64
ItemFits _ = Unit {0}

abbrev pub ItemsFit : History → Type 0
ItemsFit [] = Unit {0}
ItemsFit (step ∷ past) = ItemFits step.item × ItemsFit past

-- ---- replies

module _ (few : FramesAreFew) where
  stack_fits : (of : Subject) (asked : StackTraceArguments) (n : ℕ) (c : Configuration) → BlockNear of.program
      → at of.program n ≡ Some c → AnswerFits (stack_trace of asked c)
  stack_fits of asked n c near is =
      let less = few of.program n c is in
      let shown = shown_fit of.program near of.counting c (frames_near of.program near n c is) less in
      thread_fits _ _ _ (at_most_fit asked.levels _ (All-drop FrameFits asked.start_frame _ shown), omega (arith, less))

  scopes_answer_fits : (of : Subject) (id n : ℕ) (c : Configuration) (f : Option Frame) → at of.program n ≡ Some c
      → AnswerFits (scopes of id c f)
  scopes_answer_fits of id n c f is = grind (arith, common_steps, scopes_fit) steps 200000

  variables_fit : (of : Subject) (f : Option Frame) → AnswerFits (variables of f)
  variables_fit of f = grind (arith, common_steps) steps 200000

  answer_if : (b other : Result Shown Refusal) → AnswerFits other → b ≡ other → AnswerFits b
  answer_if b other fits is = subst AnswerFits (sym is) fits

  evaluates_fit : (main : Block) (c : Configuration) (id : ℕ) (f : Option Frame) (text : List ℕ)
      (b : Result Shown Refusal) → EvaluatesIn main c id f text b → AnswerFits b
  evaluates_fit main c id f text b is = grind (arith, common_steps) steps 200000

  answers_fit_at : (of : Subject) (n : ℕ) (c : Configuration) (question : Question) (b : Result Shown Refusal)
      → BlockNear of.program → at of.program n ≡ Some c → RepliesFrom of c question b → AnswerFits b
  answers_fit_at of n c (question.StackTrace a) b near is says = answer_if b _ (stack_fits of a n c near is) says
  answers_fit_at of n c question b near is says =
      grind (arith, common_steps, answer_if, stack_fits, scopes_answer_fits, variables_fit, evaluates_fit) steps 200000

  replies_at_fit : (of : Subject) (n : ℕ) (o : Option Configuration) (question : Question) (b : Result Shown Refusal)
      → BlockNear of.program → at of.program n ≡ o → RepliesAt of o question b → AnswerFits b
  replies_at_fit of n o question b near is says = grind (arith, common_steps, answers_fit_at) steps 200000

  abbrev LaunchedNear : Option Launched → Type 0
  LaunchedNear None = Unit {0}
  LaunchedNear (Some l) = BlockNear l.program

  inspects_fit : (l : Option Launched) (past : History) (question : Question) (b : Result Shown Refusal)
      → LaunchedNear l → OfProgram l (λ l. RepliesAt (subject_in past l) (at l.program (position past)) question b)
      → AnswerFits b
  inspects_fit None past question b near says = absurd says
  inspects_fit (Some l) past question b near says =
      replies_at_fit (subject_in past l) (position past) (at l.program (position past)) question b near refl says

  effect_fits : (s : Situation) (past : History) (bs : List Breakpoint) → EventsFit (effect_in s past bs).events
  effect_fits s past bs = grind (arith, common_steps) steps 200000

  enters_fit : (past : History) (l : Launched) (why : Option Reason) → EventsFit (enters past l why).events
  enters_fit past l why = grind (arith, common_steps, logs_fit, events_fit-append) steps 200000

  resume_kind_fits : (resume_kind : ResumeKind) → BodyFits (body_of resume_kind)
  resume_kind_fits resume_kind = grind (arith, common_steps) steps 200000

  launched_near : (past : History) (l : Launched) → launched past ≡ Some l → LaunchedNear (launched past)
      → BlockNear l.program
  launched_near past l there near = subst LaunchedNear there near

  calm_fits : (past : History) (s : Situation) (asked : Command) (b : Body) → LaunchedNear (launched past)
      → IsCalm past s asked b → ReplyFits (answered b)
  calm_fits past s (command.SetBreakpoints a) b near calm =
      fits_if (answered b) (answered (body.Breakpoints (other_source a.breakpoints)))
      (record { result = All-map LineFits _ a.breakpoints (λ k d lt. tt); events = tt }) (ap answered calm.3)
  calm_fits past s asked b near calm = grind (arith, common_steps, fits_if, inspects_fit) steps 200000

  reaction_fits : (past : History) {s : Situation} {asked : Command} {reaction : Reaction}
      → LaunchedNear (launched past) → Reacted past s asked reaction → ReplyFits (reply_of past reaction)
  reaction_fits past near (by_refusing s asked why) = refused_fits why
  reaction_fits past near (by_answering s asked b calm) = calm_fits past s asked b near calm
  reaction_fits past near (by_setting s a l found bs there path_is resolved) =
      record {
        result = answers_fit l.program (launched_near past l there near) _ found;
        events = effect_fits _ past bs;
      }
  reaction_fits past near (by_starting l there) = record { result = tt; events = enters_fit past l (due_first past l) }
  reaction_fits past near (by_resuming kind a l there) = record { result = resume_kind_fits kind; events = tt }
  reaction_fits past near (by_ending kind a) = grind (arith, common_steps, resume_kind_fits, near_small) steps 1500000
  reaction_fits past near _ = record { result = tt; events = tt }

  command_fits : (s : Situation) (past : History) (asked : Command) (reply : Reply) → LaunchedNear (launched past)
      → RepliesIn s past asked reply → ReplyFits reply
  command_fits s past asked reply near says =
      by_reaction ReplyFits (λ reaction reacted. reaction_fits past near reacted) says

  launch_fits : (arguments : LaunchArguments) (file : Option (List ℕ)) (reply : Reply) → Launches arguments file reply
      → ReplyFits reply
  launch_fits arguments file reply says = grind (arith, common_steps, fits_if, refused_fits) steps 200000

  -- ---- reports

  numbers_fit : (vs : List ℤ) → EventsFit (map event.Output vs)
  numbers_fit [] = tt
  numbers_fit (v ∷ vs) = (tt, numbers_fit vs)

  outputs_fit : (past : History) (r : PlainReport) → EventsFit (outputs past r)
  outputs_fit past r = events_fit-append (map event.Output _) (log_events r.plan r.logs) (numbers_fit _) (logs_fit _ _)

  held_fits : (past : History) (r : PlainReport) (pauses : Bool) → EventsFit (held_effect past r pauses).events
  held_fits past r pauses = grind (arith, common_steps, events_fit-append, outputs_fit) steps 200000

  report_fits : (past : History) (r : PlainReport) (o : SliceOutcome) → EventsFit (report_effect past r o).events
  report_fits past r o = grind (arith, common_steps, outputs_fit, events_fit-append, held_fits, near_small) steps 200000

  -- ---- steps

  effect_step : (step : Step) (effect : Effect) → HasEffect effect step → EventsFit effect.events
      → MessagesFit (messages step)
  effect_step step effect has fit = grind (arith, common_steps, with_answer, map) steps 1500000

  answer_step : (step : Step) (seq : ℕ) (command : CommandName) (reply : Reply) → Answers seq command reply step
      → seq < 2 ^ 64 → ReplyFits reply → MessagesFit (messages step)
  answer_step step seq command reply answers small fit = grind (arith, common_steps, with_answer, map) steps 1500000

  step_fits : (past : History) (item : Item) (step : Step) → LaunchedNear (launched past) → ItemFits item
      → Causes past item step → MessagesFit (messages step)
  step_fits past (Content (Some request)) step near small causes =
      answer_step step request.seq _ causes.0 causes.2 small (command_fits _ past request.body causes.0 near causes.1)
  step_fits past item step near small causes =
      grind (arith, common_steps, answer_step, launch_fits, effect_step, report_fits, nothing) steps 200000

  -- ---- what is launched

  later_near : (o before : Option Launched) → LaunchedNear o → LaunchedNear before → LaunchedNear (or_else o before)
  later_near o before a b = grind (arith, common_steps) steps 200000

  none_near : (o : Option Launched) → o ≡ None → LaunchedNear o
  none_near o is = subst LaunchedNear (sym is) tt

  launch_near : (arguments : LaunchArguments) (file : Option (List ℕ)) (reply : Reply) → Launches arguments file reply
      → LaunchedNear reply.effect.launched
  launch_near arguments file reply says = grind (arith, common_steps, none_near, read_near) steps 200000

  step_launches_near : (past : History) (item : Item) (step : Step) → Causes past item step
      → LaunchedNear step.effect.launched
  step_launches_near past (Content (Some request)) step causes =
      grind (arith, common_steps, none_near, all_silent) steps 1500000
  step_launches_near past item step causes =
      grind (arith, common_steps, launch_near, none_near, report_launches) steps 200000

  -- ---- histories

  items_apart : (past : History) (step : Step) → ItemsFit (past ++ step ∷ []) → ItemsFit past × ItemFits step.item
  items_apart [] step fit = (tt, fit.0)
  items_apart (s ∷ past) step fit = let rest = items_apart past step fit.1 in ((fit.0, rest.0), rest.1)

  record Fitting (past : History) : Type 0 where
    near : LaunchedNear (launched past)
    fit : ItemsFit past → MessagesFit (messages_of past)

  fitting_more : (past : History) (step : Step) → Causes past step.item step → Fitting past
      → Fitting (past ++ step ∷ [])
  fitting_more past step causes so_far =
      grind (
        arith,
        common_steps,
        launched-snoc,
        later_near,
        step_launches_near,
        items_apart,
        messages_of-snoc,
        messages_fit-append,
        step_fits,
      ) steps 1500000

  fitting_kept : IsKept (λ e. Unit {0}) Fitting
  fitting_kept = grind (arith, common_steps, fitting_more) steps 1500000

  pub history_fits : (f : Dialect) (events : List Incoming) (past : History) (rest : Rest)
      → IsHistoryOf f events past rest
      → ItemsFit past → MessagesFit (messages_of past)
  history_fits f events past rest history items =
      (along (λ e. Unit {0}) Fitting fitting_kept (record { near = tt; fit = λ is. tt }) f events past rest
      (any_events events) history).fit items
