-- Each request is judged as the table says, a refusal changes nothing, and other items tell nothing.
use Rattle.dap_history.proofs.Common.{Dialect, Causes, Command, CommandName, Content, Err, History, Incoming, Inspects, IsHistoryOf, Item, Launched, None, Ok, Option, Question, Reaction, Reacts, Refusal, Refuse, Rest, ResumeKind, RetreatKind, SetBreakpointsArguments, SetsOf, Situation, Some, Step, Stopped, ThreadArguments, [], ap, at, body_of, if◌then◌else◌, refused_by, refused_thread, reply_of, situation, subst, wanted_in, with_answer, ℕ, ◌++◌, ◌∷◌, ◌≡◌}
use Rattle.std.proofs.Common.{List, Bool, true, false, Result}
use Rattle.std.specs.Prelude.{map}
use Rattle.dap_msg.specs.declared.command.Command.TheVariants as command
use Rattle.dap_msg.specs.declared.question.Question.TheVariants as question
use Rattle.dap_msg.specs.declared.outgoing.Outgoing.TheVariants.{Answer}
use Rattle.dap_msg.specs.declared.outgoing.Refusal.TheVariants as refusal
use Rattle.dap_history.specs.Readings.{position}
use Rattle.dap_history.specs.Reactions.{Retreats}
use Rattle.dap_history.specs.Replies.{in_body}
use Rattle.dap_msg.specs.declared.requests.stack_trace.StackTraceArguments.{StackTraceArguments}
use Rattle.dap_msg.specs.declared.question.Shown.{Shown}
use Rattle.dap_history.specs.Verdicts.{IsGranted, IsVerdict, EachIsJudged, IsNothing, RefusalsChangeNothing, SpeaksUp, OthersTellNothing, AnswersComeFirst}
use Rattle.dap_history.proofs.Along.{IsTaken, any_events, along}
use Rattle.dap_history.proofs.Each.{WasTaken, EachTaken, each_kept, each_first}
use Rattle.dap_history.proofs.GoingBack.{Anything, anything_kept}
use Rattle.dap_history.proofs.Reacted.{of_program}
use Rattle.dap_history.proofs.Questions.{inspects_there, result_with}
use Rattle.std.proofs.Common.{arith}
use Rattle.std.proofs.lemmas.Grind.{common_steps}

-- ---- by command

module _ (past : History) where
  -- the verdict of a reaction
  abbrev Judges : Option Refusal → Command → Reaction → Type 0
  Judges why asked reaction = IsVerdict why asked (reply_of past reaction).result

  -- what this reaction answers
  result_by : {this reaction : Reaction} → reaction ≡ this
      → (reply_of past reaction).result ≡ (reply_of past this).result
  result_by is = ap (λ r. (reply_of past r).result) is

  on_thread : (asked : Command) (same : Bool) (this reaction : Reaction) → Judges None asked this
      → reaction ≡ (if same then this else Refuse refusal.UnknownThread)
      → Judges (if same then None else Some refusal.UnknownThread) asked reaction
  on_thread asked same this reaction judges is = grind (arith, common_steps, result_by) steps 200000

  sets_judged : (a : SetBreakpointsArguments) (l : Launched) (reaction : Reaction) (same : Bool)
      → SetsOf same past l a.breakpoints reaction → Judges None (command.SetBreakpoints a) reaction
  sets_judged a l reaction true is = (_, result_by is.reaction_is)
  sets_judged a l reaction false is = (_, result_by is)

  body_granted : (k : ResumeKind) (a : ThreadArguments) → IsGranted (command.Resume k a) (Ok (body_of k))
  body_granted k a = grind (arith, common_steps) steps 200000

  retreats_judged : (k : RetreatKind) (a : ThreadArguments) (reaction : Reaction) → Retreats past k a reaction
      → Judges (refused_thread (Some a.thread_id)) (command.Retreat k a) reaction
  retreats_judged k a reaction is = grind (arith, common_steps, of_program, on_thread) steps 1500000

  -- ---- questions

  -- where the program stands, only the thread may refuse it
  stack_judged : (a : StackTraceArguments) (b other : Result Shown Refusal) (known : Bool)
      → b ≡ (if known then other else Err refusal.UnknownThread)
      → IsVerdict (if known then None else Some refusal.UnknownThread) (command.Inspect (question.StackTrace a))
      (in_body b)
  stack_judged a b other known is = grind (arith, common_steps) steps 200000

  standing : (q : Question) (reaction : Reaction) → Inspects past q reaction
      → Judges (refused_by Stopped (command.Inspect q)) (command.Inspect q) reaction
  standing q reaction is =
      grind (arith, common_steps, inspects_there, result_with, stack_judged, of_program, at, position) steps 1500000

  -- ---- any

  judged : (s : Situation) (seq : ℕ) (asked : Command) (reaction : Reaction)
      → wanted_in s (Some (record { seq = seq; body = asked })) ≡ None → Reacts s past asked reaction
      → Judges (refused_by s asked) asked reaction
  judged Stopped seq (command.Resume k a) reaction unwanted is =
      grind (arith, common_steps, of_program, on_thread, body_granted) steps 1500000
  judged s seq asked reaction unwanted is =
      grind (
        arith,
        common_steps,
        result_by,
        of_program,
        sets_judged,
        on_thread,
        body_granted,
        retreats_judged,
        standing,
      ) steps 200000

-- ---- refusals

-- a step that refuses changes nothing
pub refused_step : (past : History) (item : Item) (step : Step) (seq : ℕ) (name : CommandName) (why : Refusal)
    → Causes past item step → step.answer ≡ Some (Answer seq name (Err why)) → IsNothing step.effect
refused_step past item step seq name why is answer = grind (arith, common_steps) steps 200000

-- ---- other items

other_tells : (past : History) (item : Item) (step : Step) → Causes past item step → ¬ SpeaksUp item
    → (step.answer ≡ None) × (step.effect.events ≡ [])
other_tells past item step is silent = grind (arith, common_steps) steps 200000

-- ---- the laws

abbrev pub Any : Incoming → Type 0
Any e = Unit {0}

-- each step of a history was taken, and caused what its item causes
module _ (f : Dialect) (events : List Incoming) (past : History) (rest : Rest)
    (history : IsHistoryOf f events past rest)
    (before : History) (step : Step) (after : History) (past_is : past ≡ before ++ step ∷ after) where
  each : EachTaken Any (Anything Any) past
  each = along Any (EachTaken Any (Anything Any)) (each_kept Any (Anything Any) (anything_kept Any))
      (each_first Any (Anything Any) tt) f events past rest (any_events events) history

  pub was_taken : WasTaken Any (Anything Any) before step
  was_taken = each.each before step after past_is

pub each_judged : EachIsJudged
each_judged f events past rest history before step after past_is request item_is = (
  is.0.result,
  is.2.answer_is,
  rw is.1.reply_is (judged before (situation before) request.seq request.body
      is.1.reaction taken is.1.reacts),
)
  where
    was : WasTaken Any (Anything Any) before step
    was = was_taken f events past rest history before step after past_is

    is : Causes before (Content (Some request)) step
    is = subst (λ i. Causes before i step) item_is was.causes

    taken : IsTaken Any before (Content (Some request))
    taken = subst (IsTaken Any before) item_is was.taken

pub refusals_quiet : RefusalsChangeNothing
refusals_quiet f events past rest history before step after past_is seq name why answer =
    refused_step before step.item step seq name why
    (was_taken f events past rest history before step after past_is).causes answer

pub others_quiet : OthersTellNothing
others_quiet f events past rest history before step after past_is silent =
    other_tells before step.item step (was_taken f events past rest history before step after past_is).causes silent

pub answers_first : AnswersComeFirst
answers_first = grind (arith, common_steps, with_answer, map) steps 1500000
