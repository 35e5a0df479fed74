-- Defines the questions about the program where it stands: `stackTrace`, `scopes`, `variables`, `evaluate`. Each is
-- answered with what it shows, or refused, and has no effect.
use Rattle.std.specs.Prelude.{◌≡◌, ℕ, ◌-◌, ◌⊎◌, ℤ, if◌then◌else◌, List, length, Option, None, Some, Result, Ok, Err}
use Rattle.dap_msg.specs.declared.requests.stack_trace.StackTraceArguments.{StackTraceArguments}
use Rattle.dap_msg.specs.declared.question.Question.{Question}
use Rattle.dap_msg.specs.declared.question.Question.TheVariants as question
use Rattle.dap_msg.specs.declared.question.Shown.{Shown}
use Rattle.dap_msg.specs.declared.question.Shown.TheVariants as shown
use Rattle.dap_msg.specs.declared.outgoing.Refusal.{Refusal}
use Rattle.dap_msg.specs.declared.outgoing.Refusal.TheVariants as refusal
use Rattle.pl0_tree.specs.Tree.{Block, Expression}
use Rattle.pl0_tree.specs.Faults.{IsExpressionOf}
use Rattle.pl0_meaning.specs.Values.{Frame, Configuration, value}
use Rattle.dbg_plan.specs.Values.{answered as evaluated}
use Rattle.dbg_plan.specs.declared.evaluation.EvalFault.{EvalFault}
use Rattle.dbg_plan.specs.declared.evaluation.EvalFault.TheVariants.{Overflow, DivideByZero}
use Rattle.dap_history.specs.History.{Launched, History}
use Rattle.dap_history.specs.Breakpoints.{line_offset, column_offset}
use Rattle.dap_history.specs.Frames.{Counting, frames_asked, scopes_from, variables_of, frame_by_id}
use Rattle.dap_history.specs.Replies.{is_main_thread}

-- What a question is asked of: a program, its path, and how the client counts lines and columns.
pub record Subject : Type 0 where
  pub program : Block
  pub path : List ℕ
  pub counting : Counting

-- the answer to `stackTrace`
abbrev pub stack_trace : Subject → StackTraceArguments → Configuration → Result Shown Refusal
stack_trace subject asked c =
    if is_main_thread asked.thread_id
    then Ok (shown.StackTrace subject.path (frames_asked subject.program subject.counting asked c) (length c))
    else Err refusal.UnknownThread

-- the answer to `scopes`, by the frame with the id, if there is one
abbrev pub scopes : Subject → ℕ → Configuration → Option Frame → Result Shown Refusal
scopes subject id c None = Err refusal.UnknownFrame
scopes subject id c (Some f) = Ok (shown.Scopes (scopes_from subject.program c (id - 1)))

-- the answer to `variables`, by the frame with the reference, if there is one
abbrev pub variables : Subject → Option Frame → Result Shown Refusal
variables subject None = Err refusal.UnknownReference
variables subject (Some f) = Ok (shown.Variables (variables_of subject.program f))

-- ---- `evaluate`

-- the answer with the result of an evaluation
abbrev pub result_answer : Result ℤ EvalFault → Result Shown Refusal
result_answer (Ok v) = Ok (shown.Value v)
result_answer (Err Overflow) = Err refusal.Overflow
result_answer (Err DivideByZero) = Err refusal.DivideByZero

-- the text is an expression in the scope of frame f, whose number is i, and the answer is its result there
pub record HasResult (main : Block) (c : Configuration) (i : ℕ) (f : Frame) (text : List ℕ)
    (answer : Result Shown Refusal) : Type 0 where
  pub expression : Expression
  pub reads : IsExpressionOf main f.block text expression
  pub result : Result ℤ EvalFault
  pub result_is : value main c i expression ≡ evaluated result
  pub answer_is : answer ≡ result_answer result

-- the text isn't an expression in the scope of frame f
pub record HasNoReading (main : Block) (f : Frame) (text : List ℕ) (answer : Result Shown Refusal) : Type 0 where
  pub none : (e : Expression) → ¬ IsExpressionOf main f.block text e
  pub answer_is : answer ≡ Err refusal.BadExpression

-- the answer to `evaluate`, by the frame with the id, if there is one
abbrev pub EvaluatesIn : Block → Configuration → ℕ → Option Frame → List ℕ → Result Shown Refusal → Type 0
EvaluatesIn main c id None text answer = answer ≡ Err refusal.UnknownFrame
EvaluatesIn main c id (Some f) text answer =
    HasResult main c (id - 1) f text answer ⊎ HasNoReading main f text answer

-- ---- questions

-- the answer to a question, asked where the program is in this configuration
abbrev pub RepliesFrom : Subject → Configuration → Question → Result Shown Refusal → Type 0
RepliesFrom subject c (question.StackTrace asked) answer = answer ≡ stack_trace subject asked c
RepliesFrom subject c (question.Scopes asked) answer =
    answer ≡ scopes subject asked.frame_id c (frame_by_id c asked.frame_id)
RepliesFrom subject c (question.Variables asked) answer =
    answer ≡ variables subject (frame_by_id c asked.variables_reference)
RepliesFrom subject c (question.Evaluate asked) answer =
    EvaluatesIn subject.program c asked.frame_id (frame_by_id c asked.frame_id) asked.expression answer

-- the same, where there is such a configuration
abbrev pub RepliesAt : Subject → Option Configuration → Question → Result Shown Refusal → Type 0
RepliesAt subject None question answer = ⊥
RepliesAt subject (Some c) question answer = RepliesFrom subject c question answer

-- what a question is asked of in a session
abbrev pub subject_in : History → Launched → Subject
subject_in past l =
    record {
      program = l.program;
      path = l.path;
      counting = record { lines = line_offset past; columns = column_offset past };
    }
