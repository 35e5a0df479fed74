-- Defines the questions about the program where it stands: the StackTrace, Scopes, Variables and Evaluate Requests of
-- the Debug Adapter Protocol.
use Rattle.std.specs.Prelude.{◌≡◌, ◌<◌, ◌^◌, ℕ, List, [], ◌∷◌, All, codes, Option, option_map}
use Rattle.std.specs.List.{find}
use Rattle.std.specs.Str.{bytes_eq}
use Rattle.serde_json.specs.Data.{Data}
use Rattle.dap_msg.specs.Evaluate.{evaluate_arguments, value_body, AsksEvaluate, SaysValue}
use Rattle.dap_msg.specs.Scopes.{scopes_arguments, scopes_body, AsksScopes, SaysScopes, ReferenceFits}
use Rattle.dap_msg.specs.StackTrace.{stack_trace_arguments, stack_trace_body, AsksStackTrace, SaysStack, FrameFits}
use Rattle.dap_msg.specs.Variables.{variables_arguments, variables_body, AsksVariables, SaysVariables}
use Rattle.dap_msg.specs.declared.question.Question.{Question}
use Rattle.dap_msg.specs.declared.question.Question.TheVariants as question
use Rattle.dap_msg.specs.declared.question.QuestionKind.{QuestionKind}
use Rattle.dap_msg.specs.declared.question.QuestionKind.TheVariants as kind
use Rattle.dap_msg.specs.declared.question.Shown.{Shown}
use Rattle.dap_msg.specs.declared.question.Shown.TheVariants as shown

-- the name of the command
abbrev pub question_text : QuestionKind → List ℕ
question_text kind.StackTrace = codes "stackTrace"
question_text kind.Scopes = codes "scopes"
question_text kind.Variables = codes "variables"
question_text kind.Evaluate = codes "evaluate"

-- the kinds of all questions
abbrev pub every_question : List QuestionKind
every_question = kind.StackTrace ∷ kind.Scopes ∷ kind.Variables ∷ kind.Evaluate ∷ []

-- the kind of question of this name, or none
abbrev pub question_kind : List ℕ → Option QuestionKind
question_kind text = find (λ k. bytes_eq (question_text k) text) every_question

-- the kind of a question
abbrev pub kind_of : Question → QuestionKind
kind_of (question.StackTrace arguments) = kind.StackTrace
kind_of (question.Scopes arguments) = kind.Scopes
kind_of (question.Variables arguments) = kind.Variables
kind_of (question.Evaluate arguments) = kind.Evaluate

-- the question with the arguments that an object gives, or none where they don't fit
abbrev pub question_of : QuestionKind → Data → Option Question
question_of kind.StackTrace d = option_map question.StackTrace (stack_trace_arguments d)
question_of kind.Scopes d = option_map question.Scopes (scopes_arguments d)
question_of kind.Variables d = option_map question.Variables (variables_arguments d)
question_of kind.Evaluate d = option_map question.Evaluate (evaluate_arguments d)

-- ---- what a question shows

-- the value of the member `body` of its answer
abbrev pub shown_data : Shown → Data
shown_data (shown.StackTrace path frames total) = stack_trace_body path frames total
shown_data (shown.Scopes scopes) = scopes_body scopes
shown_data (shown.Variables variables) = variables_body variables
shown_data (shown.Value v) = value_body v

-- ---- for the laws: each question in the words of the protocol

-- the question of this name
abbrev pub IsQuestionCalled : Question → List ℕ → Type 0
IsQuestionCalled (question.StackTrace asked) name = name ≡ codes "stackTrace"
IsQuestionCalled (question.Scopes asked) name = name ≡ codes "scopes"
IsQuestionCalled (question.Variables asked) name = name ≡ codes "variables"
IsQuestionCalled (question.Evaluate asked) name = name ≡ codes "evaluate"

-- the member `arguments`, or its absence, gives the question these arguments
abbrev pub AsksQuestion : Question → Option Data → Type 0
AsksQuestion (question.StackTrace asked) given = AsksStackTrace asked given
AsksQuestion (question.Scopes asked) given = AsksScopes asked given
AsksQuestion (question.Variables asked) given = AsksVariables asked given
AsksQuestion (question.Evaluate asked) given = AsksEvaluate asked given

-- the body of the response says what the question shows
abbrev pub SaysShown : Shown → Option Data → Type 0
SaysShown (shown.StackTrace path frames total) said = SaysStack path frames total said
SaysShown (shown.Scopes scopes) said = SaysScopes scopes said
SaysShown (shown.Variables variables) said = SaysVariables variables said
SaysShown (shown.Value v) said = SaysValue v said

-- its numbers are numbers of 64 bits
abbrev pub ShownFits : Shown → Type 0
ShownFits (shown.StackTrace path frames total) = All FrameFits frames × (total < 2 ^ 64)
ShownFits (shown.Scopes scopes) = All ReferenceFits scopes
ShownFits _ = Unit {0}
