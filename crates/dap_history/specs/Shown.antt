-- States the law of the questions: what `stackTrace`, `scopes`, `variables` and `evaluate` show of the program where it
-- stands.
use Rattle.std.specs.Prelude.{◌≡◌, ◌≢◌, ◌⊎◌, ◌∷◌, [], ℕ, zero, suc, ◌+◌, ◌-◌, ℤ, List, length, drop, take, codes, None, Some, Result, Ok, Err}
use Rattle.dap_msg.specs.Commands.{name_of}
use Rattle.dap_msg.specs.declared.request.Request.{Request}
use Rattle.dap_msg.specs.declared.requests.initialize.InitializeArguments.{InitializeArguments}
use Rattle.dap_msg.specs.declared.requests.stack_trace.StackTraceArguments.{StackTraceArguments}
use Rattle.dap_msg.specs.declared.question.Question.{Question}
use Rattle.dap_msg.specs.declared.question.Question.TheVariants as question
use Rattle.dap_msg.specs.declared.outgoing.Outgoing.TheVariants.{Answer}
use Rattle.dap_msg.specs.declared.question.Shown.{Shown}
use Rattle.dap_msg.specs.declared.question.Shown.TheVariants as shown_as
use Rattle.dap_msg.specs.declared.outgoing.StackFrame.{StackFrame}
use Rattle.dap_msg.specs.declared.outgoing.Scope.{Scope}
use Rattle.dap_msg.specs.declared.outgoing.Variable.{Variable}
use Rattle.dap_msg.specs.declared.outgoing.Refusal.{Refusal}
use Rattle.dap_msg.specs.declared.outgoing.Refusal.TheVariants as refusal
use Rattle.pl0_tree.specs.Tree.{Name, Block, Expression, variables}
use Rattle.pl0_tree.specs.Scope.{Path, block_at}
use Rattle.pl0_tree.specs.Blocks.{name_of_block}
use Rattle.pl0_tree.specs.Steps.{StepAt}
use Rattle.pl0_tree.specs.Faults.{IsExpressionOf}
use Rattle.pl0_meaning.specs.declared.RunFault.{RunFault}
use Rattle.pl0_meaning.specs.declared.RunFault.TheVariants as run_fault
use Rattle.pl0_meaning.specs.Values.{Frame, Configuration, frame_at, next_step, value}
use Rattle.pl0_meaning.specs.Runs.{at}
use Rattle.dap_history.specs.History.{Launched, Step, History}
use Rattle.dap_history.specs.Readings.{situation, launched}
use Rattle.dap_history.specs.Stops.{StoppedLastAt, Asks}
use Rattle.dap_history.specs.Replies.{in_body}
use Rattle.dap_history.specs.Verdicts.{refused_by}
use Rattle.dap_history.specs.Initialized.{IsInitializedBy, less_by}
use Rattle.dap_history.specs.Always.{OfHistories}

-- ---- frames

-- the frame that is alive with this id, which is its number, counted from 1 at the bottom of the stack
abbrev pub HasId : Configuration → ℕ → Frame → Type 0
HasId c zero f = ⊥
HasId c (suc i) f = frame_at c i ≡ Some f

-- no frame that is alive has this id
abbrev pub HasNone : Configuration → ℕ → Type 0
HasNone c id = (f : Frame) → ¬ HasId c id f

-- the name of a block's frames: `main`, or the procedure's
abbrev pub IsBlockName : Block → Path → List ℕ → Type 0
IsBlockName main [] word = word ≡ codes "main"
IsBlockName main (k ∷ q) word = (x : Name) × (name_of_block main (k ∷ q) ≡ Some x) × (word ≡ x.word)

-- What is shown of a frame: its id, its name, and where its next step stands, as the client counts.
pub record ShowsFrame (main : Block) (counting : InitializeArguments) (f : Frame) (id : ℕ) (shown : StackFrame)
    : Type 0 where
  pub id_is : shown.id ≡ id
  pub name_is : IsBlockName main f.block shown.name
  pub line_is : (s : StepAt) → next_step main f ≡ Some s
      → shown.line ≡ s.place.line - less_by counting.lines_start_at_1
  pub column_is : (s : StepAt) → next_step main f ≡ Some s
      → shown.column ≡ s.place.column - less_by counting.columns_start_at_1

-- all frames, from the newest on
abbrev pub ShowsFrames : Block → InitializeArguments → Configuration → List StackFrame → Type 0
ShowsFrames main counting [] [] = Unit {0}
ShowsFrames main counting (f ∷ below) (shown ∷ more) =
    ShowsFrame main counting f (length below + 1) shown × ShowsFrames main counting below more
ShowsFrames main counting _ _ = ⊥

-- those from the one numbered `start` on, from 0: as many as `levels`, or all where that is 0
abbrev pub page : {A : Type 0} → (start levels : ℕ) → List A → List A
page start zero xs = drop start xs
page start (suc n) xs = take (suc n) (drop start xs)

-- `stackTrace`: the page that is asked for of all frames, each of the launched source, and how many there are in all
pub record ShowsStack (l : Launched) (counting : InitializeArguments) (c : Configuration) (asked : StackTraceArguments)
    (result : Result Shown Refusal) : Type 0 where
  pub all : List StackFrame
  pub shown : ShowsFrames l.program counting c all
  pub result_is : result ≡ Ok (shown_as.StackTrace l.path (page asked.start_frame asked.levels all) (length c))

-- ---- scopes

-- The scopes of a frame: its own, with its id as the reference; then those of the frame that its static link names; the
-- main block's is the last, and stands there once.
abbrev pub ShowsScopes : Block → Configuration → Frame → ℕ → List Scope → Type 0
ShowsScopes main c f id [] = ⊥
ShowsScopes main c f id (s ∷ []) = IsBlockName main f.block s.name × (s.reference ≡ id) × (f.block ≡ [])
ShowsScopes main c f id (s ∷ t ∷ more) =
    IsBlockName main f.block s.name × (s.reference ≡ id) × (f.block ≢ [])
    × ((g : Frame) × HasId c (f.link + 1) g × ShowsScopes main c g (f.link + 1) (t ∷ more))

-- ---- variables

-- each variable with its number, in the order of declaration
abbrev pub ShowsVariables : List Name → List ℤ → List Variable → Type 0
ShowsVariables [] [] [] = Unit {0}
ShowsVariables (x ∷ xs) (v ∷ numbers) (shown ∷ more) =
    (shown.name ≡ x.word) × (shown.value ≡ v) × ShowsVariables xs numbers more
ShowsVariables _ _ _ = ⊥

-- the variables of the frame's block, with the frame's numbers
pub record ShowsLocals (main : Block) (f : Frame) (result : Result Shown Refusal) : Type 0 where
  pub block : Block
  pub block_is : block_at main f.block ≡ Some block
  pub all : List Variable
  pub shown : ShowsVariables (variables block) f.numbers all
  pub result_is : result ≡ Ok (shown_as.Variables all)

-- ---- `evaluate`

-- the value of an expression, or its fault
abbrev pub GivesValue : Result ℤ RunFault → Result Shown Refusal → Type 0
GivesValue (Ok v) result = result ≡ Ok (shown_as.Value v)
GivesValue (Err run_fault.Overflow) result = result ≡ Err refusal.Overflow
GivesValue (Err run_fault.DivideByZero) result = result ≡ Err refusal.DivideByZero
GivesValue _ result = ⊥

-- the text reads as an expression in the scope of the frame with this id, and its value there is given; or it doesn't
abbrev pub ShowsValue : Block → Configuration → ℕ → Frame → List ℕ → Result Shown Refusal → Type 0
ShowsValue main c id f text result =
    ((e : Expression) × IsExpressionOf main f.block text e × GivesValue (value main c (id - 1) e) result)
    ⊎ (((e : Expression) → ¬ IsExpressionOf main f.block text e) × (result ≡ Err refusal.BadExpression))

-- ---- the law

-- what is answered of the frame with this id, or the refusal where there is none
abbrev pub OfFrame : Configuration → ℕ → Refusal → Result Shown Refusal → (Frame → Type 0) → Type 0
OfFrame c id why result says = ((f : Frame) × HasId c id f × says f) ⊎ (HasNone c id × (result ≡ Err why))

-- what a question is answered with, where the program is in this configuration
abbrev pub Shows : Launched → InitializeArguments → Configuration → Question → Result Shown Refusal → Type 0
Shows l counting c (question.StackTrace asked) result = ShowsStack l counting c asked result
Shows l counting c (question.Scopes asked) result =
    OfFrame c asked.frame_id refusal.UnknownFrame result (λ f.
    (all : List Scope) × ShowsScopes l.program c f asked.frame_id all × (result ≡ Ok (shown_as.Scopes all)))
Shows l counting c (question.Variables asked) result =
    OfFrame c asked.variables_reference refusal.UnknownReference result (λ f. ShowsLocals l.program f result)
Shows l counting c (question.Evaluate asked) result =
    OfFrame c asked.frame_id refusal.UnknownFrame result
    (λ f. ShowsValue l.program c asked.frame_id f asked.expression result)

-- A question that neither its situation nor its thread refuses is answered from the program's meaning at the last
-- stop. It gets each frame asked for, with id, name, line and column, and their number; the scopes along the static
-- links; each variable with its number, as declared; an expression's value or fault; and a refusal for a missing
-- frame, and for a text that is no expression.
abbrev pub AnswersShowTheProgram : Type 0
AnswersShowTheProgram = OfHistories (λ past.
    (before : History) (request : Request) (question : Question) (step : Step)
    → Asks past before request question step → refused_by (situation before) request.body ≡ None
    → (l : Launched) × (m : ℕ) × (c : Configuration) × (counting : InitializeArguments)
    × (result : Result Shown Refusal) × (launched before ≡ Some l) × StoppedLastAt before m
    × (at l.program m ≡ Some c) × IsInitializedBy before counting
    × (step.answer ≡ Some (Answer request.seq (name_of request.body) (in_body result)))
    × Shows l counting c question result)
