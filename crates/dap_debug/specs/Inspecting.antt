-- Defines what questions show of a program where it stands.
use Rattle.std.specs.Prelude.{◌≡◌, ◌⊎◌, ◌+◌, ◌-◌, ◌*◌, ◌/◌, ◌%◌, ◌^◌, ◌&&◌, ℕ, min, nat_eq, nat_le, nat_lt, List, [], ◌∷◌, map, length, take, slice_get, codes, if◌then◌else◌, Option, None, Some, option_and_then, unwrap_or}
use Rattle.serde_json.specs.Data.{Data}
use Rattle.dap_bodies.specs.Bodies.{ShownFrame, stack_trace, ShownScope, scopes, ShownVariable, variables, evaluated, exception_info}
use Rattle.dap_bodies.specs.Sizes.{shown_text}
use Rattle.dap_server.specs.Messages.{PlainReply}
use Rattle.debuggee.specs.Plain.{PlainEvaluated, PlainFault, Value, NoValue}
use Rattle.debuggee.specs.Due.{Sight}
use Rattle.dap_debug.specs.declared.command.Question.{Question}
use Rattle.dap_debug.specs.declared.command.Question.TheVariants as question
use Rattle.dap_debug.specs.declared.state.Counting.{Counting}
use Rattle.dap_debug.specs.declared.state.Phase.{Phase}
use Rattle.dap_debug.specs.declared.state.Phase.TheVariants as phase
use Rattle.dap_bodies.specs.Arguments.{text_at, whole_at}
use Rattle.dap_debug.specs.Running.{success, refusal, Refuses}
use Rattle.debuggee.specs.Shown.{IsPage, PlainFrame, PlainVariable, Shows}
use Rattle.debuggee.specs.declared.language.Page.{Page}
use Rattle.dap_debug.specs.Standings.{Standing, column_offset, line_offset}

-- ---- frames

-- what is shown of the frame with this index, of which the newest is 0, of a program at this path, to a client that
-- counts so
abbrev pub shown_frame : Counting → List ℕ → ℕ → PlainFrame → ShownFrame
shown_frame counting path index frame = record {
  id = index + 1;
  name = frame.name;
  path = path;
  line = frame.line - line_offset counting;
  column = frame.column - column_offset counting;
}

-- the frame with this index is shown so
abbrev pub ShowsFrame : {S : Type 0} → (S → ℕ → PlainFrame → Type 0) → Counting → List ℕ → S → ℕ → ShownFrame → Type 0
ShowsFrame frame_of counting path program index shown =
    (frame : PlainFrame) × frame_of program index frame × (shown ≡ shown_frame counting path index frame)

-- the frames from this index on are shown so
abbrev pub ShowFrames : {S : Type 0} → (S → ℕ → PlainFrame → Type 0) → Counting → List ℕ → S → ℕ → List ShownFrame
    → Type 0
ShowFrames frame_of counting path program index [] = Unit {0}
ShowFrames frame_of counting path program index (shown ∷ others) =
    ShowsFrame frame_of counting path program index shown × ShowFrames frame_of counting path program (index + 1) others

-- the first frame that is asked for; where it isn't alive, there is none
abbrev pub first_frame : Option Data → ℕ → ℕ
first_frame arguments many = min (unwrap_or (whole_at (codes "startFrame") arguments) 0) many

-- the most frames, or variables, that are shown at once
abbrev pub page_limit : ℕ
page_limit = 1024

-- how many are shown at once of so many that are asked for; 0 asks for all
abbrev pub page_count : ℕ → ℕ
page_count count = if nat_eq count 0 then page_limit else min count page_limit

-- how many of `many` frames are shown; where no number is given, all are asked for
abbrev pub frame_count : Option Data → ℕ → ℕ
frame_count arguments many = min (page_count (unwrap_or (whole_at (codes "levels") arguments) 0)) many

-- the frames that are asked for, and how many there are
pub record ShowsStack {S : Type 0} (sees : Sight S) (frame_of : S → ℕ → PlainFrame → Type 0) (counting : Counting)
    (path : List ℕ) (arguments : Option Data) (program : S) (reply : PlainReply) : Type 0 where
  pub shown : List ShownFrame
  pub frames : ShowFrames frame_of counting path program (first_frame arguments (sees.depth_of program)) shown
  pub count :
      length shown
      ≡ frame_count arguments (sees.depth_of program - first_frame arguments (sees.depth_of program))
  pub reply_is : reply ≡ success (Some (stack_trace shown (sees.depth_of program))) []

-- ---- scopes and variables

-- the most scopes of a frame that are shown, and the most frames whose scopes are
abbrev pub scope_limit : ℕ
scope_limit = 16

abbrev pub frame_limit : ℕ
frame_limit = 2 ^ 26

-- the frame with this identifier, if it is alive: identifiers are counted from 1, the newest frame's first
abbrev pub frame_with : ℕ → ℕ → Option ℕ
frame_with many id = if nat_le 1 id && nat_le id many then Some (id - 1) else None

-- the frame that is asked for, if it is alive
abbrev pub frame_asked : ℕ → Option Data → Option ℕ
frame_asked many arguments = option_and_then (frame_with many) (whole_at (codes "frameId") arguments)

-- what is shown of scopes, of which the first has this index
abbrev pub shown_scope : ℕ → ℕ → List ℕ → ShownScope
shown_scope frame index name = record { name = name; reference = frame * scope_limit + index + 1 }

abbrev pub shown_scopes : ℕ → ℕ → List (List ℕ) → List ShownScope
shown_scopes frame index [] = []
shown_scopes frame index (name ∷ others) = shown_scope frame index name ∷ shown_scopes frame (index + 1) others

-- the reply that shows the scopes of a frame, by their names
abbrev pub scopes_reply : ℕ → List (List ℕ) → PlainReply
scopes_reply frame names = success (Some (scopes (shown_scopes frame 0 (take scope_limit names)))) []

-- the scopes of a frame are shown; where it isn't alive, or too far down, that is refused
abbrev pub ShowsScopes : {S : Type 0} → Shows S → Option ℕ → S → PlainReply → Type 0
ShowsScopes shows None program reply = Refuses reply
ShowsScopes shows (Some frame) program reply =
    (names : List (List ℕ)) × shows.scopes_of program frame names × (reply ≡ scopes_reply frame names)

-- the references after this one are of variables inside others, by their numbers, of which these are shown
abbrev pub inside_base : ℕ
inside_base = 2 ^ 30

abbrev pub number_limit : ℕ
number_limit = 2 ^ 30 - 1

-- the reference of what is inside a variable with this number; 0 where there is none
abbrev pub reference_inside : Option ℕ → ℕ
reference_inside None = 0
reference_inside (Some number) = if nat_lt number number_limit then inside_base + 1 + number else 0

-- what is shown of a variable
abbrev pub shown_variable : PlainVariable → ShownVariable
shown_variable variable =
    record { name = variable.name; value = variable.value; reference = reference_inside variable.inside }

abbrev pub variables_reply : List PlainVariable → PlainReply
variables_reply shown = success (Some (variables (map shown_variable shown))) []

-- which variables are asked for; where no number is given, all
abbrev pub page_asked : Option Data → Page
page_asked arguments = record {
  start = unwrap_or (whole_at (codes "start") arguments) 0;
  count = page_count (unwrap_or (whole_at (codes "count") arguments) 0);
}

-- the reference that is asked for; 0 where there is none
abbrev pub reference_asked : Option Data → ℕ
reference_asked arguments = unwrap_or (whole_at (codes "variablesReference") arguments) 0

-- those that a page asks for of all are shown
abbrev pub ShowsPage : (List PlainVariable → Type 0) → Page → PlainReply → Type 0
ShowsPage are_all page reply =
    (shown : List PlainVariable) × IsPage are_all page shown × (reply ≡ variables_reply shown)

-- the same of those inside a variable; where there are none, that is refused
abbrev pub ShowsInside : (List PlainVariable → Type 0) → Page → PlainReply → Type 0
ShowsInside are_all page reply = ShowsPage are_all page reply ⊎ Refuses reply

-- the same of the scope with this index; where there is no such scope, that is refused
abbrev pub ShowsScope : {S : Type 0} → Shows S → ℕ → ℕ → Option (List ℕ) → Page → S → PlainReply → Type 0
ShowsScope shows frame index None page program reply = Refuses reply
ShowsScope shows frame index (Some name) page program reply =
    ShowsPage (shows.variables_of program frame index) page reply

-- The variables are shown that have the reference that is asked for: those inside the variable with a number, or those
-- of a frame's scope with an index. Where there is neither, that is refused.
abbrev pub ShowsVariables : {S : Type 0} → Shows S → Option ℕ → Option ℕ → ℕ → Page → S → PlainReply → Type 0
ShowsVariables shows (Some number) frame index page program reply =
    ShowsInside (shows.inside_of program number) page reply
ShowsVariables shows None None index page program reply = Refuses reply
ShowsVariables shows None (Some frame) index page program reply =
    (names : List (List ℕ)) × shows.scopes_of program frame names
    × ShowsScope shows frame index (slice_get names index) page program reply

-- the number of the variable whose inside has a reference
abbrev pub number_of_reference : ℕ → Option ℕ
number_of_reference reference =
    if nat_lt inside_base reference then Some (reference - inside_base - 1) else None

-- the frame and the index of the scope with a reference
abbrev pub frame_of_reference : ℕ → ℕ → Option ℕ
frame_of_reference many reference =
    if nat_eq reference 0 then None else frame_with many ((reference - 1) / scope_limit + 1)

abbrev pub index_of_reference : ℕ → ℕ
index_of_reference reference = (reference - 1) % scope_limit

-- ---- expressions

-- what is replied to an expression that evaluates so
abbrev pub reply_of : PlainEvaluated → PlainReply
reply_of (Value text holds) = success (Some (evaluated text 0)) []
reply_of (NoValue why) = refusal (shown_text why)

-- the frame in which an expression is evaluated: where none is asked for, the newest
abbrev pub frame_to_evaluate : ℕ → Option Data → Option ℕ
frame_to_evaluate many arguments = frame_with many (unwrap_or (whole_at (codes "frameId") arguments) 1)

-- The expression is evaluated. Where there is none, or the frame isn't alive, that is refused.
abbrev pub Evaluates : {S : Type 0} → Sight S → Option (List ℕ) → Option ℕ → S → PlainReply → Type 0
Evaluates sees (Some expression) (Some frame) program reply =
    reply ≡ reply_of (sees.value_of program frame expression)
Evaluates sees _ _ program reply = Refuses reply

-- ---- faults

-- why the next step can't be taken is told where the program has stopped at a fault, and elsewhere that is refused
abbrev pub ExplainsFrom : {S : Type 0} → Phase S → Option PlainFault → PlainReply → Type 0
ExplainsFrom (phase.Stopped program) (Some fault) reply =
    reply ≡ success (Some (exception_info fault.name fault.text)) []
ExplainsFrom _ _ reply = Refuses reply

abbrev pub Explains : {S : Type 0} → Standing S → PlainReply → Type 0
Explains stood reply = ExplainsFrom stood.phase stood.fault reply

-- ---- all questions

-- what is shown of a program that is stopped
abbrev pub AnswersQuestion : {S : Type 0} → Sight S → Shows S → Question → Option Data → Counting → List ℕ → S
    → PlainReply → Type 0
AnswersQuestion sees shows question.StackTrace arguments counting path program reply =
    ShowsStack sees shows.frame_of counting path arguments program reply
AnswersQuestion sees shows question.Scopes arguments counting path program reply =
    ShowsScopes shows (frame_asked (min (sees.depth_of program) frame_limit) arguments) program reply
AnswersQuestion sees shows question.Variables arguments counting path program reply =
    ShowsVariables shows (number_of_reference (reference_asked arguments))
    (frame_of_reference (sees.depth_of program) (reference_asked arguments))
    (index_of_reference (reference_asked arguments)) (page_asked arguments) program reply
AnswersQuestion sees shows question.Evaluate arguments counting path program reply =
    Evaluates sees (text_at (codes "expression") arguments) (frame_to_evaluate (sees.depth_of program) arguments)
    program reply

-- a question is answered where the program is stopped, and refused elsewhere
abbrev pub ShowsFrom : {S : Type 0} → Sight S → Shows S → Phase S → Question → Option Data → Counting → List ℕ
    → PlainReply → Type 0
ShowsFrom sees shows (phase.Stopped program) asked arguments counting path reply =
    AnswersQuestion sees shows asked arguments counting path program reply
ShowsFrom sees shows _ asked arguments counting path reply = Refuses reply

abbrev pub Inspects : {S : Type 0} → Sight S → Shows S → Question → Option Data → Standing S → PlainReply → Type 0
Inspects sees shows asked arguments stood reply =
    ShowsFrom sees shows stood.phase asked arguments stood.counting stood.path reply
