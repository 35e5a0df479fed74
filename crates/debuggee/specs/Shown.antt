-- Defines what a language shows as data without addresses.
use Rattle.std.specs.Prelude.{◌≡◌, ℕ, List, take, drop, Option, Result, Ok, Err, String, string_bytes}
use Rattle.std.specs.declared.alloc.Global.{Global}
use Rattle.debuggee.specs.declared.language.Frame.{Frame}
use Rattle.debuggee.specs.declared.language.Location.{Location}
use Rattle.debuggee.specs.declared.language.Page.{Page}
use Rattle.debuggee.specs.declared.language.Variable.{Variable}

-- a frame: its name, and the line and the column where it stands, counted from 1
pub record PlainFrame : Type 0 where
  pub name : List ℕ
  pub line : ℕ
  pub column : ℕ

abbrev pub plain_frame : Frame → PlainFrame
plain_frame frame = record { name = string_bytes frame.name; line = frame.line; column = frame.column }

-- a variable: its name, its value's text, and the number by which those inside it are asked for, if it has some
pub record PlainVariable : Type 0 where
  pub name : List ℕ
  pub value : List ℕ
  pub inside : Option ℕ

abbrev pub plain_variable : Variable → PlainVariable
plain_variable variable = record {
  name = string_bytes variable.name;
  value = string_bytes variable.value;
  inside = variable.inside;
}

-- those that a page asks for of all
abbrev pub page_of : Page → List PlainVariable → List PlainVariable
page_of page all = take page.count (drop page.start all)

abbrev pub IsPage : (List PlainVariable → Type 0) → Page → List PlainVariable → Type 0
IsPage are_all page shown = (all : List PlainVariable) × are_all all × (shown ≡ page_of page all)

-- what a text is: a program, or a mistake
abbrev pub plain_loaded : {S : Type 0} → Result S (String Global) → Result S (List ℕ)
plain_loaded (Ok program) = Ok program
plain_loaded (Err mistake) = Err (string_bytes mistake)

-- What a language says of its texts and its programs. Lines are counted from 1, and the newest frame is 0.
pub record Shows (S : Type 0) : Type 1 where
  -- which program, before its first step, or which mistake a text is, with the JSON text of the arguments of its launch
  pub reads_as : List ℕ → List ℕ → Result S (List ℕ) → Type 0
  -- where a breakpoint is set that is asked for at a line
  pub first_place : S → ℕ → Option Location → Type 0
  -- a mistake that a condition has at a place
  pub mistake_of : S → ℕ → List ℕ → List ℕ → Type 0
  -- what a frame shows
  pub frame_of : S → ℕ → PlainFrame → Type 0
  -- which scopes a frame has, by their names
  pub scopes_of : S → ℕ → List (List ℕ) → Type 0
  -- which variables a scope of a frame has
  pub variables_of : S → ℕ → ℕ → List PlainVariable → Type 0
  -- which variables are inside one, by its number
  pub inside_of : S → ℕ → List PlainVariable → Type 0

-- a language that says nothing of them
abbrev pub nothing_shown : {S : Type 0} → Shows S
nothing_shown = record {
  reads_as = λ text arguments loaded. Unit {0};
  first_place = λ program line first. Unit {0};
  mistake_of = λ program place condition mistake. Unit {0};
  frame_of = λ program index frame. Unit {0};
  scopes_of = λ program frame names. Unit {0};
  variables_of = λ program frame scope all. Unit {0};
  inside_of = λ program number all. Unit {0};
}
