-- Defines the bodies of responses that show a debuggee with one thread, which has the number 1. Texts are cut and lists
-- end as `Sizes.antt` says.
use Rattle.std.specs.Prelude.{ℕ, true, false, List, map, codes, string_bytes}
use Rattle.serde_json.specs.Data.{Data, boolean, number, unsigned, string, array, object, no_members, item, no_items, member}
use Rattle.dap_bodies.specs.Events.{thread}
use Rattle.dap_bodies.specs.Sizes.{shown_list, shown_text}
use Rattle.dap_bodies.specs.declared.showing.StackFrame.{StackFrame}
use Rattle.dap_bodies.specs.declared.showing.Scope.{Scope}
use Rattle.dap_bodies.specs.declared.showing.Variable.{Variable}
use Rattle.dap_bodies.specs.declared.placing.Breakpoint.{Breakpoint}
use Rattle.dap_bodies.specs.declared.placing.Breakpoint.TheVariants as breakpoint

-- a body with this one member
abbrev pub body_of : List ℕ → Data → Data
body_of name value = object (member name value no_members)

-- ---- the stack

-- a frame: its number, name and place
pub record ShownFrame : Type 0 where
  pub id : ℕ
  pub name : List ℕ
  pub path : List ℕ
  pub line : ℕ
  pub column : ℕ

abbrev pub plain_shown_frame : StackFrame → ShownFrame
plain_shown_frame frame = record {
  id = frame.id;
  name = string_bytes frame.name;
  path = string_bytes frame.path;
  line = frame.line;
  column = frame.column;
}

-- a StackFrame of the protocol, with whole texts
abbrev pub frame_members : ShownFrame → Data
frame_members frame =
    object (member (codes "column") (number (unsigned frame.column))
    (member (codes "id") (number (unsigned frame.id))
    (member (codes "line") (number (unsigned frame.line))
    (member (codes "name") (string frame.name)
    (member (codes "source") (object (member (codes "path") (string frame.path) no_members)) no_members)))))

abbrev pub frame_value : ShownFrame → Data
frame_value frame =
    frame_members (record frame { name = shown_text frame.name; path = shown_text frame.path })

-- the body for `stackTrace`: these frames, of so many in all
abbrev pub stack_body : Data → ℕ → Data
stack_body frames total =
    object (member (codes "stackFrames") frames (member (codes "totalFrames") (number (unsigned total)) no_members))

abbrev pub stack_trace : List ShownFrame → ℕ → Data
stack_trace frames total = stack_body (shown_list (map frame_value frames)) total

-- ---- variables

-- a scope: its name, and the reference by which its variables are asked for
pub record ShownScope : Type 0 where
  pub name : List ℕ
  pub reference : ℕ

abbrev pub plain_shown_scope : Scope → ShownScope
plain_shown_scope scope = record { name = string_bytes scope.name; reference = scope.reference }

-- a Scope of the protocol
abbrev pub scope_value : ShownScope → Data
scope_value scope =
    object (member (codes "expensive") (boolean false) (member (codes "name") (string (shown_text scope.name))
    (member (codes "variablesReference") (number (unsigned scope.reference)) no_members)))

-- the body for `scopes`
abbrev pub scopes : List ShownScope → Data
scopes all = body_of (codes "scopes") (shown_list (map scope_value all))

-- a variable: its name, its value as it is shown, and the reference by which the variables inside are asked for, or 0
pub record ShownVariable : Type 0 where
  pub name : List ℕ
  pub value : List ℕ
  pub reference : ℕ

abbrev pub plain_shown_variable : Variable → ShownVariable
plain_shown_variable variable = record {
  name = string_bytes variable.name;
  value = string_bytes variable.value;
  reference = variable.reference;
}

-- a Variable of the protocol
abbrev pub variable_value : ShownVariable → Data
variable_value variable =
    object (member (codes "name") (string (shown_text variable.name))
    (member (codes "value") (string (shown_text variable.value))
    (member (codes "variablesReference") (number (unsigned variable.reference)) no_members)))

-- the body for `variables`
abbrev pub variables : List ShownVariable → Data
variables all = body_of (codes "variables") (shown_list (map variable_value all))

-- the body for `evaluate`: the value as it is shown, and the reference by which the variables inside are asked for; 0
-- where there are none
abbrev pub evaluated : List ℕ → ℕ → Data
evaluated value reference =
    object (member (codes "result") (string (shown_text value))
    (member (codes "variablesReference") (number (unsigned reference)) no_members))

-- ---- faults

-- the body for `exceptionInfo`: which fault it is, and what that means; the debuggee stops at each
abbrev pub exception_info : List ℕ → List ℕ → Data
exception_info id description =
    object (member (codes "breakMode") (string (codes "always"))
    (member (codes "description") (string (shown_text description))
    (member (codes "exceptionId") (string (shown_text id)) no_members)))

-- ---- threads

-- the body for `threads`: the one thread, and its name
abbrev pub threads : List ℕ → Data
threads name =
    object (member (codes "threads") (array (item (object (member (codes "id") (number (unsigned thread))
    (member (codes "name") (string name) no_members))) no_items)) no_members)

-- ---- breakpoints

-- what became of a breakpoint: it is set at this line, or it isn't set, and why
pub data ShownBreakpoint : Type 0 where
  SetAt : ℕ → ShownBreakpoint
  Refused : List ℕ → ShownBreakpoint

abbrev pub plain_shown_breakpoint : Breakpoint → ShownBreakpoint
plain_shown_breakpoint (breakpoint.SetAt line) = SetAt line
plain_shown_breakpoint (breakpoint.Refused why) = Refused (string_bytes why)

-- a Breakpoint of the protocol
abbrev pub breakpoint_value : ShownBreakpoint → Data
breakpoint_value (SetAt line) =
    object (member (codes "line") (number (unsigned line)) (member (codes "verified") (boolean true) no_members))
breakpoint_value (Refused why) =
    object (member (codes "message") (string (shown_text why)) (member (codes "verified") (boolean false) no_members))

-- the body for `setBreakpoints`
abbrev pub breakpoints : List ShownBreakpoint → Data
breakpoints all = body_of (codes "breakpoints") (shown_list (map breakpoint_value all))
