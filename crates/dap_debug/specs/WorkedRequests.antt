-- Worked examples: what requests ask for by the names of their arguments, computed.
use Rattle.std.specs.Prelude.{◌≡◌, ◌≢◌, ℕ, ◌+◌, true, false, List, [], ◌∷◌, ◌++◌, map, codes, decimal, Option, None, Some}
use Rattle.serde_json.specs.Data.{Data, boolean, number, unsigned, string, array, object, no_members, member, no_items, item}
use Rattle.dap_bodies.specs.Bodies.{Refused, SetAt, evaluated}
use Rattle.dap_bodies.specs.Events.{initialized}
use Rattle.debuggee.specs.Due.{Sight}
use Rattle.debuggee.specs.Plain.{Text, Expression, PlainBreakpoint, Value}
use Rattle.debuggee.specs.declared.breakpoint.Rule.TheVariants.{Exactly}
use Rattle.debuggee.specs.Shown.{Shows, nothing_shown}
use Rattle.dap_debug.specs.declared.command.Command.TheVariants as command
use Rattle.dap_debug.specs.declared.command.Question.TheVariants as question
use Rattle.dap_debug.specs.declared.command.Refusal.TheVariants as refusal
use Rattle.dap_debug.specs.declared.command.Resume.TheVariants as resume
use Rattle.dap_debug.specs.Commands.{checked}
use Rattle.dap_debug.specs.declared.state.Phase.TheVariants as phase
use Rattle.dap_debug.specs.Breakpoints.{IsSet, SetsIn, answers_reply}
use Rattle.dap_debug.specs.Inspecting.{AnswersQuestion, first_frame, frame_asked, frame_count, page_asked, reference_asked, shown_frame}
use Rattle.dap_debug.specs.Loading.{IsLoaded}
use Rattle.dap_debug.specs.Replies.{counting_asked}
use Rattle.dap_debug.specs.Running.{success}
use Rattle.dap_debug.specs.Standings.{from_one}

-- a breakpoint that is asked for
abbrev pub breakpoint : Data
breakpoint =
    object (member (codes "condition") (string (codes "k")) (member (codes "hitCondition") (string (codes "=2"))
    (member (codes "line") (number (unsigned 3)) (member (codes "logMessage") (string (codes "n{k}")) no_members))))

-- arguments, of which each has a value of its own
abbrev pub arguments : Option Data
arguments =
    Some (object (member (codes "breakpoints") (array (item breakpoint no_items))
    (member (codes "count") (number (unsigned 6)) (member (codes "expression") (string (codes "k"))
    (member (codes "frameId") (number (unsigned 2))
    (member (codes "levels") (number (unsigned 3)) (member (codes "program") (string (codes "a"))
    (member (codes "source") (object (member (codes "path") (string (codes "b")) no_members))
    (member (codes "start") (number (unsigned 5)) (member (codes "startFrame") (number (unsigned 4))
    (member (codes "stopOnEntry") (boolean true)
    (member (codes "variablesReference") (number (unsigned 19)) no_members))))))))))))

-- What is asked for of nine frames. Without arguments all frames are, no scopes, and no variables.
abbrev pub FramesAreAsked : Type 0
FramesAreAsked =
    (map (λ asked. first_frame asked 9) (arguments ∷ None ∷ []) ≡ 4 ∷ 0 ∷ [])
    × (map (λ asked. frame_count asked 9) (arguments ∷ None ∷ []) ≡ 3 ∷ 9 ∷ []) × (frame_count None 5000 ≡ 1024)
    × (map (frame_asked 9) (arguments ∷ None ∷ []) ≡ Some 1 ∷ None ∷ [])
    × (map reference_asked (arguments ∷ None ∷ []) ≡ 19 ∷ 0 ∷ [])

-- Which variables are asked for: 1,024 are shown at once at most, and as many where no number is given.
abbrev pub counting : ℕ → Option Data
counting n = Some (object (member (codes "count") (number (unsigned n)) no_members))

abbrev pub PagesAreAsked : Type 0
PagesAreAsked =
    (page_asked arguments ≡ record { start = 5; count = 6 })
    × (map (λ n. (page_asked (counting n)).count) (0 ∷ 1024 ∷ 1025 ∷ []) ≡ 1024 ∷ 1024 ∷ 1024 ∷ [])
    × (page_asked None ≡ record { start = 0; count = 1024 })

-- a program of nine frames, in which an expression evaluates to its own text and the frame's number
abbrev pub sees : Sight (Unit {0})
sees = record {
  place_of = λ s. None;
  depth_of = λ s. 9;
  value_of = λ s frame expression. Value (expression ++ decimal frame) true;
}

-- the answer to `evaluate` with these arguments
abbrev pub ShowsValue : Option Data → List ℕ → Type 0
ShowsValue asked text =
    AnswersQuestion sees nothing_shown question.Evaluate asked from_one [] tt (success (Some (evaluated text 0)) [])

-- in the frame that is asked for, or else in the newest
abbrev pub ExpressionsAreEvaluated : Type 0
ExpressionsAreEvaluated =
    ShowsValue arguments (codes "k1")
    × ShowsValue (Some (object (member (codes "expression") (string (codes "k")) no_members))) (codes "k0")

abbrev pub ProgramIsLoaded : Type 0
ProgramIsLoaded =
    IsLoaded arguments (tt {0}) (success None (initialized ∷ []))
    (record {
      phase = phase.Configuring (tt {0}) true;
      path = codes "a";
      fault = None;
      breakpoints = [];
      counting = from_one;
    })

-- the breakpoint that is set for it at place 7
abbrev pub placed : PlainBreakpoint
placed = record {
  place = 7;
  condition = Some (codes "k");
  rule = Some (Exactly 2);
  arrivals = 0;
  message = Some (Text (codes "n") ∷ (Expression (codes "k") ∷ (Text [] ∷ (Text (codes "\n") ∷ []))));
}

-- The first place for a line is 7, on the line after it; and each condition has a mistake, but `k`.
abbrev pub shows : Shows (Unit {0})
shows = record nothing_shown {
  first_place = λ program line first. first ≡ Some (record { place = 7; line = line + 1 });
  mistake_of = λ program place condition mistake. (condition ≢ codes "k") × (mistake ≡ codes "no " ++ condition);
}

abbrev pub BreakpointIsSet : Type 0
BreakpointIsSet =
    SetsIn shows 0 arguments (tt {0}) (codes "b") [] (answers_reply (SetAt 4 ∷ [])) (placed ∷ [])

-- none is set with a condition that has a mistake, which is told
abbrev pub MistakeIsTold : Type 0
MistakeIsTold =
    IsSet shows 0 (tt {0})
    (object (member (codes "condition") (string (codes "j")) (member (codes "line") (number (unsigned 3)) no_members)))
    (Refused (codes "no j")) None

-- without a line that is a number none is set, though each line has a first place
abbrev pub LineIsAsked : Type 0
LineIsAsked =
    IsSet shows 0 (tt {0})
    (object (member (codes "line") (string (codes "3")) no_members)) (Refused (codes "no")) None

abbrev pub asking : List ℕ → Data → Option Data
asking key value = Some (object (member key value no_members))

-- How a client counts that says nothing of it, or that it counts lines, or columns, from 0. Where it counts lines so,
-- line 2 is the third, the first place for it is on the fourth, which is line 3; and so is a frame there, in column 1.
-- Where it counts columns so, that frame is on line 4, in column 0.
abbrev pub CountingIsAsked : Type 0
CountingIsAsked =
    (map counting_asked (arguments ∷ asking (codes "linesStartAt1") (boolean false)
    ∷ asking (codes "columnsStartAt1") (boolean false) ∷ [])
    ≡ from_one ∷ record from_one { lines_start_at_1 = false } ∷ record from_one { columns_start_at_1 = false } ∷ [])
    × IsSet shows 1 (tt {0}) (object (member (codes "line") (number (unsigned 2)) no_members)) (SetAt 3)
    (Some (record { place = 7; condition = None; rule = None; arrivals = 0; message = None }))
    × (map (λ counting. shown_frame counting [] 0 (record { name = []; line = 4; column = 1 }))
    (record from_one { lines_start_at_1 = false } ∷ record from_one { columns_start_at_1 = false } ∷ [])
    ≡ record { id = 1; name = []; path = []; line = 3; column = 1 }
    ∷ record { id = 1; name = []; path = []; line = 4; column = 0 } ∷ [])

-- what is refused for its arguments: a launch without a debugger, another thread, and lines alone
abbrev pub CommandsAreChecked : Type 0
CommandsAreChecked =
    (map (checked command.Launch) (arguments ∷ asking (codes "noDebug") (boolean true)
    ∷ asking (codes "noDebug") (boolean false) ∷ [])
    ≡ command.Launch ∷ command.Refused refusal.NoDebug ∷ command.Launch ∷ [])
    × (map (checked command.Pause) (arguments ∷ asking (codes "threadId") (number (unsigned 1))
    ∷ asking (codes "threadId") (number (unsigned 2)) ∷ [])
    ≡ command.Pause ∷ command.Pause ∷ command.Refused refusal.OtherThread ∷ [])
    × (map (λ asked. checked asked (asking (codes "threadId") (number (unsigned 2))))
    (command.Resume resume.Next ∷ command.Inspect question.StackTrace ∷ command.Inspect question.Scopes ∷ [])
    ≡ command.Refused refusal.OtherThread ∷ command.Refused refusal.OtherThread ∷ command.Inspect question.Scopes ∷ [])
    × (map (checked command.SetBreakpoints) (arguments ∷ asking (codes "lines") (array no_items) ∷ None ∷ [])
    ≡ command.SetBreakpoints ∷ command.Refused refusal.LinesAlone ∷ command.SetBreakpoints ∷ [])
