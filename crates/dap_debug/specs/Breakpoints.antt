-- Defines which breakpoints are set, and what is answered.
use Rattle.std.specs.Prelude.{◌≡◌, ◌≢◌, ◌⊎◌, ◌<◌, ◌≤◌, ◌^◌, ◌-◌, ℕ, length, All, List, [], ◌∷◌, ◌++◌, codes, decimal, Option, None, Some, option_map, unwrap_or}
use Rattle.std.specs.Option.{option_to_list}
use Rattle.serde_json.specs.Data.{Data, Items, no_items, item}
use Rattle.dap_bodies.specs.Bodies.{ShownBreakpoint, SetAt, Refused, breakpoints}
use Rattle.dap_server.specs.Messages.{PlainReply}
use Rattle.debuggee.specs.Plain.{PlainPart, Text, Expression, PlainBreakpoint}
use Rattle.debuggee.specs.declared.breakpoint.Rule.{Rule}
use Rattle.debuggee.specs.declared.breakpoint.Rule.TheVariants.{From, Exactly, Every}
use Rattle.debuggee.specs.Shown.{Shows}
use Rattle.debuggee.specs.declared.language.Location.{Location}
use Rattle.dap_bodies.specs.Arguments.{list_at, member_at, text_at, whole_at}
use Rattle.dap_debug.specs.Running.{success, IsRefused}
use Rattle.dap_debug.specs.Standings.{Standing, from_client, line_offset, program_in}

-- ---- texts

-- the text at a key of a breakpoint that is asked for; an absent one is empty
abbrev pub text_of : List ℕ → Data → List ℕ
text_of key asked = unwrap_or (text_at key (Some asked)) []

-- a text that is empty is none
abbrev pub unless_empty : List ℕ → Option (List ℕ)
unless_empty [] = None
unless_empty (byte ∷ bytes) = Some (byte ∷ bytes)

-- the number of an arrival, of which the first is 1
abbrev pub IsCount : ℕ → Type 0
IsCount n = (0 < n) × (n < 2 ^ 64)

-- The rule that a hit condition is: `n` accepts the nth arrival and those after it, `=n` that one alone, and `%n` each
-- whose number n divides. An empty one accepts each.
abbrev pub IsRule : List ℕ → Option Rule → Type 0
IsRule text None = text ≡ []
IsRule text (Some (From n)) = (text ≡ decimal n) × IsCount n
IsRule text (Some (Exactly n)) = (text ≡ codes "=" ++ decimal n) × IsCount n
IsRule text (Some (Every n)) = (text ≡ codes "%" ++ decimal n) × IsCount n

-- the codes of `{` and `}`
abbrev pub open_brace : ℕ
open_brace = 123

abbrev pub close_brace : ℕ
close_brace = 125

-- the byte doesn't stand in the text
abbrev pub Lacks : ℕ → List ℕ → Type 0
Lacks byte text = All (λ b. b ≢ byte) text

-- the text has no `{`, or one after which no `}` comes
abbrev pub IsUnclosed : List ℕ → Type 0
IsUnclosed text =
    Lacks open_brace text
    ⊎ ((before : List ℕ) × (after : List ℕ) × (text ≡ before ++ (codes "{" ++ after)) × Lacks open_brace before
    × Lacks close_brace after)

-- the text has an expression in braces: the first `{`, what is before it, and the next `}`
abbrev pub HasExpression : List ℕ → List ℕ → List ℕ → List ℕ → Type 0
HasExpression text before inner rest =
    (text ≡ before ++ (codes "{" ++ (inner ++ (codes "}" ++ rest)))) × Lacks open_brace before × Lacks close_brace inner

-- A message is read from the left. Where no expression is left, the rest stands for itself, and ends its line. Else
-- what is before the first `{` stands for itself, then comes an expression, up to the next `}`, and what follows is
-- read in the same way.
abbrev pub AreParts : List ℕ → List PlainPart → Type 0
AreParts text (Text bytes ∷ (Text end ∷ [])) = (bytes ≡ text) × (end ≡ codes "\n") × IsUnclosed text
AreParts text (Text before ∷ (Expression inner ∷ parts)) =
    (rest : List ℕ) × HasExpression text before inner rest × AreParts rest parts
AreParts text _ = ⊥

-- the parts of a message, where there is one
abbrev pub IsMessage : List ℕ → Option (List PlainPart) → Type 0
IsMessage text None = text ≡ []
IsMessage text (Some parts) = (text ≢ []) × AreParts text parts

-- the most bytes of a message
abbrev pub message_limit : ℕ
message_limit = 65536

-- ---- one breakpoint

-- the line that a breakpoint is asked for, counted from 1, of a client whose lines are so much less
abbrev pub line_of : ℕ → Data → Option ℕ
line_of less asked = option_map (from_client less) (whole_at (codes "line") (Some asked))

-- a place with its line as the client counts
abbrev pub counted_at : ℕ → Location → Location
counted_at less location = record location { line = location.line - less }

-- the condition that is asked for, if there is one
abbrev pub condition_of : Data → Option (List ℕ)
condition_of asked = unless_empty (text_of (codes "condition") asked)

-- the breakpoint is set at this place with the condition, the rule and the message that are asked for, and no arrival
pub record IsBreakpoint (asked : Data) (place : ℕ) (set : PlainBreakpoint) : Type 0 where
  pub place_is : set.place ≡ place
  pub condition : set.condition ≡ condition_of asked
  pub rule : IsRule (text_of (codes "hitCondition") asked) set.rule
  pub message : IsMessage (text_of (codes "logMessage") asked) set.message
  pub short : length (text_of (codes "logMessage") asked) ≤ message_limit
  pub none_yet : set.arrivals ≡ 0

-- the hit condition that is asked for is no rule
abbrev pub IsNoRule : Data → Type 0
IsNoRule asked = (rule : Option Rule) → ¬ IsRule (text_of (codes "hitCondition") asked) rule

-- the message that is asked for has too many bytes
abbrev pub IsTooLong : Data → Type 0
IsTooLong asked = message_limit < length (text_of (codes "logMessage") asked)

-- the condition that is asked for has this mistake, as the language says
abbrev pub HasMistake : {S : Type 0} → Shows S → S → ℕ → Option (List ℕ) → List ℕ → Type 0
HasMistake shows program place None why = ⊥
HasMistake shows program place (Some condition) why = shows.mistake_of program place condition why

-- What is answered where the first place for the line is this one: a breakpoint is set there, and it is told at which
-- line; or none is, and why. Where there is a place, none is only where the hit condition is no rule, the message is
-- too long, or the condition has a mistake, which is told.
abbrev pub IsAnswered : {S : Type 0} → Shows S → S → Data → Option Location → ShownBreakpoint → Option PlainBreakpoint
    → Type 0
IsAnswered shows program asked None answer None = (why : List ℕ) × (answer ≡ Refused why)
IsAnswered shows program asked None answer (Some set) = ⊥
IsAnswered shows program asked (Some location) answer None =
    (why : List ℕ) × (answer ≡ Refused why)
    × (IsNoRule asked ⊎ (IsTooLong asked ⊎ HasMistake shows program location.place (condition_of asked) why))
IsAnswered shows program asked (Some location) answer (Some set) =
    (answer ≡ SetAt location.line) × IsBreakpoint asked location.place set

-- the first place for a line, as the language says; without a line there is none
abbrev pub IsFirst : {S : Type 0} → Shows S → S → Option ℕ → Option Location → Type 0
IsFirst shows program None first = first ≡ None
IsFirst shows program (Some line) first = shows.first_place program line first

-- what is answered to a breakpoint, and what is set for it; lines are asked for and told as the client counts
abbrev pub IsSet : {S : Type 0} → Shows S → ℕ → S → Data → ShownBreakpoint → Option PlainBreakpoint → Type 0
IsSet shows less program asked answer set =
    (first : Option Location) × IsFirst shows program (line_of less asked) first
    × IsAnswered shows program asked (option_map (counted_at less) first) answer set

-- each is answered, in order, and what is set is just those that are
abbrev pub AreSet : {S : Type 0} → Shows S → ℕ → S → Items → List ShownBreakpoint → List PlainBreakpoint → Type 0
AreSet shows less program no_items [] set = set ≡ []
AreSet shows less program (item asked more) (answer ∷ others) set =
    (one : Option PlainBreakpoint) × (rest : List PlainBreakpoint) × (set ≡ option_to_list one ++ rest)
    × IsSet shows less program asked answer one × AreSet shows less program more others rest
AreSet shows less program _ _ set = ⊥

-- ---- replies

-- the path of the source whose breakpoints are asked for
abbrev pub source_asked : Option Data → Option (List ℕ)
source_asked arguments = text_at (codes "path") (member_at (codes "source") arguments)

-- none of them is set
abbrev pub AreUnset : Items → List ShownBreakpoint → Type 0
AreUnset no_items [] = Unit {0}
AreUnset (item asked more) (answer ∷ others) = ((why : List ℕ) × (answer ≡ Refused why)) × AreUnset more others
AreUnset _ _ = ⊥

-- the reply that gives these answers
abbrev pub answers_reply : List ShownBreakpoint → PlainReply
answers_reply answers = success (Some (breakpoints answers)) []

-- In the program's own source each is set or not, as it is answered, and no other is left. In another source none is
-- set, and those of the program are left.
pub data SetsIn {S : Type 0} (shows : Shows S) (less : ℕ) (arguments : Option Data) (program : S)
    (path : List ℕ) (old : List PlainBreakpoint) (reply : PlainReply) (new : List PlainBreakpoint) : Type 0 where
  Own : source_asked arguments ≡ Some path → (answers : List ShownBreakpoint)
      → AreSet shows less program (list_at (codes "breakpoints") arguments) answers new
      → reply ≡ answers_reply answers → SetsIn shows less arguments program path old reply new
  Other : source_asked arguments ≢ Some path → (answers : List ShownBreakpoint)
      → AreUnset (list_at (codes "breakpoints") arguments) answers → reply ≡ answers_reply answers → new ≡ old
      → SetsIn shows less arguments program path old reply new

-- nothing but the breakpoints changes
abbrev pub SetsOnly : {S : Type 0} → Shows S → Option Data → S → Standing S → PlainReply
    → Standing S → Type 0
SetsOnly shows arguments program stood reply stands =
    SetsIn shows (line_offset stood.counting) arguments program stood.path stood.breakpoints reply stands.breakpoints
    × (stands ≡ record stood { breakpoints = stands.breakpoints })

-- breakpoints are set in a program that there is, also while it runs
abbrev pub SetsFrom : {S : Type 0} → Shows S → Option S → Option Data → Standing S
    → PlainReply → Standing S → Type 0
SetsFrom shows None arguments stood reply stands = IsRefused stood reply stands
SetsFrom shows (Some program) arguments stood reply stands =
    SetsOnly shows arguments program stood reply stands

abbrev pub Sets : {S : Type 0} → Shows S → Option Data → Standing S → PlainReply
    → Standing S → Type 0
Sets shows arguments stood reply stands =
    SetsFrom shows (program_in stood.phase) arguments stood reply stands
