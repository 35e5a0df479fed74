-- Defines arrivals at breakpoints, what they log, and when a state is due.
use Rattle.std.specs.Prelude.{ℕ, ◌+◌, ◌%◌, min, ◌^◌, ◌-◌, Bool, true, false, ◌&&◌, not, nat_eq, nat_le, nat_lt, is_none, is_some, if◌then◌else◌, List, [], ◌∷◌, Option, None, Some}
use Rattle.std.specs.List.{list_any, flat_map}
use Rattle.debuggee.specs.declared.breakpoint.Rule.{Rule}
use Rattle.debuggee.specs.declared.breakpoint.Rule.TheVariants.{From, Exactly, Every}
use Rattle.debuggee.specs.declared.mode.Mode.{Mode}
use Rattle.debuggee.specs.declared.mode.Mode.TheVariants.{Continue, In, Over, Out}
use Rattle.debuggee.specs.Plain.{PlainEvaluated, Value, NoValue, PlainPart, Text, Expression, PlainBreakpoint, PlainHalt, AtBreakpoint, AtStep, PlainOutput, Logged}

-- What a debugger sees of a state: its place, if the program may stop there; how many frames are alive; and what
-- expressions evaluate to in a frame, of which the newest is 0.
pub record Sight (S : Type 0) : Type 0 where
  pub place_of : S → Option ℕ
  pub depth_of : S → ℕ
  pub value_of : S → ℕ → List ℕ → PlainEvaluated

-- ---- arrivals

-- a condition without a value counts as one that holds
abbrev pub holds_or_fails : PlainEvaluated → Bool
holds_or_fails (Value text holds) = holds
holds_or_fails (NoValue why) = true

-- the condition, if there is one, holds in the newest frame
abbrev pub holds : {S : Type 0} → Sight S → S → Option (List ℕ) → Bool
holds see s None = true
holds see s (Some condition) = holds_or_fails (see.value_of s 0 condition)

abbrev pub is_at : Option ℕ → ℕ → Bool
is_at None place = false
is_at (Some here) place = nat_eq here place

-- the program is at the breakpoint's place, and its condition holds there
abbrev pub arrives : {S : Type 0} → Sight S → S → PlainBreakpoint → Bool
arrives see s b = is_at (see.place_of s) b.place && holds see s b.condition

-- the number of the next arrival
abbrev pub next_arrival : PlainBreakpoint → ℕ
next_arrival b = min (b.arrivals + 1) (2 ^ 64 - 1)

-- the breakpoint after the program has come to a state
abbrev pub counted : {S : Type 0} → Sight S → S → PlainBreakpoint → PlainBreakpoint
counted see s b = if arrives see s b then record b { arrivals = next_arrival b } else b

-- the rule accepts the arrival with this number, the first being 1
abbrev pub accepts : Option Rule → ℕ → Bool
accepts None n = true
accepts (Some (From k)) n = nat_le k n
accepts (Some (Exactly k)) n = nat_eq k n
accepts (Some (Every k)) n = not (nat_eq k 0) && nat_eq (n % k) 0

-- the program arrives at the breakpoint, which accepts it
abbrev pub is_hit : {S : Type 0} → Sight S → S → PlainBreakpoint → Bool
is_hit see s b = arrives see s b && accepts b.rule (next_arrival b)

-- ---- due states

-- the breakpoint stops the program: it has no message
abbrev pub stops : {S : Type 0} → Sight S → S → PlainBreakpoint → Bool
stops see s b = is_none b.message && is_hit see s b

-- the mode asks for a state where so many frames are alive
abbrev pub asks : Mode → ℕ → Bool
asks Continue depth = false
asks In depth = true
asks (Over most) depth = nat_le depth most
asks (Out fewer) depth = nat_lt depth fewer

abbrev pub is_asked : {S : Type 0} → Sight S → Mode → S → Bool
is_asked see mode s = is_some (see.place_of s) && asks mode (see.depth_of s)

-- why the program is to stop in a state, if it is
abbrev pub due : {S : Type 0} → Sight S → Mode → List PlainBreakpoint → S → Option PlainHalt
due see mode breakpoints s =
    if list_any (stops see s) breakpoints then Some AtBreakpoint
    else if is_asked see mode s then Some AtStep
    else None

-- ---- logs

abbrev pub text_of_value : PlainEvaluated → List ℕ
text_of_value (Value text holds) = text
text_of_value (NoValue why) = why

abbrev pub part_text : {S : Type 0} → Sight S → S → PlainPart → List ℕ
part_text see s (Text text) = text
part_text see s (Expression text) = text_of_value (see.value_of s 0 text)

abbrev pub said : {S : Type 0} → Sight S → S → Option (List PlainPart) → List PlainOutput
said see s None = []
said see s (Some parts) = Logged (flat_map (part_text see s) parts) ∷ []

-- what a breakpoint logs
abbrev pub log_of : {S : Type 0} → Sight S → S → PlainBreakpoint → List PlainOutput
log_of see s b = if is_hit see s b then said see s b.message else []

-- what all log, one after another
abbrev pub logs : {S : Type 0} → Sight S → S → List PlainBreakpoint → List PlainOutput
logs see s breakpoints = flat_map (log_of see s) breakpoints
