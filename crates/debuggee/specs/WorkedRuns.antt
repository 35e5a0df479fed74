-- States worked examples: where breakpoints and modes stop a program of six states, and what its runs tell. Each was
-- computed from the definitions.
use Rattle.std.specs.Prelude.{◌≡◌, ℕ, ◌+◌, ◌%◌, Bool, true, false, ◌&&◌, nat_eq, nat_le, if◌then◌else◌, List, [], ◌∷◌, map, get_or, codes, Option, None, Some}
use Rattle.std.specs.Str.{bytes_eq}
use Rattle.debuggee.specs.declared.breakpoint.Rule.{Rule}
use Rattle.debuggee.specs.declared.breakpoint.Rule.TheVariants.{From, Exactly, Every}
use Rattle.debuggee.specs.declared.mode.Mode.TheVariants.{Continue, In, Over, Out}
use Rattle.debuggee.specs.Plain.{PlainFault, PlainStep, Goes, Prints, Ends, Fails, Value, NoValue, Text, Expression, PlainBreakpoint, AtBreakpoint, AtStep, AtEnd, AtFault, Printed, Logged}
use Rattle.debuggee.specs.Due.{Sight, counted, accepts, stops, due, logs}
use Rattle.debuggee.specs.Runs.{Meaning, Runs}

-- ---- a program

abbrev pub digit : ℕ → List ℕ
digit n = (48 + n) ∷ []

abbrev pub stuck : PlainFault
stuck = record { name = codes "Stuck"; text = codes "it is stuck" }

-- States 0 and 2 to 4 print their number; 1 prints nothing. 5 is the end, with status 7. No step can be taken from a
-- later one.
abbrev pub step_of : ℕ → PlainStep
step_of n =
    if nat_eq n 1 then Goes
    else if nat_le n 4 then Prints (digit n)
    else if nat_eq n 5 then Ends 7
    else Fails stuck

-- the next state has the next number
abbrev pub takes : Meaning ℕ
takes n step m = (step ≡ step_of n) × (m ≡ (if nat_le n 4 then n + 1 else n))

-- It isn't to stop in state 0. The even states are at place 0, and the odd ones at 1. The one name is `n`, in the
-- newest frame, the number of the state, and a condition `n` holds from 3 on.
abbrev pub see : Sight ℕ
see = record {
  place_of = λ n. if nat_eq n 0 then None else Some (n % 2);
  depth_of = λ n. get_or (1 ∷ 2 ∷ 3 ∷ 2 ∷ 1 ∷ 1 ∷ []) n 0;
  value_of = λ n frame name.
      if nat_eq frame 0 && bytes_eq name (codes "n") then Value (digit n) (nat_le 3 n) else NoValue (codes "?");
}

abbrev pub states : List ℕ
states = 0 ∷ 1 ∷ 2 ∷ 3 ∷ 4 ∷ 5 ∷ []

abbrev pub at_place : ℕ → Option (List ℕ) → Option Rule → ℕ → PlainBreakpoint
at_place place condition rule arrivals =
    record { place = place; condition = condition; rule = rule; arrivals = arrivals; message = None }

-- `n is {n}{m}`
abbrev pub saying : PlainBreakpoint → PlainBreakpoint
saying b =
    record b { message = Some (Text (codes "n is ") ∷ Expression (codes "n") ∷ Expression (codes "m") ∷ []) }

abbrev pub stops_at : PlainBreakpoint → List Bool
stops_at b = map (λ n. stops see n b) states

-- ---- breakpoints

-- A breakpoint stops the program at its place, where its condition holds or has no value.
abbrev pub ConditionsStop : Type 0
ConditionsStop =
    map stops_at (at_place 0 None None 0 ∷ at_place 1 None None 0 ∷ at_place 1 (Some (codes "n")) None 0
    ∷ at_place 1 (Some (codes "m")) None 0 ∷ at_place 2 None None 0 ∷ saying (at_place 1 None None 0) ∷ [])
    ≡ (false ∷ false ∷ true ∷ false ∷ true ∷ false ∷ []) ∷ (false ∷ true ∷ false ∷ true ∷ false ∷ true ∷ [])
    ∷ (false ∷ false ∷ false ∷ true ∷ false ∷ true ∷ []) ∷ (false ∷ true ∷ false ∷ true ∷ false ∷ true ∷ [])
    ∷ (false ∷ false ∷ false ∷ false ∷ false ∷ false ∷ []) ∷ (false ∷ false ∷ false ∷ false ∷ false ∷ false ∷ []) ∷ []

-- the rules, of the arrivals 1 to 6
abbrev pub RulesAccept : Type 0
RulesAccept =
    map (λ rule. map (accepts rule) (1 ∷ 2 ∷ 3 ∷ 4 ∷ 5 ∷ 6 ∷ []))
    (None ∷ Some (From 3) ∷ Some (Exactly 2) ∷ Some (Every 2) ∷ Some (Every 0) ∷ [])
    ≡ (true ∷ true ∷ true ∷ true ∷ true ∷ true ∷ []) ∷ (false ∷ false ∷ true ∷ true ∷ true ∷ true ∷ [])
    ∷ (false ∷ true ∷ false ∷ false ∷ false ∷ false ∷ []) ∷ (false ∷ true ∷ false ∷ true ∷ false ∷ true ∷ [])
    ∷ (false ∷ false ∷ false ∷ false ∷ false ∷ false ∷ []) ∷ []

-- An arrival counts where the condition holds or has no value, and has the next number for the rule.
abbrev pub ArrivalsCount : Type 0
ArrivalsCount =
    (map (λ n. (counted see n (at_place 1 (Some (codes "n")) None 4)).arrivals) states
    ≡ 4 ∷ 4 ∷ 4 ∷ 5 ∷ 4 ∷ 5 ∷ [])
    × ((counted see 1 (at_place 1 (Some (codes "m")) None 18446744073709551614)).arrivals ≡ 18446744073709551615)
    × ((counted see 1 (at_place 1 None None 18446744073709551615)).arrivals ≡ 18446744073709551615)
    × (map (λ arrivals. stops see 3 (at_place 1 None (Some (Exactly 3)) arrivals)) (1 ∷ 2 ∷ 3 ∷ [])
    ≡ false ∷ true ∷ false ∷ [])

-- ---- modes

-- A mode asks for a state by the number of frames, where the program may stop; and a breakpoint comes before it.
abbrev pub ModesAsk : Type 0
ModesAsk =
    map (λ mode. map (due see mode []) states) (Continue ∷ In ∷ Over 2 ∷ Out 2 ∷ [])
    ≡ (None ∷ None ∷ None ∷ None ∷ None ∷ None ∷ [])
    ∷ (None ∷ Some AtStep ∷ Some AtStep ∷ Some AtStep ∷ Some AtStep ∷ Some AtStep ∷ [])
    ∷ (None ∷ Some AtStep ∷ None ∷ Some AtStep ∷ Some AtStep ∷ Some AtStep ∷ [])
    ∷ (None ∷ None ∷ None ∷ None ∷ Some AtStep ∷ Some AtStep ∷ []) ∷ []

abbrev pub BreakpointsComeFirst : Type 0
BreakpointsComeFirst =
    map (λ breakpoints. due see In breakpoints 3)
    ((at_place 1 None None 0 ∷ at_place 0 None None 0 ∷ []) ∷ (at_place 0 None None 0 ∷ at_place 1 None None 0 ∷ [])
    ∷ (saying (at_place 1 None None 0) ∷ at_place 0 None None 0 ∷ []) ∷ [])
    ≡ Some AtBreakpoint ∷ Some AtBreakpoint ∷ Some AtStep ∷ []

-- ---- messages

-- what breakpoints say at the arrivals that they accept
abbrev pub MessagesSay : Type 0
MessagesSay =
    map (λ n. logs see n (saying (at_place 1 None (Some (From 2)) 1) ∷ saying (at_place 0 None (Some (From 2)) 0)
    ∷ at_place 1 None None 0 ∷ saying (at_place 1 (Some (codes "n")) None 0) ∷ [])) (1 ∷ 2 ∷ 3 ∷ [])
    ≡ (Logged (codes "n is 1?") ∷ []) ∷ [] ∷ (Logged (codes "n is 3?") ∷ Logged (codes "n is 3?") ∷ []) ∷ []

-- ---- runs

-- a run of three steps to the second arrival at a breakpoint, past another that says something
abbrev pub RunStops : Type 0
RunStops =
    Runs takes see 3 Continue 0 (at_place 1 None (Some (Exactly 2)) 0 ∷ saying (at_place 0 None None 0) ∷ [])
    (Some AtBreakpoint) 3 (at_place 1 None (Some (Exactly 2)) 2 ∷ saying (at_place 0 None None 1) ∷ [])
    (Printed (codes "before") ∷ [])
    (Printed (codes "before") ∷ Printed (codes "0") ∷ Logged (codes "n is 2?") ∷ Printed (codes "2") ∷ [])

-- a run to the end, one into a fault, a slice that ends before, and none without a step
abbrev pub RunsEnd : Type 0
RunsEnd =
    Runs takes see 2 Continue 4 [] (Some (AtEnd 7)) 5 [] [] (Printed (codes "4") ∷ [])
    × Runs takes see 1 In 6 [] (Some (AtFault stuck)) 6 [] [] []
    × Runs takes see 2 (Out 1) 0 [] None 2 [] [] (Printed (codes "0") ∷ [])
    × (Runs takes see 0 In 6 [] (Some (AtFault stuck)) 6 [] [] [] → ⊥)
