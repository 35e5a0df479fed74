-- Defines where a run halts, at the first state that is due, and what is told: what its steps print and what messages
-- say, in order.
use Rattle.std.specs.Prelude.{◌≡◌, ◌<◌, ◌+◌, ℕ, Bool, List, [], ◌∷◌, ◌++◌, map, Option, None, Some}
use Rattle.std.specs.List.{list_any}
use Rattle.debuggee.specs.declared.mode.Mode.{Mode}
use Rattle.debuggee.specs.Plain.{PlainStep, Goes, Prints, Ends, Fails, PlainBreakpoint, PlainHalt, AtEnd, AtFault, PlainOutput, Printed}
use Rattle.debuggee.specs.Due.{Sight, counted, stops, due, log_of, logs}

-- the steps of a language
abbrev pub Meaning : Type 0 → Type 1
Meaning S = S → PlainStep → S → Type 0

-- one step on, and what it prints
pub data Moves {S : Type 0} (takes : Meaning S) (a b : S) : List PlainOutput → Type 0 where
  Silently : takes a Goes b → Moves takes a b []
  Printing : (text : List ℕ) → takes a (Prints text) b → Moves takes a b (Printed text ∷ [])

-- One step, and why the run halts after it, if it does: the step ends the program, or can't be taken; or it leads to a
-- state that is due, where arrivals are counted and messages said.
abbrev pub Advances : {S : Type 0} → Meaning S → Sight S → Mode → S → List PlainBreakpoint → Option PlainHalt → S
    → List PlainBreakpoint → List PlainOutput → Type 0
Advances takes see mode a old (Some (AtEnd status)) b new told = takes a (Ends status) b × (new ≡ old) × (told ≡ [])
Advances takes see mode a old (Some (AtFault why)) b new told = takes a (Fails why) b × (new ≡ old) × (told ≡ [])
Advances takes see mode a old halt b new told =
    (printed : List PlainOutput) × Moves takes a b printed × (halt ≡ due see mode old b)
    × (new ≡ map (counted see b) old) × (told ≡ printed ++ logs see b old)

-- so many steps, with no halt after any of them
pub data Passes {S : Type 0} (takes : Meaning S) (see : Sight S) (mode : Mode) (a : S) (old : List PlainBreakpoint)
    : ℕ → S → List PlainBreakpoint → List PlainOutput → Type 0 where
  Stays : Passes takes see mode a old 0 a old []
  Then : (many : ℕ) (m b : S) (mid new : List PlainBreakpoint) (told more : List PlainOutput)
      → Passes takes see mode a old many m mid told → Advances takes see mode m mid None b new more
      → Passes takes see mode a old (many + 1) b new (told ++ more)

-- A run of at most so many steps: after none but the last it halts, and after the last it halts, or only its slice
-- ends. What is told is added to what was told before.
abbrev pub Runs : {S : Type 0} → Meaning S → Sight S → ℕ → Mode → S → List PlainBreakpoint → Option PlainHalt → S
    → List PlainBreakpoint → List PlainOutput → List PlainOutput → Type 0
Runs {S} takes see most mode a old halt b new before after =
    (many : ℕ) × (many < most) × (m : S) × (mid : List PlainBreakpoint) × (told : List PlainOutput)
    × (more : List PlainOutput) × Passes takes see mode a old many m mid told
    × Advances takes see mode m mid halt b new more × (after ≡ before ++ (told ++ more))

-- the most steps that a slice of a run takes
abbrev pub slice_limit : ℕ
slice_limit = 1000

-- what is due in a state is returned, arrivals are counted, and messages said
abbrev pub Arrives : {S : Type 0} → Sight S → Mode → S → List PlainBreakpoint → Option PlainHalt
    → List PlainBreakpoint → List PlainOutput → List PlainOutput → Type 0
Arrives see mode s old halt new before after =
    (halt ≡ due see mode old s) × (new ≡ map (counted see s) old) × (after ≡ before ++ logs see s old)

-- ---- for private contracts

abbrev pub Added : (List PlainOutput → Type 0) → List PlainOutput → List PlainOutput → Type 0
Added tells before after = (told : List PlainOutput) × tells told × (after ≡ before ++ told)

abbrev pub Takes : {S : Type 0} → Meaning S → S → Option PlainHalt → S → List PlainOutput → Type 0
Takes takes a None b told = Moves takes a b told
Takes takes a (Some (AtEnd status)) b told = takes a (Ends status) b × (told ≡ [])
Takes takes a (Some (AtFault why)) b told = takes a (Fails why) b × (told ≡ [])
Takes takes a (Some halt) b told = ⊥

abbrev pub ArrivesAt : {S : Type 0} → Sight S → S → PlainBreakpoint → Bool → PlainBreakpoint → List PlainOutput
    → List PlainOutput → Type 0
ArrivesAt see s old stop new before after =
    (stop ≡ stops see s old) × (new ≡ counted see s old) × (after ≡ before ++ log_of see s old)

abbrev pub ArrivesAll : {S : Type 0} → Sight S → S → List PlainBreakpoint → Bool → List PlainBreakpoint
    → List PlainOutput → List PlainOutput → Type 0
ArrivesAll see s old stop new before after =
    (stop ≡ list_any (stops see s) old) × (new ≡ map (counted see s) old) × (after ≡ before ++ logs see s old)
