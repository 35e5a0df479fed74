-- Defines marks of places, for private contracts.
use Rattle.std.specs.Prelude.{◌≡◌, ◌≢◌, ◌≤◌, ◌<◌, ℕ, ◌+◌, ◌%◌, Bool, List, map, length, get_or, Option, None, Some, if◌then◌else◌}
use Rattle.debuggee.specs.declared.mode.Mode.{Mode}
use Rattle.debuggee.specs.Plain.{PlainBreakpoint, PlainHalt, AtBreakpoint, AtStep, PlainOutput}
use Rattle.debuggee.specs.Due.{Sight, is_asked}
use Rattle.debuggee.specs.Runs.{Added, Meaning, Passes, Runs, slice_limit}

-- how many marks there are
abbrev pub mark_count : ℕ
mark_count = 1024

abbrev pub places_of : List PlainBreakpoint → List ℕ
places_of breakpoints = map (λ b. b.place) breakpoints

-- the mark of the breakpoint with this index; places whose numbers leave the same remainder share one
abbrev pub mark_at : List ℕ → ℕ → ℕ
mark_at places i = get_or places i 0 % mark_count

-- from an index on, the first breakpoint with the mark; or there is none
pub record IsNext (places : List ℕ) (mark from to : ℕ) : Type 0 where
  pub reaches : from ≤ to
  pub within : to ≤ length places
  pub between : (i : ℕ) → from ≤ i → i < to → mark_at places i ≢ mark
  pub there : to < length places → mark_at places to ≡ mark

-- the first breakpoint of each mark, and after each the next of its mark
pub record AreChained (first next places : List ℕ) : Type 0 where
  pub heads : (mark : ℕ) → mark < mark_count → IsNext places mark 0 (get_or first mark 0)
  pub others : (i : ℕ) → i < length places → IsNext places (mark_at places i) (i + 1) (get_or next i 0)
  pub heads_long : length first ≡ mark_count
  pub others_long : length next ≡ length places

abbrev pub AreMarked : List ℕ → List ℕ → List PlainBreakpoint → Type 0
AreMarked first next breakpoints = AreChained first next (places_of breakpoints)

-- what is due where a breakpoint stops the program, or none does
abbrev pub halt_of : {S : Type 0} → Sight S → Mode → Bool → S → Option PlainHalt
halt_of see mode stops s = if stops then Some AtBreakpoint else if is_asked see mode s then Some AtStep else None

-- a slice that halts, or steps with no halt after any of them, fewer than a slice takes
abbrev pub PassesOrHalts : {S : Type 0} → Meaning S → Sight S → Mode → List ℕ → List ℕ → S → List PlainBreakpoint
    → Option PlainHalt → S → List PlainBreakpoint → List PlainOutput → List PlainOutput → Type 0
PassesOrHalts takes see mode first next a old None b new before after =
    Added (λ told. (many : ℕ) × (many < slice_limit) × Passes takes see mode a old many b new told) before after
    × AreMarked first next new
PassesOrHalts takes see mode first next a old (Some halt) b new before after =
    Runs takes see slice_limit mode a old (Some halt) b new before after
