-- States what holds of runs in every language.
use Rattle.std.specs.Prelude.{ℕ, ◌+◌, List, Option, None}
use Rattle.debuggee.specs.declared.mode.Mode.{Mode}
use Rattle.debuggee.specs.Plain.{PlainBreakpoint, PlainHalt, PlainOutput}
use Rattle.debuggee.specs.Due.{Sight}
use Rattle.debuggee.specs.Runs.{Meaning, Runs}

-- a run that didn't halt, and one that goes on from there, are one run, of as many steps as both
abbrev pub RunsJoin : {S : Type 0} → Meaning S → Sight S → Type 0
RunsJoin {S} takes see =
    (most more : ℕ) (mode : Mode) (a m b : S) (old mid new : List PlainBreakpoint) (halt : Option PlainHalt)
    (before between after : List PlainOutput) → Runs takes see most mode a old None m mid before between
    → Runs takes see more mode m mid halt b new between after
    → Runs takes see (most + more) mode a old halt b new before after
