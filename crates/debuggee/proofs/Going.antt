-- Two runs, one after another, are one.
use Rattle.std.proofs.Common.{◌≡◌, ◌+◌, ◌<◌, ℕ, List, ◌++◌, append_assoc, append-nil, arith, Option, None}
use Rattle.debuggee.specs.declared.mode.Mode.{Mode}
use Rattle.debuggee.specs.Plain.{PlainBreakpoint, PlainHalt, PlainOutput}
use Rattle.debuggee.specs.Due.{Sight}
use Rattle.debuggee.specs.Runs.{Meaning, Passes, Stays, Then, Runs}

passes_join : {S : Type 0} (takes : Meaning S) (see : Sight S) (mode : Mode) (a m : S) (old mid : List PlainBreakpoint)
    (told : List PlainOutput) (many others : ℕ) (b : S) (new : List PlainBreakpoint) (more : List PlainOutput)
    → Passes takes see mode a old many m mid told → Passes takes see mode m mid others b new more
    → Passes takes see mode a old (many + others) b new (told ++ more)
passes_join takes see mode a m old mid told many _ b new more first Stays =
    let none : many + 0 ≡ many = omega arith in rw none (rw (append-nil told) first)
passes_join takes see mode a m old mid told many _ b new more first
    (Then others n c between later next last passes advances) =
    let more : many + (others + 1) ≡ many + others + 1 = omega arith in
    rw more (rw (← append_assoc told next last) (Then (many + others) n c between later (told ++ next) last
    (passes_join takes see mode a m old mid told many others n between next first passes) advances))

pub runs_join : {S : Type 0} (takes : Meaning S) (see : Sight S) (most more : ℕ) (mode : Mode) (a m b : S)
    (old mid new : List PlainBreakpoint) (halt : Option PlainHalt) (before between after : List PlainOutput)
    → Runs takes see most mode a old None m mid before between
    → Runs takes see more mode m mid halt b new between after
    → Runs takes see (most + more) mode a old halt b new before after
runs_join takes see most more mode a m b old mid new halt before between after first second =
    let told = first.4 ++ first.5 in
    let few : first.0 < most = first.1 in
    let fewer : second.0 < more = second.1 in
    let in_all : first.0 + 1 + second.0 < most + more = omega arith in (
      first.0 + 1 + second.0,
      in_all,
      second.2,
      second.3,
      told ++ second.4,
      second.5,
      passes_join takes see mode a m old mid told (first.0 + 1) second.0 second.2 second.3 second.4
          (Then first.0 first.2 m first.3 mid first.4 first.5 first.6 first.7) second.6,
      second.7,
      cc (second.8, first.8, append_assoc before told (second.4 ++ second.5), append_assoc told second.4 second.5),
    )
