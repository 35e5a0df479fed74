use Rattle.std.proofs.Common.{◌≡◌, ◌++◌, drop, map, string_bytes}
use Rattle.std.specs.List.{flat_map}
use Rattle.debuggee.specs.Plain.{plain_part}
use Rattle.debuggee.specs.Due.{part_text}
use Rattle.debuggee.proofs.arriving.text_of.Given as goal

abbrev pub invariant-loop-part : goal.invariant-loop-part
invariant-loop-part g l = record {
  rest : flat_map (part_text g.D.Debuggee.sees l.debuggee) (map plain_part l.parts)
      ≡ string_bytes l.text ++ flat_map (part_text g.D.Debuggee.sees l.debuggee)
      (map plain_part (drop l.part-index l.parts));
}
