use Rattle.std.proofs.Common.{length, map}
use Rattle.std.specs.Str.{IsUtf8}
use Rattle.debuggee.specs.Plain.{plain_part}
use Rattle.dap_debug.proofs.Texts.{ReadTo}
use Rattle.dap_debug.proofs.breakpoints.parts_of.Given as goal

abbrev pub invariant-loop-before : goal.invariant-loop-before
invariant-loop-before l = ReadTo l.message (map plain_part l.parts.items) l.rest × IsUtf8 l.rest

abbrev pub decreases-loop-before : goal.decreases-loop-before
decreases-loop-before l = length l.rest
