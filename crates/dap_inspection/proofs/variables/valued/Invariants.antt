use Rattle.std.proofs.Common.{◌≡◌, map, take}
use Rattle.pl0_tree.specs.Plain.{plain_name}
use Rattle.pl0_machine.specs.Machine.{frame_of}
use Rattle.dap_history.specs.Frames.{named}
use Rattle.dap_inspection.specs.Variables.{numbers_of}
use Rattle.dap_inspection.proofs.variables.valued.Given as goal

abbrev pub invariant-loop-index : goal.invariant-loop-index
invariant-loop-index l =
    l.list.items ≡ named (map plain_name (take l.index l.names)) (numbers_of (frame_of l.machine l.frame))
