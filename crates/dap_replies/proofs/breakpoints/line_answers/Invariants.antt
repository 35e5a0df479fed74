use Rattle.std.proofs.Common.{◌≡◌, map, take}
use Rattle.pl0_machine.specs.Machine.{program_of}
use Rattle.dap_history.specs.Breakpoints.{answer_to_line}
use Rattle.dap_replies.proofs.breakpoints.line_answers.Given as goal

abbrev pub invariant-loop-resolution : goal.invariant-loop-resolution
invariant-loop-resolution l =
    l.answers.items ≡ map (answer_to_line (program_of l.unit) l.less) (take l.resolution-index l.resolutions)
