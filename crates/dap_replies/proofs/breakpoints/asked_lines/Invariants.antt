use Rattle.std.proofs.Common.{◌≡◌, map, take}
use Rattle.dbg_plan.specs.Resolutions.{plain_line}
use Rattle.dap_history.specs.Breakpoints.{asked_as}
use Rattle.dap_replies.proofs.breakpoints.asked_lines.Given as goal

abbrev pub invariant-loop-line : goal.invariant-loop-line
invariant-loop-line l = map plain_line l.asked.items ≡ map (asked_as l.less) (take l.line-index l.lines)
