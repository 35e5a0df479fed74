use Rattle.std.proofs.Common.{◌≡◌, map, take}
use Rattle.dap_msg.specs.declared.requests.set_breakpoints.SourceBreakpoint.{SourceBreakpoint}
use Rattle.dap_msg.specs.declared.outgoing.BreakpointAnswer.TheVariants as answer_is
use Rattle.dap_msg.specs.declared.outgoing.BreakpointRefusal.TheVariants as why
use Rattle.dap_replies.proofs.breakpoints.other_source.Given as goal

abbrev pub invariant-loop-line : goal.invariant-loop-line
invariant-loop-line l =
    l.answers.items ≡ map (λ (b : SourceBreakpoint). answer_is.Unverified why.OtherSource) (take l._line-index l.lines)
