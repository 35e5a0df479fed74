use Rattle.std.proofs.Common.{subst, sym}
use Rattle.dap_msg.specs.Laws.{LineIsWithin}
use Rattle.dap_replies.proofs.breakpoints.asked_lines.Goals as goal

pub asked_line-requires-clause-within : goal.asked_line-requires-clause-within
asked_line-requires-clause-within c =
    subst LineIsWithin (sym c.line-item.is)
    (c.requires.within c.loop-line.line-index c.line-item.result c.loop-line-test.true)
