use Rattle.std.proofs.Common.{◌≡◌, map, take}
use Rattle.dap_msg.specs.declared.outgoing.EventBody.TheVariants as event
use Rattle.dap_replies.proofs.reporting.outputs.Given as goal

abbrev pub invariant-loop-number : goal.invariant-loop-number
invariant-loop-number l = l.events.items ≡ map event.Output (take l.number-index l.numbers)
