use Rattle.std.proofs.Common.{sym, ◌∙◌}
use Rattle.dap_reader.proofs.reader.read_client.Goals as goal

pub next-item-requires : goal.next-item-requires
next-item-requires g c s same =
    c.requires.reads s c.loop.sender c.loop.invariant.queue (c.loop.invariant.sent ∙ sym same)
