use Rattle.std.proofs.Common.{map, subst}
use Rattle.dap_server.specs.Messages.{plain_event}
use Rattle.dap_debug.specs.Telling.{TellAll}
use Rattle.dap_debug.proofs.telling.tell.Goals as goal

pub returns : goal.returns
returns c = (
  map plain_event c.in_ok-events.events.items,
  subst (λ l. TellAll l (map plain_event c.in_ok-events.events.items)) c.in_ok-texts.ensures c.in_ok-events.ensures,
  c.in_ok-tell_end.ensures,
)
