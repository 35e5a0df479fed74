use Rattle.std.proofs.Common.{◌≡◌}
use Rattle.dap_reader.specs.Sent.{sent, sender_queue}
use Rattle.dap_reader.proofs.reader.read_client.Given as goal

abbrev pub invariant-loop : goal.invariant-loop
invariant-loop g l = record {
  queue : sender_queue l.sender ≡ sender_queue l.initial.sender;
  sent : sent l.sender ≡ g.S.GuardedSource.supply l.source;
}

abbrev pub ghosts-send : goal.ghosts-send
ghosts-send g a = record { supply = g.S.GuardedSource.supply a.source.now }
