use Rattle.adapter.proofs.program.serve_client.Goals as goal

pub returns-clause-served : goal.returns-clause-served
returns-clause-served g c = record {
  outcome = c.serve-served.result;
  passed = _;
  served = rw c.new.ensures at c.serve-served.ensures.served;
  reason_is = c.end_of_serve.ensures;
}
