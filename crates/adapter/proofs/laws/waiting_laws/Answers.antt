use Rattle.adapter.specs.Waiting.{WaitingOwesNothing}
use Rattle.adapter.proofs.Waiting.{waiting_owes_nothing}
use Rattle.adapter.proofs.WaitingEnds.{waiting_ends_owe_nothing}
use Rattle.adapter.proofs.laws.waiting_laws.Goals as goal

pub returns-clause-waiting : goal.returns-clause-waiting
returns-clause-waiting g c = waiting_owes_nothing (record {
  contents = c.history_laws.ensures.contents;
  answered = c.history_laws.ensures.answered;
  unread = c.history_laws.ensures.unread;
})

pub returns-clause-ends : goal.returns-clause-ends
returns-clause-ends g c = waiting_ends_owe_nothing (waiting_owes_nothing (record {
  contents = c.history_laws.ensures.contents;
  answered = c.history_laws.ensures.answered;
  unread = c.history_laws.ensures.unread;
})) _ g.I.Source.supply g.O.Sink.output g.L.Loader.loaded
