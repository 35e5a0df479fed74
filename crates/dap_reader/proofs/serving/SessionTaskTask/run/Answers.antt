use Rattle.std.proofs.Common.{refl, sym, ap, ◌∙◌, subst}
use Rattle.dap_server.specs.Inbox.{Reads}
use Rattle.dap_server.specs.Working.{ServedWorker, OwesNothing, OwesNothingIdle}
use Rattle.dap_reader.specs.Serving.{Looks}
use Rattle.dap_reader.specs.Taken.{taken, origin}
use Rattle.dap_reader.proofs.Arriving.{served, owed, owed_idle}
use Rattle.dap_reader.proofs.serving.SessionTaskTask.run.Goals as goal

pub returns : goal.returns
returns g c =
    let is = served taken origin Reads Looks _ _ _ _ _ c.args.self.inbox c.serve_worker-ended.new.inbox _ _ _
    c.serve_worker-ended.ensures.served in (
      refl,
      refl,
      c.serve_worker-ended.ensures.origin,
      c.leave.ensures.queue ∙ ap (λ o. o.0) is.1,
      subst (λ end. ServedWorker g.W.Responder.replies g.W.Worker.works g.W.Worker.busy Reads Looks
          c.args.self.worker.now c.serve_worker-ended.new.worker (taken c.args.self.inbox) end
          (g.O.Sink.output c.args.self.output.now).written (g.O.Sink.output c.serve_worker-ended.new.output).written
          c.serve_worker-ended.result) (sym c.leave.ensures.taken) is.0,
      c.serve_worker-ended.ensures.failures,
    )

pub serve_worker-ended-requires-clause-waits : goal.serve_worker-ended-requires-clause-waits
serve_worker-ended-requires-clause-waits g c i o is =
    let owes = owed_idle taken origin Reads Looks _ _ _ _ c.args.self.inbox i _ _ is in
    subst (λ first. OwesNothingIdle g.W.Responder.replies g.W.Worker.works g.W.Worker.busy Reads Looks first.1 first.0
    (taken i) (g.O.Sink.output first.2).written (g.O.Sink.output o).written)
    (sym (ap (λ o. o.1) owes.1 ∙ c.requires)) owes.0

pub serve_worker-ended-requires-clause-looks : goal.serve_worker-ended-requires-clause-looks
serve_worker-ended-requires-clause-looks g c i o is =
    let owes = owed taken origin Reads Looks _ _ _ _ c.args.self.inbox i _ _ is in
    subst (λ first. OwesNothing g.W.Responder.replies g.W.Worker.works g.W.Worker.busy Reads Looks first.1 first.0
    (taken i) (g.O.Sink.output first.2).written (g.O.Sink.output o).written)
    (sym (ap (λ o. o.1) owes.1 ∙ c.requires)) owes.0
