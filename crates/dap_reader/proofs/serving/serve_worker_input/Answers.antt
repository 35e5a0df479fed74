use denote.Exit as Exit
use denote.Param.Send as Send
use Rattle.std.proofs.Common.{rules, ◌≡◌}
use Rattle.dap_server.specs.Inbox.{Given}
use Rattle.dap_reader.specs.Delivery.{Comes}
use Rattle.dap_reader.specs.Sent.{sent}
use Rattle.dap_reader.specs.Serving.{FrontOf}
use Rattle.dap_reader.specs.Taken.{taken_at_last}
use Rattle.dap_reader.proofs.Crossing.{reader_task_send, reader_output_send}
use Rattle.dap_reader.proofs.Delivered.{front_of}
use Rattle.dap_reader.proofs.serving.serve_worker_input.Goals as goal

pub run_beside-requires-send-S : goal.run_beside-requires-send-S
run_beside-requires-send-S g c κs within =
    Send.param_send 1 _ (Send.arg_send _ Exit.no _ (reader_task_send _ _ _ c.type_bounds.send-I c.type_bounds.send-R))

pub run_beside-requires-send-A : goal.run_beside-requires-send-A
run_beside-requires-send-A g c κs within =
    Send.param_send 3 _ (Send.arg_send _ Exit.no _ (reader_output_send _ _ c.type_bounds.send-I))

pub returns-in-Ok-clause-served : goal.returns-in-Ok-clause-served
returns-in-Ok-clause-served g c =
    let ends = c.in-Ok in
    let balanced : Given Comes (taken_at_last ends.log) c.reconcile.ensures.0 (sent ends.sender) =
    search (rules, c.reconcile.ensures.1) in
    let front : FrontOf (taken_at_last ends.log) (g.I.Source.supply ends.input.now) =
    front_of _ _ _ _ balanced ends.ensures.ok.0.2 in
    let input : ends.input.now ≡ c.input-in-Ok-1.given.0 = search rules in
    let worker : ends.worker.now ≡ c.worker-1.given.0 = search rules in
    let output : ends.output.now ≡ c.output-1.given.0 = search rules in (
      taken_at_last ends.log,
      ends.log.of_whole,
      rw (input) at front,
      search (rules, ends.ensures.ok.1.4),
      search (rules, ends.ensures.ok.1.5),
    )
