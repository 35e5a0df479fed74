use denote.Exit as Exit
use denote.Param.Send as Send
use Rattle.std.proofs.Common.{rules, ◌≡◌, [], ◌++◌, ap, ◌∙◌, subst}
use Rattle.std.specs.List.{flat_map}
use Rattle.dap_session.specs.Ports.{ports}
use Rattle.dbg_runner.specs.Queues.{passed_in}
use Rattle.dap_session.specs.Sending.{IsPrefixOf}
use Rattle.dap_wires.specs.Inbox.{client_events, received, session_events}
use Rattle.dap_wires.specs.Orders.{pushed_orders, taken_orders}
use Rattle.dap_wires.specs.Outbox.{put_frames, messages_put, messages_received}
use Rattle.dap_wires.specs.Writing.{IsWrittenUntil}
use Rattle.adapter.specs.ThreadTasks.{ReaderEndsAs, outcome_if_driven}
use Rattle.adapter.specs.Serving.{World, world, streams, nothing_sent, IsServed}
use Rattle.adapter.proofs.Crossing.{writer_task_send, runner_task_send, runner_output_send, reader_task_send, reader_output_send}
use Rattle.adapter.proofs.Together.{serves, begun}
use Rattle.adapter.proofs.serving.serve_over.Goals as goal

pub returns-clause-served : goal.returns-clause-served
returns-clause-served g c =
    let made = c.tasks_over-writer in
    let end = c.run_beside-writer.result in
    let w = c.run_beside-writer.ensures.gives.0 in
    let r = c.run_beside-writer.ensures.gives.1 in
    let i = c.run_beside-writer.ensures.gives.2 in
    let s = c.run_beside-writer.ensures.gives.3 in
    let logs = c.reconcile.ensures in
    let frames : put_frames made.result.3.outbox ≡ record { frames = []; refused = [] } =
    ap put_frames made.ensures.frames ∙ c.requires.unused.frames in
    let orders : pushed_orders made.result.3.orders ≡ record { orders = []; fulls = 0; refusals = 0 } =
    ap pushed_orders made.ensures.pushed ∙ c.requires.unused.pushed in
    let ports_are : ports (put_frames made.result.3.outbox) (pushed_orders made.result.3.orders) ≡ nothing_sent =
    ap (λ w. ports w (pushed_orders made.result.3.orders)) frames
    ∙ ap (λ o. ports (record { frames = []; refused = [] }) o) orders in
    let session = begun made.result.3.dialect c.args.dialect end.3.closed (session_events made.result.3.inbox)
    (received end.3.ends.inbox) (g.L.Loader.loaded made.result.3.loader.now) (g.L.Loader.loaded c.args.loader.now)
    (g.L.Loader.loaded end.3.loader.now)
    (ports (put_frames made.result.3.outbox) (pushed_orders made.result.3.orders)) (messages_put end.3.ends.outbox)
    (pushed_orders end.3.ends.orders) made.ensures.dialect made.ensures.events
    (ap g.L.Loader.loaded made.ensures.loader) ports_are s.4 in
    let reader =
    subst (λ l. ReaderEndsAs end.2.end l (client_events end.2.inbox) (g.R.Reads.supply c.args.input.now)
    (g.R.Reads.supply end.2.input.now)) (ap client_events made.ensures.client ∙ c.requires.unused.client)
    (subst (λ x. ReaderEndsAs end.2.end (client_events made.result.2.inbox) (client_events end.2.inbox)
    (g.R.Reads.supply x) (g.R.Reads.supply end.2.input.now)) made.ensures.input i.2) in
    let taken : messages_received end.0.log ≡ w.2.0 = w.2.1 ∙ ap (λ l. l ++ w.2.0) made.ensures.none_taken in
    let written =
    subst (λ x. IsWrittenUntil end.0.wrote w.2.0 (g.R.Writes.output x) (g.R.Writes.output end.0.output.now))
    made.ensures.output w.2.2 in
    let passed : g.G.Gate.passed end.1.gate.now ≡ g.G.Gate.passed c.args.gate.now ++ flat_map passed_in r.3.0 =
    r.3.4 ∙ ap (λ x. g.G.Gate.passed x ++ flat_map passed_in r.3.0) made.ensures.gate in
    let before : World =
    world (g.L.Loader.loaded c.args.loader.now) (g.G.Gate.passed c.args.gate.now)
    (streams (g.R.Reads.supply c.args.input.now) (g.R.Writes.output c.args.output.now)) in
    let after : World =
    world (g.L.Loader.loaded end.3.loader.now) (g.G.Gate.passed end.1.gate.now)
    (streams (g.R.Reads.supply end.2.input.now) (g.R.Writes.output end.0.output.now)) in
    let served : IsServed c.args.dialect (outcome_if_driven end.0.wrote end.3.closed) before after =
    serves c.args.dialect end.0.wrote end.3.closed end.2.end before after (received end.3.ends.inbox)
    (client_events end.2.inbox) (messages_put end.3.ends.outbox) w.2.0 (pushed_orders end.3.ends.orders) r.3.0 _
    (taken_orders end.1.orders) c.run_beside-writer.ensures.done session reader logs.client r.3.1 r.3.2 r.3.3
    logs.orders logs.full logs.reports passed written
    (subst (λ l. IsPrefixOf l (messages_put end.3.ends.outbox)) taken logs.frames) in
    let input : end.2.input.now ≡ c.input-1.given.0 = search rules in
    let output : end.0.output.now ≡ c.output-1.given.0 = search rules in
    let loader : end.3.loader.now ≡ c.loader-1.given.0 = search rules in
    let gate : end.1.gate.now ≡ c.gate-1.given.0 = search rules in
    let outcome : outcome_if_driven end.0.wrote end.3.closed ≡ c.outcome.result =
    search (rules, c.outcome.ensures) in
    rw (input, output, loader, gate, outcome) at served

pub run_beside-writer-requires-send-S : goal.run_beside-writer-requires-send-S
run_beside-writer-requires-send-S g c κs within =
    Send.param_send 1 _ (Send.arg_send _ Exit.no _ (writer_task_send _ _ _ c.type_bounds.send-O c.type_bounds.send-R))

pub run_beside-writer-requires-send-T : goal.run_beside-writer-requires-send-T
run_beside-writer-requires-send-T g c κs within =
    Send.param_send 2 _ (Send.arg_send _ Exit.no _ (runner_task_send _ _ _ c.type_bounds.send-G c.type_bounds.send-R))

pub run_beside-writer-requires-send-U : goal.run_beside-writer-requires-send-U
run_beside-writer-requires-send-U g c κs within =
    Send.param_send 3 _ (Send.arg_send _ Exit.no _ (reader_task_send _ _ _ c.type_bounds.send-I c.type_bounds.send-R))

pub run_beside-writer-requires-send-B : goal.run_beside-writer-requires-send-B
run_beside-writer-requires-send-B g c κs within =
    Send.param_send 7 _ (Send.arg_send _ Exit.no _ (runner_output_send _ _ _ c.type_bounds.send-G c.type_bounds.send-R))

pub run_beside-writer-requires-send-C : goal.run_beside-writer-requires-send-C
run_beside-writer-requires-send-C g c κs within =
    Send.param_send 8 _ (Send.arg_send _ Exit.no _ (reader_output_send _ _ _ c.type_bounds.send-I c.type_bounds.send-R))
