use Rattle.std.proofs.Common.{sym, subst, ◌∙◌}
use Rattle.std.proofs.lemmas.Result.{err_from_is_err_and}
use Rattle.dap_wires.specs.Outbox.{end_taken, end_first}
use Rattle.dap_wires.specs.Writing.{OwesNothing}
use Rattle.dap_wires.proofs.WrittenSoFar.{written_ends, written_breaks, written_goes_on, owes_nothing}
use Rattle.dap_wires.proofs.writing.write_loop.Goals as goal

pub returns-in-Some-End-clause-written : goal.returns-in-Some-End-clause-written
returns-in-Some-End-clause-written g c =
    let took = rw c.in-Some-End.field-0-is at c.in-Some-End.ensures.some in
    written_ends
    (end_taken c.args.outbox.now)
    (end_taken c.loop.outbox)
    (end_taken c.receive.new.self)
    (g.O.Sink.output c.args.output.now)
    (g.O.Sink.output c.loop.output)
    c.loop.invariant.0
    took

pub returns-in_err-write_all-in-Some-Frames-clause-written : goal.returns-in_err-write_all-in-Some-Frames-clause-written
returns-in_err-write_all-in-Some-Frames-clause-written g c =
    let took = rw c.in-Some-Frames.field-0-is at c.in-Some-Frames.ensures.some in
    let part = rw c.as_slice.ensures.value at c.in_err-write_all-in-Some-Frames.ensures.written in
    let p = err_from_is_err_and c.from_residual.result c.from_residual.ensures.1 in
    rw p.1 (written_breaks
    (end_taken c.args.outbox.now)
    (end_taken c.loop.outbox)
    (end_taken c.receive.new.self)
    (g.O.Sink.output c.args.output.now)
    (g.O.Sink.output c.loop.output)
    (g.O.Sink.output c.write_all.new.output)
    c.in-Some-Frames.bundle
    c.loop.invariant.0
    took
    part
    c.in_err-write_all-in-Some-Frames.ensures.count)

pub loop-preserved : goal.loop-preserved
loop-preserved g c =
    let took = rw c.in-Some-Frames.field-0-is at c.in-Some-Frames.ensures.some in
    let wrote = rw c.as_slice.ensures.value at c.in_ok-write_all-in-Some-Frames.ensures.written in (
      written_goes_on
          (end_taken c.args.outbox.now)
          (end_taken c.loop.outbox)
          (end_taken c.receive.new.self)
          (g.O.Sink.output c.args.output.now)
          (g.O.Sink.output c.loop.output)
          (g.O.Sink.output c.write_all.new.output)
          c.in-Some-Frames.bundle
          c.loop.invariant.0
          took
          wrote
          c.in_ok-write_all-in-Some-Frames.ensures.count,
      c.in-Some-Frames.ensures.queue ∙ c.loop.invariant.1,
      c.in-Some-Frames.ensures.first ∙ c.loop.invariant.2,
    )

pub receive-requires : goal.receive-requires
receive-requires g c =
    subst (λ x. OwesNothing (end_taken c.loop.outbox) (g.O.Sink.output x) (g.O.Sink.output c.loop.output))
    (sym c.loop.invariant.2)
    (owes_nothing (end_taken c.args.outbox.now) (end_taken c.loop.outbox)
    (g.O.Sink.output (end_first c.args.outbox.now)) (g.O.Sink.output c.args.output.now) (g.O.Sink.output c.loop.output)
    c.requires c.loop.invariant.0)
