use Rattle.std.proofs.lemmas.Result.{err_from_is_err_and}
use Rattle.pl0_tool.proofs.Common.{Holds, subst, sym}
use Rattle.pl0_tool.proofs.PendingBytes.{put_last, holds_failed}
use Rattle.pl0_tool.proofs.output.put.Goals as goal

pub returns-clause-held : goal.returns-clause-held
returns-clause-held g c before text held =
    let now = (g.O.Sink.output c.args.output.now) in
    let same = subst (λ p. Holds before now p text) (sym c.if-keep.ensures.kept) held in
    put_last c.write_all.result before _ _ _ _ _ text c.args.bytes.now same c.in_ok-flush.ensures.flushed
    c.flush.ensures.empty c.write_all.ensures.written c.write_all.ensures.count

pub returns-in_err-flush-clause-held : goal.returns-in_err-flush-clause-held
returns-in_err-flush-clause-held g c before text held =
    let now = (g.O.Sink.output c.args.output.now) in
    let same = subst (λ p. Holds before now p text) (sym c.if-keep.ensures.kept) held in
    let p = err_from_is_err_and c.from_residual.result c.from_residual.ensures.1 in
    rw p.1 (holds_failed before _ _ _ text c.args.bytes.now same c.in_err-flush.ensures.flushed)
