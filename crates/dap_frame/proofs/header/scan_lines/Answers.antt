use Rattle.dap_frame.proofs.Common.{[], ap, arith, eq-eqb, eqb-true, false≢true, length, length-take, Names, nil_from_length, NoLength, subst, sym, take, ◌∙◌, ◌≡◌, ◌≢◌}
use Rattle.std.proofs.lemmas.Result.{err_from_is_err_and}
use Rattle.dap_frame.proofs.Scanning.{part, scan_more, faulty_here, too_long_here, open_here}
use Rattle.dap_frame.proofs.header.scan_lines.Goals as goal

pub returns-in-None-clause-err : goal.returns-in-None-clause-err
returns-in-None-clause-err c =
    let found = c.in-Some.ensures.found in
    let bytes = take c.min.result c.args.rest.now in
    let is = c.loop-end.invariant in
    let line = part bytes c.loop-end.scan.judged c.in-Some.end in
    let empty : line ≡ [] = nil_from_length line (eqb-true (length line) 0 (sym c.if-is_empty.ensures)) in
    faulty_here c.args.rest.now c.min.result c.loop-end.scan is c.in-Some.end NoLength (omega (arith, c.min.ensures))
    (record { from = found.0; there = found.1; ends = found.2; first = found.3 })
    (empty, subst (Names is.fields) c.in-None.is is.names)

pub returns-in_err-judge_field-clause-err : goal.returns-in_err-judge_field-clause-err
returns-in_err-judge_field-clause-err c =
    let found = c.in-Some.ensures.found in
    let bytes = take c.min.result c.args.rest.now in
    let is = c.loop-end.invariant in
    let line = part bytes c.loop-end.scan.judged c.in-Some.end in
    let some : line ≢ [] =
    λ e. let h : length line ≡ 0 = ap length e in false≢true (c.if-is_empty.ensures ∙ eq-eqb (length line) 0 h) in
    let p = err_from_is_err_and c.from_residual.result c.from_residual.ensures.1 in
    rw (p.1, p.2) (faulty_here c.args.rest.now c.min.result c.loop-end.scan is c.in-Some.end
    c.in_err-judge_field.field-0.0 (omega (arith, c.min.ensures))
    (record { from = found.0; there = found.1; ends = found.2; first = found.3 })
    (c.in_err-judge_field.ensures.err is.fields is.names some))

pub loop-end-preserved : goal.loop-end-preserved
loop-end-preserved c =
    let found = c.in-Some.ensures.found in
    let bytes = take c.min.result c.args.rest.now in
    let is = c.loop-end.invariant in
    let judged = c.in_ok-judge_field.ensures.ok is.fields is.names in
    scan_more bytes c.loop-end.scan is c.in-Some.end c.in_ok-judge_field.field-0
    (omega (arith, c.min.ensures, length-take c.min.result c.args.rest.now))
    (record { from = found.0; there = found.1; ends = found.2; first = found.3 }) judged.0 judged.1 judged.2 judged.3

pub returns-then-bytes-eq-HEADER_LIMIT-clause-err : goal.returns-then-bytes-eq-HEADER_LIMIT-clause-err
returns-then-bytes-eq-HEADER_LIMIT-clause-err c =
    too_long_here c.args.rest.now c.min.result c.loop-end.scan c.loop-end.invariant (omega (arith, c.min.ensures))
    c.if-bytes-eq-HEADER_LIMIT.true c.in_default.ensures.none

pub returns-clause-ok : goal.returns-clause-ok
returns-clause-ok c =
    open_here c.args.rest.now c.min.result c.loop-end.scan c.loop-end.invariant c.min.ensures
    c.if-bytes-eq-HEADER_LIMIT.false c.in_default.ensures.none
