use Rattle.std.proofs.Common.{◌∙◌, ap, arith, drop, take}
use Rattle.dap_bodies.proofs.Cuts.{fit_is, some_fits}
use Rattle.dap_bodies.proofs.cutting.split_text.Goals as goal

pub returns-clause-front : goal.returns-clause-front
returns-clause-front c =
    let end = c.floor_char_boundary in
    c.split_at.ensures.front
    ∙ ap (λ n. take n c.args.text.now)
    (fit_is c.args.text.now end.result (omega arith) (end.ensures.bound, end.ensures.boundary, end.ensures.nearest))

pub returns-clause-left : goal.returns-clause-left
returns-clause-left c =
    let end = c.floor_char_boundary in
    c.split_at.ensures.back
    ∙ ap (λ n. drop n c.args.text.now)
    (fit_is c.args.text.now end.result (omega arith) (end.ensures.bound, end.ensures.boundary, end.ensures.nearest))

pub returns-clause-less : goal.returns-clause-less
returns-clause-less c =
    let end = c.floor_char_boundary in
    let some = some_fits c.args.text.now end.result c.utf8.text (omega arith)
    (end.ensures.bound, end.ensures.boundary, end.ensures.nearest) in
    omega (arith, some, c.split_at.ensures.back_len)
