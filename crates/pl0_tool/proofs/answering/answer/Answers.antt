use Rattle.std.proofs.lemmas.List.{get_or_default}
use Rattle.byte_streams.specs.declared.files.FileKinds.TheVariants.{All}
use Rattle.pl0_tool.specs.Executing.{none}
use Rattle.pl0_tool.proofs.FilesDone.{all_done, one_given_up, one_more}
use Rattle.pl0_tool.proofs.answering.answer.Goals as goal

pub loop-name-init : goal.loop-name-init
loop-name-init g c = none c.nothing_told-report.result c.nothing_told-report.ensures

pub loop-name-preserved : goal.loop-name-preserved
loop-name-preserved g c =
    let names = c.as_slice-names.result.now in
    let i = c.loop-name.name-index in
    one_more (λ name. name.now) (g.F.Opener.opens All) g.F.Opener.closes
    g.F.File.Source.supply
    c.args.request.now.task names i _ c.loop-name-test.true (get_or_default names i _ _ c.loop-name-test.true) _ _ _ _ _
    c.loop-name.invariant _ _ _ c.in-Ok.ensures

pub returns-in-Err : goal.returns-in-Err
returns-in-Err g c =
    let names = c.as_slice-names.result.now in
    let i = c.loop-name.name-index in
    rw c.as_slice-names.ensures.value at
    (one_given_up (λ name. name.now) (g.F.Opener.opens All) g.F.Opener.closes
    g.F.File.Source.supply
    c.args.request.now.task names i _ c.loop-name-test.true (get_or_default names i _ _ c.loop-name-test.true) _ _ _ _ _
    c.loop-name.invariant _ _ c.in-Err.ensures)

pub returns : goal.returns
returns g c =
    let names = c.as_slice-names.result.now in
    rw c.as_slice-names.ensures.value at
    (all_done (λ name. name.now) (g.F.Opener.opens All) g.F.Opener.closes
    g.F.File.Source.supply
    c.args.request.now.task names c.loop-name.name-index _ _ _ _ c.loop-name.report c.loop-name-test.false
    c.loop-name.invariant)
