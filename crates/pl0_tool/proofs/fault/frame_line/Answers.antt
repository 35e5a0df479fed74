use Rattle.pl0_tool.proofs.Common.{ap, arith, frame_line, frame_of, IfOk, place_line, program_of, rules, Shows, string_bytes, subst, sym, ◌∙◌, ◌≡◌}
use Rattle.pl0_unit.specs.declared.unit.Unit.{Unit as Compiled}
use Rattle.pl0_tool.proofs.TracedFrames.{block_within}
use Rattle.pl0_tool.proofs.FaultLines.{shown_within, said_frame}
use Rattle.pl0_tool.proofs.fault.frame_line.Goals as goal

pub index-step-requires : goal.index-step-requires
index-step-requires c =
    let m = c.args.machine.now in
    let u = c.deref-unit.result.now in
    let o = frame_of m c.args.frame in
    let shows = subst (λ (v : Compiled). Shows (program_of v) o c.frame-view.result)
    (sym (c.deref-unit.ensures ∙ c.unit.ensures)) c.frame-view.ensures in
    let within = shown_within u o c.frame-view.result shows in
    omega (arith, within, u.steps.ok.0)

pub frame_name-name-requires : goal.frame_name-name-requires
frame_name-name-requires c =
    let m = c.args.machine.now in
    let o = frame_of m c.args.frame in
    block_within c.deref-unit.result.now o c.frame-view.result
    (subst (λ (v : Compiled). Shows (program_of v) o c.frame-view.result)
    (sym (c.deref-unit.ensures ∙ c.unit.ensures)) c.frame-view.ensures)

pub returns : goal.returns
returns c =
    let m = c.args.machine.now in
    let u = c.deref-unit.result.now in
    let o = frame_of m c.args.frame in
    let same = c.deref-unit.ensures ∙ c.unit.ensures in
    let file = c.args.file.now in
    let name = c.frame_name-name.result.now in
    let s = c.index-step.result.now in
    let shows = subst (λ (v : Compiled). Shows (program_of v) o c.frame-view.result) (sym same) c.frame-view.ensures in
    let is = ap (λ (v : Compiled). frame_line file (program_of v) o) (sym same)
    ∙ said_frame u o c.frame-view.result s name file shows c.index-step.ensures c.frame_name-name.ensures in
    let told : IfOk c.format.result (λ line. string_bytes line ≡ place_line name file s.place) = search rules in
    subst (λ l. IfOk c.format.result (λ line. string_bytes line ≡ l)) (sym is) told
