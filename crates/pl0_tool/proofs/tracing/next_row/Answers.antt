use Rattle.pl0_tool.specs.Instructing.{finished}
use Rattle.pl0_tool.proofs.Common.{ap, arith, frames, IsNext, program_of, subst, sym, top_of, ◌∙◌, ◌≡◌}
use Rattle.pl0_unit.specs.declared.unit.Unit.{Unit as Compiled}
use Rattle.pl0_tool.proofs.TracedFrames.{next_within, next_kind, next_place, IsKindOf, IsPlaceOf}
use Rattle.pl0_tool.proofs.ToldInstructions.{told_whole}
use Rattle.pl0_tool.proofs.TracedRows.{same_unit as stays, told_so}
use Rattle.pl0_tool.proofs.tracing.next_row.Goals as goal
use Rattle.pl0_tool.proofs.tracing.next_row.Goals.{After-next_step}

same_unit : (c : After-next_step) → c.deref-unit.result.now ≡ c.args.machine.now.unit
same_unit c = c.deref-unit.ensures ∙ c.unit.ensures

next : (c : After-next_step) → IsNext (program_of c.deref-unit.result.now) (top_of (frames c.args.machine.now))
    c.next_step.result
next c =
    subst (λ (u : Compiled). IsNext (program_of u) (top_of (frames c.args.machine.now)) c.next_step.result)
    (sym (same_unit c)) c.next_step.ensures

pub index-step-requires : goal.index-step-requires
index-step-requires c =
    let m = c.args.machine.now in
    let u = c.deref-unit.result.now in
    let is = next (goal.at.index-step-requires c).After-next_step in
    let within = next_within u (top_of (frames m)) c.next_step.result is in
    omega (arith, within, u.steps.ok.0)

pub returns : goal.returns
returns c =
    let here = (goal.at.returns c).After-next_step in
    let m = c.args.machine.now in
    let u = c.deref-unit.result.now in
    let o = top_of (frames m) in
    let s = c.index-step.result.now in (
      record {
        position = c.position-position.ensures.position;
        kind = subst (λ (v : Compiled). IsKindOf v o s.kind) (same_unit here)
            (next_kind u o c.next_step.result s (next here) c.index-step.ensures);
        place = subst (λ (v : Compiled). IsPlaceOf v o s.place) (same_unit here)
            (next_place u o c.next_step.result s (next here) c.index-step.ensures);
        hidden = omega (arith, c.saturating_sub-hidden.ensures, c.depth.ensures.depth);
        frames = c.in_ok-frames.ensures;
        drawing = c.in_ok-drawing.ensures;
        outcome = told_so m c.step-outcome.new.self c.step-outcome.result c.step-outcome.ensures;
        instructions = told_whole c.args.view.instructions m c.step-outcome.result c.in_ok-begun.begun _ _
            (c.deref-behind.ensures ∙ c.unit-2.ensures
            ∙ stays m c.step-outcome.new.self c.step-outcome.result c.step-outcome.ensures)
            c.in_ok-begun.ensures
            (c.in_ok-instructions.ensures
            ∙ ap (λ code. finished code c.step-outcome.result c.in_ok-begun.begun) c.as_slice.ensures.value);
      },
      c.step-outcome.ensures,
    )
