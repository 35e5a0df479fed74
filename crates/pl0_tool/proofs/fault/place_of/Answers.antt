use Rattle.pl0_tool.proofs.Common.{arith, frames, IsNext, program_of, subst, sym, top_of, ◌∙◌, ◌≡◌}
use Rattle.pl0_unit.specs.declared.unit.Unit.{Unit as Compiled}
use Rattle.pl0_tool.proofs.TracedFrames.{next_within, next_place, IsPlaceOf}
use Rattle.pl0_tool.proofs.fault.place_of.Goals as goal
use Rattle.pl0_tool.proofs.fault.place_of.Goals.{After-next_step}

same_unit : (c : After-next_step) → c.deref-unit.result.now ≡ c.args.machine.now.unit
same_unit c = c.deref-unit.ensures ∙ c.unit.ensures

next : (c : After-next_step) → IsNext (program_of c.deref-unit.result.now) (top_of (frames c.args.machine.now))
    c.next_step.result
next c =
    subst (λ (u : Compiled). IsNext (program_of u) (top_of (frames c.args.machine.now)) c.next_step.result)
    (sym (same_unit c)) c.next_step.ensures

pub index-requires : goal.index-requires
index-requires c =
    let u = c.deref-unit.result.now in
    let is = next (goal.at.index-requires c).After-next_step in
    let within = next_within u (top_of (frames c.args.machine.now)) c.next_step.result is in
    omega (arith, within, u.steps.ok.0)

pub returns : goal.returns
returns c =
    let here = (goal.at.returns c).After-next_step in
    let u = c.deref-unit.result.now in
    let o = top_of (frames c.args.machine.now) in
    let s = c.index.result.now in
    sym (subst (λ (v : Compiled). IsPlaceOf v o s.place) (same_unit here)
    (next_place u o c.next_step.result s (next here) c.index.ensures))
