use Rattle.std.proofs.Common.{◌≡◌, ◌-◌, ◌∙◌, subst, arith}
use Rattle.pl0_machine.specs.Machine.{program_of, frame_of, Shows}
use Rattle.dap_msg.specs.declared.outgoing.StackFrame.{StackFrame}
use Rattle.dap_inspection.specs.Questions.{counting_of}
use Rattle.dap_inspection.specs.Showing.{IsShownAs}
use Rattle.dap_inspection.proofs.ShownFrame.{shown_within, shown_as}
use Rattle.dap_inspection.proofs.stack_trace.stack_frame.Goals as goal
use Rattle.dap_inspection.proofs.stack_trace.stack_frame.Goals.{After-frame-view}
use Rattle.std.proofs.lemmas.Grind.{common_steps}

same_unit : (c : After-frame-view) → c.deref-unit.result.now ≡ c.args.machine.now.unit
same_unit c = c.deref-unit.ensures ∙ c.unit.ensures

shows : (c : After-frame-view) → Shows (program_of c.deref-unit.result.now)
    (frame_of c.args.machine.now (c.args.id - 1)) c.frame-view.result
shows c = grind (arith, common_steps, same_unit)

pub index-requires : goal.index-requires
index-requires c = grind (arith, common_steps, shown_within, shows)

pub returns : goal.returns
returns c =
    let here = (goal.at.returns c).After-frame-view in
    let frame = frame_of c.args.machine.now (c.args.id - 1) in
    let counting = counting_of c.args.settings in
    let shown : StackFrame =
    record { id = c.args.id; name = c.in_ok-name.name; line = c.counted.result; column = c.counted-2.result } in
    subst (λ u. IsShownAs (program_of u) counting frame c.args.id shown) (same_unit here)
    (shown_as c.deref-unit.result.now counting frame c.frame-view.result _ _ _ _ _ (shows here) c.in_ok-name.ensures
    c.index.ensures c.counted.ensures c.counted-2.ensures)
