use Rattle.pl0_tool.proofs.Common.{IfOk, step_before, subst, sym, ◌∙◌, ◌≡◌}
use Rattle.pl0_mistakes.specs.Lines.{fault_line}
use Rattle.pl0_tool.proofs.FaultLines.{of_no_place, of_place}
use Rattle.pl0_tool.proofs.fault.first_line.Goals as goal

pub returns-in-None : goal.returns-in-None
returns-in-None c =
    c.new.ensures.items ∙ of_no_place (step_before c.args.machine.now) (fault_line c.args.file.now c.args.fault)
    (sym c.place_of.ensures ∙ c.in-None.is)

pub returns-in-Some : goal.returns-in-Some
returns-in-Some c =
    let said = fault_line c.args.file.now c.args.fault in
    let is = of_place (step_before c.args.machine.now) c.in-Some.place said (sym c.place_of.ensures ∙ c.in-Some.is) in
    subst (λ l. IfOk c.fault_line.result (λ line. line.items ≡ l)) (sym is) c.fault_line.ensures
