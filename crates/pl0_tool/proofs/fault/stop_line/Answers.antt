use Rattle.pl0_tool.proofs.Common.{rules, step_before, sym, ◌∙◌, ◌≡◌}
use Rattle.pl0_tool.specs.Faulting.{stop_line, stopped_at}
use Rattle.pl0_tool.proofs.FaultLines.{of_no_place, of_place}
use Rattle.pl0_tool.proofs.fault.stop_line.Goals as goal

pub returns-in-None : goal.returns-in-None
returns-in-None c =
    c.new.ensures.items ∙ of_no_place (step_before c.args.machine.now)
    (stopped_at c.args.file.now c.args.machine.now.position) (sym c.place_of.ensures ∙ c.in-None.is)

pub returns-in_ok-line-in-Some : goal.returns-in_ok-line-in-Some
returns-in_ok-line-in-Some c =
    let m = c.args.machine.now in
    let file = c.args.file.now in
    let is : stop_line file m ≡ stopped_at file m.position c.in-Some.place =
    of_place (step_before m) c.in-Some.place (stopped_at file m.position) (sym c.place_of.ensures ∙ c.in-Some.is) in
    rw is (search rules)
