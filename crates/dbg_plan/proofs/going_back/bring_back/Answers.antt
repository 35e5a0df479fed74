use Rattle.std.proofs.Common.{◌∙◌, ap, sym}
use Rattle.pl0_unit.specs.declared.unit.Unit.{Unit as Compiled}
use Rattle.dbg_plan.proofs.going_back.bring_back.Goals as goal

pub restore-requires : goal.restore-requires
restore-requires c = c.in-Some.ensures.unit c.args.machine.now.unit c.requires

pub returns-in-Some-clause-machine : goal.returns-in-Some-clause-machine
returns-in-Some-clause-machine c =
    let unit = c.in-Some.ensures.unit c.args.machine.now.unit c.requires in
    c.restore.ensures
    ∙ ap (λ (u : Compiled). record { unit = u; position = c.in-Some.checkpoint.now.position }) unit
    ∙ ap (λ n. record { unit = c.args.machine.now.unit; position = n }) (sym c.position.ensures.position)
