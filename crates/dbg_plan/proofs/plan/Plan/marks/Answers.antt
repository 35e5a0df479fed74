use Rattle.std.proofs.Common.{refl, subst}
use Rattle.dbg_plan.specs.Plans.{Listed}
use Rattle.dbg_plan.specs.Table.{AreMarksOf}
use Rattle.dbg_plan.proofs.Counters.{of_all}
use Rattle.dbg_plan.proofs.plan.Plan.marks.Goals as goal

pub returns : goal.returns
returns c =
    let table = c.self.invariant in
    subst (λ (plan : Listed). AreMarksOf plan c.self.inside.marks) c.self.view_is (record {
      numbered = table.numbered;
      marked = refl;
      counters = of_all _ _ _ _ table.whole table.counters;
    })
