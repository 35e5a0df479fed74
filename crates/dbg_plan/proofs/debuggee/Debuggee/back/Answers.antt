use Rattle.std.proofs.Common.{◌≡◌, ap, refl, sym, subst, arith}
use Rattle.pl0_machine.specs.Machine.{Standing}
use Rattle.dbg_plan.specs.Debugged.{machine_of, IsRunning}
use Rattle.dbg_plan.specs.Kept.{trail_of}
use Rattle.dbg_plan.proofs.Trails.{floor_within}
use Rattle.dbg_plan.proofs.Backward.{gone_back, runs_there}
use Rattle.dbg_plan.proofs.debuggee.Debuggee.back.Goals as goal

pub invariant_of-self : goal.invariant_of-self
invariant_of-self c =
    gone_back c.self.inside c.self.invariant _ c.bring_back-position.result c.bring_back-position.ensures.machine refl
    refl refl refl refl

pub returns-clause-running : goal.returns-clause-running
returns-clause-running c = λ running.
    let went = c.bring_back-position.ensures in
    let old : machine_of c.args.self.now ≡ c.self.inside.machine = ap (λ d. machine_of d) (sym c.self.view_is) in
    let position : c.bring_back-position.new.machine.position ≡ c.bring_back-position.result =
    ap (λ (m : Standing). m.position) went.machine in
    let same : c.args.self.now.position ≡ c.self.inside.machine.position = ap (λ (m : Standing). m.position) old in
    runs_there c.meaning_laws.ensures.no_gaps c.configuration_laws.ensures.last c.self.inside.machine
    c.bring_back-position.new.machine (ap (λ (m : Standing). m.unit) went.machine)
    (omega (arith, position, went.floor, floor_within c.args.to (trail_of c.self.inside.trail).kept, c.requires, same))
    (subst (λ m. IsRunning m) old running)
