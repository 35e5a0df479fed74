use Rattle.dbg_runner.proofs.Common.{IsOn, debugged_program, subst}
use Rattle.dbg_runner.specs.declared.retreat.Way.{Way}
use Rattle.pl0_machine.proofs.Alive.{runs_before}
use Rattle.dbg_runner.proofs.retreat.run_again.Goals as goal

pub go_on-steps-requires-clause-runs : goal.go_on-steps-requires-clause-runs
go_on-steps-requires-clause-runs c =
    let on = subst (λ (w : Way). IsOn c.args.start c.args.debuggee.now c.args.again w) c.in-Returns.is c.requires.on in
    runs_before (debugged_program c.args.debuggee.now) c.in-Returns.to c.args.start on.1 c.requires.begun
