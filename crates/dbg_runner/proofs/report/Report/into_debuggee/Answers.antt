use Rattle.dbg_runner.specs.ReportFields.{reported_of}
use Rattle.dbg_runner.proofs.Keeping.{carried_considered}
use Rattle.dbg_runner.proofs.report.Report.into_debuggee.Goals as goal

pub returns-clause-considered : goal.returns-clause-considered
returns-clause-considered c =
    let report = reported_of c.self.inside in
    carried_considered _ report _ c.self.invariant.lawful c.self.invariant.carries (cc c.in-Carried.is)
