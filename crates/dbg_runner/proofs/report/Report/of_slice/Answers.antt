use Rattle.dbg_runner.proofs.Common.{sliced}
use Rattle.dbg_runner.proofs.Keeping.{goes_on_considered}
use Rattle.dbg_runner.proofs.report.Report.of_slice.Goals as goal
use Rattle.dbg_runner.proofs.report.Report.of_slice.Goals.{in-More, in-Done, in-Due+in-Carried-1, in-Due+in-Shared+in-None-1, in-Due+in-Shared+in-Some-1}

pub returns-clause-considered : goal.returns-clause-considered
returns-clause-considered c =
    let report =
    sliced c.args.run c.args.mode c.args.start c.args.numbers_before c.args.outputs c.args.debuggee.value
    c.args.outcome in
    elim c.match-outcome.branch [
      | in-More w ↦ rw w.subject-is (goes_on_considered report c.args.debuggee.value c.requires.lawful w.in-More.is
          c.requires.stands)
      | in-Done w ↦ rw w.subject-is tt
      | in-Due+in-Carried-1 w ↦ rw w.subject-is tt
      | in-Due+in-Shared+in-None-1 w ↦ rw w.subject-is tt
      | in-Due+in-Shared+in-Some-1 w ↦ rw w.subject-is tt
    ]
