use Rattle.std.proofs.Common.{inl}
use Rattle.pl0_tool.proofs.program.execute.Goals as goal

pub returns-in-Ok : goal.returns-in-Ok
returns-in-Ok g c =
    inl (
      c.in-Ok.report,
      (g.O.Sink.output c.attempt.new.output),
      c.in-Ok.ensures,
      c.tell.ensures,
    )
