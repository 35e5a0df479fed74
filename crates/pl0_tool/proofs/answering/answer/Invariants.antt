use Rattle.std.proofs.Common.{take}
use Rattle.std.specs.Prelude.{map}
use Rattle.byte_streams.specs.declared.files.FileKinds.TheVariants.{All}
use Rattle.pl0_tool.specs.Executing.{AreDone, origins}
use Rattle.pl0_tool.proofs.answering.answer.Given as goal

abbrev pub invariant-loop-name : goal.invariant-loop-name
invariant-loop-name g l =
    AreDone (g.F.Opener.opens All) g.F.Opener.closes g.F.File.Source.supply
    l.request.task
    (origins l.initial.files (g.I.Source.supply l.initial.input))
    (g.O.Sink.output l.initial.output)
    (map (λ name. name.now) (take l.name-index l.names))
    l.report
    (origins l.files (g.I.Source.supply l.input))
    (g.O.Sink.output l.output)
