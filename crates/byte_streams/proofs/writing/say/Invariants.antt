use Rattle.std.proofs.Common.{◌≡◌, take}
use Rattle.std.specs.Prelude.{map}
use Rattle.std.specs.List.{concat}
use Rattle.byte_streams.specs.Streams.{Appends}
use Rattle.byte_streams.proofs.writing.say.Given as goal

abbrev pub invariant-loop-text : goal.invariant-loop-text
invariant-loop-text g l =
    Appends (g.O.Sink.output l.initial.output).written (g.O.Sink.output l.output).written
    (concat (map (λ text. text.now) (take l.text-index l.texts)))
    × ((g.O.Sink.output l.output).failures ≡ (g.O.Sink.output l.initial.output).failures)
