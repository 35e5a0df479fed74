use Rattle.std.proofs.Common.{◌≡◌, map, take}
use Rattle.pl0_tool.proofs.arguments.asked_for.Given as goal

abbrev pub invariant-loop-file : goal.invariant-loop-file
invariant-loop-file l = map (λ file. file.now) l.files.items ≡ map (λ file. file.now) (take l.file-index l.file-items)
