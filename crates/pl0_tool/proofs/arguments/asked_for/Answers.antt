use Rattle.std.proofs.Common.{◌≡◌, ◌∙◌, ap, refl, codes, map, take, List, Bor, arith}
use Rattle.std.proofs.lemmas.List.{take_all}
use Rattle.clap.specs.Words.{Text, found_of}
use Rattle.clap.proofs.WalkLemmas.{raw_values-rows}
use Rattle.pl0_tool.proofs.CommandLine.{texts_or_none}
use Rattle.pl0_tool.proofs.arguments.asked_for.Goals as goal

pub returns-clause-files : goal.returns-clause-files
returns-clause-files c =
    let items = c.unwrap_or-file-items.result.now in
    let all : take c.loop-file.file-index items ≡ items = take_all c.loop-file.file-index items (omega arith) in
    let texts = ap (λ (texts : Bor (List (Bor Text))). texts.now) c.unwrap_or-file-items.ensures in
    c.loop-file.invariant ∙ ap (map (λ (file : Bor Text). file.now)) (all ∙ texts)
    ∙ texts_or_none c.get_strs.result _ _ refl
    (c.get_strs.ensures ∙ raw_values-rows (found_of c.args.given.now) (codes "FILE"))
