use Rattle.std.proofs.Common.{◌∙◌}
use Rattle.std.specs.Str.Parse.{ParsesUnsigned, ExplainsUnsignedError, HasUnsignedDigitsIfOk}
use Rattle.clap.specs.Words.{found_of}
use Rattle.clap.proofs.WalkLemmas.{one_text-rows}
use Rattle.pl0_tool.proofs.CommandLine.{option_number}
use Rattle.pl0_tool.proofs.arguments.number.Goals as goal

pub returns : goal.returns
returns c = let same = one_text-rows (found_of c.args.given.now) c.args.name.now in
    option_number (λ bs r. ParsesUnsigned 64 10 bs r × ExplainsUnsignedError 10 bs r × HasUnsignedDigitsIfOk bs r)
    (λ text r gives. gives.0) _ c.get_one.result c.args.default c.unwrap_or.result
    (λ none. c.get_one.ensures.none (same ∙ none)) (λ text is. c.get_one.ensures.value text (same ∙ is))
    c.unwrap_or.ensures
