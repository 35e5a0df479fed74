use Rattle.std.proofs.Common.{◌+◌, ap, ◌∙◌, drop, rules, tests}
use Rattle.std.specs.Slice.Iter.{iter_rest}
use Rattle.std.proofs.lemmas.Iterator.{YieldsList-from_slice}
use Rattle.std.proofs.lemmas.Iterator.Consumers.{count_from_yields_List}
use Rattle.std.proofs.lemmas.Iterator.Search.{YieldsList-from_take_while}
use Rattle.std.proofs.lemmas.List.Folds.{length-prefix_len}
use Rattle.std.proofs.lemmas.List.{take_rest}
use Rattle.dbg_plan.specs.Plans.{is_of}
use Rattle.dbg_plan.proofs.table.end_of.Goals as goal

pub returns : goal.returns
returns c =
    let rest = drop c.args.start c.args.ordered.now in
    ap (λ n. c.args.start + n)
    (count_from_yields_List c.take_while.result _ c.count.ensures.ran
    (YieldsList-from_take_while _ (is_of c.args.step)
    (YieldsList-from_slice rest (ap iter_rest c.take_while.ensures.source ∙ c.iter.ensures.rest
    ∙ take_rest c.args.ordered.now c.args.start)) c.take_while.ensures.closure c.take_while.ensures.done
    (λ x b q k. search (rules, tests)))
    ∙ length-prefix_len (is_of c.args.step) rest)
