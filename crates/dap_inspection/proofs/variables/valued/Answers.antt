use Rattle.std.proofs.Common.{rules, ◌∙◌, FitsSigned, w64}
use Rattle.std.proofs.lemmas.Int.{to_z-of_z}
use Rattle.dap_inspection.proofs.FrameVariables.{one_more}
use Rattle.dap_inspection.proofs.variables.valued.Goals as goal

pub loop-index-preserved : goal.loop-index-preserved
loop-index-preserved c =
    let fits : FitsSigned w64 c.value-value.result = search rules in
    c.in_ok-push.ensures.items
    ∙ one_more _ _ _ _ _ _ _ _ c.loop-index-test.true c.index-names-index.is c.value-value.ensures (to_z-of_z w64
    c.value-value.result fits) (c.in_ok-name.ensures ∙ c.as_str.ensures.value) c.loop-index.invariant
