use Rattle.pl0_tool.proofs.Common.{arith, FitsSigned, frame_of, rules, to_z-of_z, variables_of, w64, ◌∙◌, ◌≡◌}
use Rattle.pl0_tool.proofs.TracedRows.{number_more, all_numbers}
use Rattle.pl0_tool.proofs.tracing.numbers_of.Goals as goal

pub loop-variable-preserved : goal.loop-variable-preserved
loop-variable-preserved c =
    let fits : FitsSigned w64 c.value.result = search rules in
    c.in_ok-push.ensures.items
    ∙ number_more (frame_of c.args.machine.now c.args.frame) c.loop-variable.variable c.value.result _
    c.loop-variable.numbers.items c.value.ensures
    (to_z-of_z w64 c.value.result fits) c.loop-variable.invariant

pub returns : goal.returns
returns c =
    let end : c.loop-variable.variable ≡ variables_of (frame_of c.args.machine.now c.args.frame) =
    omega (arith, c.requires, c.loop-variable.auto.variable-end, c.loop-variable-test.false) in
    c.loop-variable.invariant ∙ all_numbers (frame_of c.args.machine.now c.args.frame) c.loop-variable.variable end
