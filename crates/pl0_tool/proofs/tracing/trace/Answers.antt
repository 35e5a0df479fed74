use Rattle.std.proofs.Common.{inl}
use Rattle.pl0_tool.proofs.Common.{ap, arith, at_position, Done, Fault, inr, refl, Some, subst, Went, ◌+◌, ◌∙◌, ◌≡◌}
use Rattle.pl0_machine.specs.declared.outcome.StepOutcome.{StepOutcome}
use Rattle.pl0_tool.specs.Traced.{HasTable}
use Rattle.pl0_tool.proofs.TracedRows.{position_there, stands, table_none, told_failed, told_on, told_part, traced_end, traced_fault, traced_nowhere}
use Rattle.pl0_tool.proofs.tracing.trace.Goals as goal

pub returns-in-Some-clause-told : goal.returns-in-Some-clause-told
returns-in-Some-clause-told g c =
    traced_nowhere c.in-Some.end c.args.machine.now c.go_to.new.machine c.args.from c.args.count _ _ c.in-Some.ensures

pub loop-index-init : goal.loop-index-init
loop-index-init g c =
    let there = c.in_default.ensures in (
      there.0,
      stands c.args.machine.now c.go_to.new.machine c.args.from there.1,
      table_none _ c.args.from _,
      inr refl,
    )

pub returns-in-Err-clause-told : goal.returns-in-Err-clause-told
returns-in-Err-clause-told g c =
    told_part c.args.from c.loop-index.index c.args.count _ _ _ _ _ c.loop-index-test.true c.in-Err.ensures.told
    c.loop-index.invariant.2

pub returns-in-Ok-None-clause-told : goal.returns-in-Ok-None-clause-told
returns-in-Ok-None-clause-told g c =
    told_failed c.go_to.new.machine c.loop-index.machine c.tell_row.new.machine c.args.from c.loop-index.index
    c.args.count c.in-Ok-None.field-0 _ _ _ _ _ _ c.in-Ok-None.field-0-is c.loop-index-test.true
    c.loop-index.invariant.1 c.loop-index.invariant.2 c.in-Ok-None.ensures.told

pub returns-in-Ok-Some-Done-clause-told : goal.returns-in-Ok-Some-Done-clause-told
returns-in-Ok-Some-Done-clause-told g c =
    let is : c.in-Ok-Some-Done.field-0 ≡ Some Done =
    c.in-Ok-Some-Done.field-0-is ∙ ap (λ (o : StepOutcome). Some o) c.in-Ok-Some-Done.field-0-0-is in
    traced_end c.args.machine.now c.go_to.new.machine c.loop-index.machine c.tell_row.new.machine c.args.from
    c.loop-index.index c.args.count c.in-Ok-Some-Done.field-0 _ _ _ _ _ _ is c.loop-index-test.true
    c.in_default.ensures.1 c.loop-index.invariant.1 c.loop-index.invariant.2 c.in-Ok-Some-Done.ensures.told

pub returns-in-Ok-Some-Fault-clause-told : goal.returns-in-Ok-Some-Fault-clause-told
returns-in-Ok-Some-Fault-clause-told g c =
    let fault = c.in-Ok-Some-Fault.fault in
    let is : c.in-Ok-Some-Fault.field-0 ≡ Some (Fault fault) =
    c.in-Ok-Some-Fault.field-0-is ∙ ap (λ (o : StepOutcome). Some o) c.in-Ok-Some-Fault.field-0-0-is in
    traced_fault c.args.machine.now c.go_to.new.machine c.loop-index.machine c.tell_row.new.machine fault c.args.from
    c.loop-index.index c.args.count c.in-Ok-Some-Fault.field-0 _ _ _ _ _ _ is c.loop-index-test.true
    c.in_default.ensures.1 c.loop-index.invariant.1 c.loop-index.invariant.2 c.in-Ok-Some-Fault.ensures.told

pub loop-index-preserved : goal.loop-index-preserved
loop-index-preserved g c =
    let is : c.in-Ok-Some-Went.field-0 ≡ Some (Went c.in-Ok-Some-Went.field-0-0-0) =
    c.in-Ok-Some-Went.field-0-is ∙ ap (λ (o : StepOutcome). Some o) c.in-Ok-Some-Went.field-0-0-is in
    let told = told_on c.go_to.new.machine c.loop-index.machine c.tell_row.new.machine c.args.from c.loop-index.index
    c.in-Ok-Some-Went.field-0 c.in-Ok-Some-Went.field-0-0-0 _ _ _ _ _ _ is c.loop-index.invariant.1
    c.loop-index.invariant.2 c.in-Ok-Some-Went.ensures.told in
    (told.0, told.1, told.2, inl c.in-Ok-Some-Went.ensures.few)

pub returns-clause-told : goal.returns-clause-told
returns-clause-told g c =
    let start = c.args.machine.now in
    let mid = c.go_to.new.machine in
    let end : c.loop-index.index ≡ c.args.count =
    omega (arith, c.loop-index.auto.index-end, c.loop-index-test.false) in (
      c.loop-index.invariant.1
          ∙ position_there start mid c.args.from (c.args.from + c.loop-index.index) c.in_default.ensures.1
          ∙ ap (λ k. at_position start (c.args.from + k)) end,
      c.loop-index.invariant.0,
      subst (λ k. HasTable c.args.page.now.items c.args.from k (g.O.Sink.output c.args.output.now)
          (g.O.Sink.output c.loop-index.output) c.loop-index.page.items) end c.loop-index.invariant.2,
    )
