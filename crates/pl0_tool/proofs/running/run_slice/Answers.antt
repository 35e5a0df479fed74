use Rattle.pl0_tool.proofs.Common.{[], ap, Done, FailsIn, Fault, FitsSigned, Holds, lines_between, None, Ran, refl, rules, signed_decimal, Some, subst, sym, to_z-of_z, w64, Went, ◌++◌, ◌∙◌, ◌∷◌}
use Rattle.pl0_tool.specs.Running.{RanToNumber}
use Rattle.pl0_tool.proofs.RunLines.{before_limit, came_on, failed_so, held_on, held_still, ran_on, running_on, slice_ended, slice_faulted, slice_over, wrote_on}
use Rattle.pl0_tool.proofs.running.run_slice.Goals as goal

pub returns-in-None-run_to_number-clause-ran : goal.returns-in-None-run_to_number-clause-ran
returns-in-None-run_to_number-clause-ran g c =
    let start = c.args.machine.now in
    let now = c.numbers.machine in
    let new = c.run_to_number.new.machine in
    let came = c.numbers.invariant.1 in
    let before = (g.O.Sink.output c.args.output.now) in
    let limit = c.args.limit in
    let s = c.in-None-run_to_number.ensures in
    slice_over c.meaning_laws.ensures.joins limit start now new c.finish.result before _ came s
    (c.finish.ensures.written before (lines_between start new)
    (held_still c.meaning_laws.ensures.joins limit start now new before _ _ came s c.numbers.invariant.3))

pub numbers-preserved-in-Some-Went-None : goal.numbers-preserved-in-Some-Went-None
numbers-preserved-in-Some-Went-None g c =
    let start = c.args.machine.now in
    let now = c.numbers.machine in
    let new = c.run_to_number.new.machine in
    let came = c.numbers.invariant.1 in
    let limit = c.args.limit in
    let arm = c.in-Some-Went-None in
    let before = (g.O.Sink.output c.args.output.now) in
    let out = (g.O.Sink.output c.numbers.output) in
    let told : RanToNumber limit now (Some (Went None)) new =
    subst (λ o. RanToNumber limit now (Some o) new) (arm.field-0-is ∙ ap Went arm.field-0-0-is) arm.ensures in
    let ran = ran_on c.meaning_laws.ensures.joins limit now new (Went None) told in (
      running_on now new None ran,
      came_on start now new (Went None) came ran,
      before_limit limit now new (Went None) told,
      held_on start now new (Went None) before out c.numbers.pending.items refl came ran c.numbers.invariant.3,
    )

pub returns-in-Err-clause-ran : goal.returns-in-Err-clause-ran
returns-in-Err-clause-ran g c =
    let start = c.args.machine.now in
    let now = c.numbers.machine in
    let new = c.run_to_number.new.machine in
    let came = c.numbers.invariant.1 in
    let limit = c.args.limit in
    let arm = c.in-Some-Went-Some in
    let number = arm.number in
    let fits : FitsSigned w64 number = search rules in
    let before = (g.O.Sink.output c.args.output.now) in
    let out = (g.O.Sink.output c.put_line.new.output) in
    let told : RanToNumber limit now (Some (Went (Some number))) new =
    subst (λ o. RanToNumber limit now (Some o) new) (arm.field-0-is ∙ ap Went arm.field-0-0-is) arm.ensures in
    let ran = ran_on c.meaning_laws.ensures.joins limit now new (Went (Some number)) told in (
      failed_so start now new (Went (Some number)) before out came ran
          (subst (λ l. FailsIn l before out) (sym (wrote_on start now new (Went (Some number)) came ran))
          (subst (λ n. FailsIn (lines_between start now ++ (signed_decimal n ++ (10 ∷ []))) before out)
          (to_z-of_z w64 number fits) (c.in-Err.ensures before (lines_between start now) c.numbers.invariant.3))),
      before_limit limit now new (Went (Some number)) told,
    )

pub numbers-preserved : goal.numbers-preserved
numbers-preserved g c =
    let start = c.args.machine.now in
    let now = c.numbers.machine in
    let new = c.run_to_number.new.machine in
    let came = c.numbers.invariant.1 in
    let limit = c.args.limit in
    let arm = c.in-Some-Went-Some in
    let number = arm.number in
    let fits : FitsSigned w64 number = search rules in
    let before = (g.O.Sink.output c.args.output.now) in
    let out = (g.O.Sink.output c.put_line.new.output) in
    let told : RanToNumber limit now (Some (Went (Some number))) new =
    subst (λ o. RanToNumber limit now (Some o) new) (arm.field-0-is ∙ ap Went arm.field-0-0-is) arm.ensures in
    let ran = ran_on c.meaning_laws.ensures.joins limit now new (Went (Some number)) told in (
      running_on now new (Some number) ran,
      came_on start now new (Went (Some number)) came ran,
      before_limit limit now new (Went (Some number)) told,
      subst (Holds before out c.put_line.new.pending.items)
          (sym (wrote_on start now new (Went (Some number)) came ran))
          (subst (λ n. Holds before out c.put_line.new.pending.items
          (lines_between start now ++ (signed_decimal n ++ (10 ∷ [])))) (to_z-of_z w64 number fits)
          (c.in-Ok.ensures before (lines_between start now) c.numbers.invariant.3)),
    )

pub returns-in-Some-Done-clause-ran : goal.returns-in-Some-Done-clause-ran
returns-in-Some-Done-clause-ran g c =
    let start = c.args.machine.now in
    let now = c.numbers.machine in
    let new = c.run_to_number.new.machine in
    let came = c.numbers.invariant.1 in
    let limit = c.args.limit in
    let arm = c.in-Some-Done in
    let before = (g.O.Sink.output c.args.output.now) in
    let mid = (g.O.Sink.output c.numbers.output) in
    let told = subst (λ o. RanToNumber limit now (Some o) new) arm.field-0-is arm.ensures in
    let ran : Ran now new Done = ran_on c.meaning_laws.ensures.joins limit now new Done told in
    slice_ended limit start now new c.finish-in-Some-Done.result before _ came ran
    (before_limit limit now new Done told)
    (c.finish-in-Some-Done.ensures.written before (lines_between start new)
    (held_on start now new Done before mid c.numbers.pending.items refl came ran c.numbers.invariant.3))

pub returns-in-Some-Fault-clause-ran : goal.returns-in-Some-Fault-clause-ran
returns-in-Some-Fault-clause-ran g c =
    let start = c.args.machine.now in
    let now = c.numbers.machine in
    let new = c.run_to_number.new.machine in
    let came = c.numbers.invariant.1 in
    let limit = c.args.limit in
    let arm = c.in-Some-Fault in
    let fault = arm.fault in
    let before = (g.O.Sink.output c.args.output.now) in
    let mid = (g.O.Sink.output c.numbers.output) in
    let told = subst (λ o. RanToNumber limit now (Some o) new) arm.field-0-is arm.ensures in
    let ran : Ran now new (Fault fault) = ran_on c.meaning_laws.ensures.joins limit now new (Fault fault) told in
    slice_faulted limit start now new fault c.finish-in-Some-Fault.result before _ came ran
    (before_limit limit now new (Fault fault) told)
    (c.finish-in-Some-Fault.ensures.written before (lines_between start new)
    (held_on start now new (Fault fault) before mid c.numbers.pending.items refl came ran c.numbers.invariant.3))
