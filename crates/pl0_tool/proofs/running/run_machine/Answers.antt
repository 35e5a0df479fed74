use Rattle.pl0_tool.proofs.Common.{arith, refl, ◌+◌}
use Rattle.pl0_tool.proofs.RunLines.{came_both, slice_joined, written_join}
use Rattle.pl0_tool.proofs.running.run_machine.Goals as goal

pub returns-in-Some-run_slice-clause-ran : goal.returns-in-Some-run_slice-clause-ran
returns-in-Some-run_slice-clause-ran g c =
    (slice_joined c.meaning_laws.ensures.joins c.in-Some-run_slice.end c.args.machine.now c.slices.machine
    c.run_slice.new.machine c.slices.invariant.1.0 c.slice_end-until.result c.args.limit _ _ _
    c.slices.invariant.1.1 c.slices.invariant.3 c.slice_end-until.ensures.within c.in-Some-run_slice.ensures.ran).0

pub returns-in-Some-run_slice-clause-within : goal.returns-in-Some-run_slice-clause-within
returns-in-Some-run_slice-clause-within g c =
    (slice_joined c.meaning_laws.ensures.joins c.in-Some-run_slice.end c.args.machine.now c.slices.machine
    c.run_slice.new.machine c.slices.invariant.1.0 c.slice_end-until.result c.args.limit _ _ _
    c.slices.invariant.1.1 c.slices.invariant.3 c.slice_end-until.ensures.within c.in-Some-run_slice.ensures.ran).1

pub returns-then-until-limit-clause-ran : goal.returns-then-until-limit-clause-ran
returns-then-until-limit-clause-ran g c =
    let start = c.args.machine.now in
    let mid = c.slices.machine in
    let new = c.run_slice.new.machine in
    let came = c.slices.invariant.1 in
    let on = c.in-None-run_slice.ensures.ran.0 in (
      came.0 + on.0,
      came_both start mid new came.0 on.0 came.1 on.1,
      on.2,
      written_join c.meaning_laws.ensures.joins start mid new came.0 on.0 _ _ _ came.1 on.1 c.slices.invariant.3 on.3,
    )

pub slices-preserved : goal.slices-preserved
slices-preserved g c =
    let start = c.args.machine.now in
    let mid = c.slices.machine in
    let new = c.run_slice.new.machine in
    let came = c.slices.invariant.1 in
    let on = c.in-None-run_slice.ensures.ran.0 in (
      on.2,
      (came.0 + on.0, came_both start mid new came.0 on.0 came.1 on.1),
      c.in-None-run_slice.ensures.empty refl,
      written_join c.meaning_laws.ensures.joins start mid new came.0 on.0 _ _ _ came.1 on.1 c.slices.invariant.3 on.3,
      (let there = c.in-None-run_slice.ensures.ran.1 in let short = c.slice_end-until.ensures.within in
          omega (arith, there, short)),
    )
