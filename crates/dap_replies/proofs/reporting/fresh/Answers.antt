use Rattle.std.proofs.Common.{rules, ◌<◌, ◌^◌, ◌-◌, length, drop, ap, arith, length-drop}
use Rattle.std.proofs.lemmas.List.{length-take-le}
use Rattle.dbg_runner.specs.Reported.{plain_report}
use Rattle.dap_replies.proofs.Fresh.{told_fits}
use Rattle.dap_replies.proofs.reporting.fresh.Goals as goal

pub returns-then-skipped-numbers-clause-few : goal.returns-then-skipped-numbers-clause-few
returns-then-skipped-numbers-clause-few c =
    let told = c.args.told in
    let report = c.args.report.now in
    let numbers = c.numbers-numbers.result.now in
    let skipped = c.saturating_sub-skipped.result in
    let ends : c.summary.result.end < 2 ^ 64 = search rules in
    let fits =
    told_fits (plain_report report) c.summary.ensures.lawful told (2 ^ 64) c.ranges.told.fits
    (omega (arith, ends, ap (λ s. s.end) c.summary.ensures.is)) in
    omega (
      arith,
      fits,
      length-drop (told - report.numbers_before) report.numbers,
      length-take-le (length numbers - skipped)
          (drop skipped numbers) (omega (arith, length-drop skipped numbers)),
      ap length c.numbers-numbers.ensures,
      c.saturating_sub-skipped.ensures,
      ap (λ s. s.numbers_before) c.summary.ensures.is,
    )
