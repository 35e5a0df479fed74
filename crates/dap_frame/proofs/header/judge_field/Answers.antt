use Rattle.dap_frame.proofs.Common.{Field}
use Rattle.dap_frame.proofs.Judging.{names_as_before, other_name}
use Rattle.dap_frame.proofs.header.judge_field.Goals as goal

pub returns-then-ne-clause-ok : goal.returns-then-ne-clause-ok
returns-then-ne-clause-ok c = λ fields names.
    let f : Field = record { name = c.in-Some.field.name.now; value = c.in-Some.field.value.now } in
    let found = c.in-Some.ensures.found in (
      f,
      found.0,
      found.1,
      names_as_before fields f c.args.named
          (other_name f c.as_slice.result.now c.as_slice.ensures c.if-ne.ensures) names,
    )
