use Rattle.std.proofs.Common.{Ok, inl, inr, refl}
use Rattle.pl0_tool.proofs.CommandTells.{text_writes, told_err}
use Rattle.pl0_tool.proofs.answering.add_answer.Goals as goal

pub returns-in_err-perform-in-Ok : goal.returns-in_err-perform-in-Ok
returns-in_err-perform-in-Ok g c =
    told_err _ _ c.from_residual.result c.from_residual.ensures.1 (record {
      read = Ok c.in-Ok.text.items;
      reads = c.in-Ok.ensures;
      writes = rw c.as_slice.ensures.value at c.in_err-perform-in-Ok.ensures;
    })

pub returns-in_err-add-in-Ok : goal.returns-in_err-add-in-Ok
returns-in_err-add-in-Ok g c =
    told_err _ _ c.from_residual-in_err-add-in-Ok.result c.from_residual-in_err-add-in-Ok.ensures.1 (record {
      read = Ok c.in-Ok.text.items;
      reads = c.in-Ok.ensures;
      writes = text_writes c.args.task c.args.name.now c.in-Ok.text.items c.in_ok-perform-in-Ok.field-0 _ _
          (rw c.as_slice.ensures.value at c.in_ok-perform-in-Ok.ensures);
    })

pub returns-in_ok-add-in-Ok : goal.returns-in_ok-add-in-Ok
returns-in_ok-add-in-Ok g c = (
  c.in_ok-perform-in-Ok.field-0,
  inl (record {
    text = c.in-Ok.text.items;
    reads = c.in-Ok.ensures;
    tells = rw c.as_slice.ensures.value at c.in_ok-perform-in-Ok.ensures;
  }),
  c.in_ok-add-in-Ok.ensures,
)

pub returns-in_ok-add-in-Err : goal.returns-in_ok-add-in-Err
returns-in_ok-add-in-Err g c = (
  c.in_ok-unread-in-Err.field-0,
  inr (record {
    fault = c.in-Err.fault;
    reads = c.in-Err.ensures;
    no_memory = c.in_ok-unread-in-Err.ensures.memory;
    tells = c.in_ok-unread-in-Err.ensures.told;
    kept = refl;
  }),
  c.in_ok-add-in-Err.ensures,
)
