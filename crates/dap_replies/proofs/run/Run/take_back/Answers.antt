use Rattle.std.proofs.Common.{sym, option_map}
use Rattle.std.specs.Arc.{arc_value}
use Rattle.dap_replies.proofs.Units.{fits_also}
use Rattle.dap_replies.proofs.run.Run.take_back.Goals as goal

pub with_plan-requires-clause-fits : goal.with_plan-requires-clause-fits
with_plan-requires-clause-fits c =
    fits_also c.code_laws.ensures.one_code c.self.inside.unit.value c.args.debuggee.value.unit
    (option_map arc_value c.self.inside.waiting_plan) (sym (rw (← c.self.view_is) at c.requires.text))
    c.self.invariant
