use Rattle.std.proofs.Common.{ap, map, option_map, subst}
use Rattle.debuggee.specs.Plain.{plain_breakpoint, plain_halt, plain_output}
use Rattle.debuggee.specs.Runs.{Runs, slice_limit}
use Rattle.dap_debug.proofs.running.run_slice.Goals as goal

pub returns : goal.returns
returns g c = (
  _,
  _,
  _,
  subst (λ told. Runs g.L.Debuggee.takes g.L.Debuggee.sees slice_limit c.args.mode c.args.program
      (map plain_breakpoint c.args.breakpoints.now.items) (option_map plain_halt c.in_ok-halt.halt) c.run.new.debuggee
      (map plain_breakpoint c.run.new.breakpoints.items) told (map plain_output c.run.new.told.items))
      (ap (λ l. map plain_output l) c.new-told.ensures.items) c.in_ok-halt.ensures,
  c.in_ok-events.ensures,
  c.phase_after.ensures,
  c.fault_of.ensures,
)
