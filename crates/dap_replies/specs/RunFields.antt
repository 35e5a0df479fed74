-- Defines what the fields of a run mean.
use Rattle.std.specs.Prelude.{option_map}
use Rattle.std.specs.Arc.{arc_value}
use Rattle.dbg_plan.specs.Plans.{Listed, breakpoints_of}
use Rattle.dbg_plan.specs.Breakpoints.{plain_breakpoints}
use Rattle.dbg_plan.specs.Counting.{MayBePlanOf}
use Rattle.dap_replies.specs.declared.run.Run.TheInside.{Inside}
use Rattle.dap_replies.specs.Runs.{OrderedRun}

-- what contracts see of a run with these fields
abbrev pub ordered_of : Inside → OrderedRun
ordered_of r =
    record {
      unit = r.unit.value;
      mode = r.mode;
      position = r.position;
      breakpoints = breakpoints_of (option_map arc_value r.plan);
      counted_from = r.counted_from;
      waiting_plan = option_map (λ (p : Listed). plain_breakpoints p.breakpoints)
          (option_map arc_value r.waiting_plan);
      waiting_pause = r.waiting_pause;
      held = r.held;
    }

-- the plan that waits was made for the program
abbrev pub IsFitting : Inside → Type 0
IsFitting r = MayBePlanOf r.unit.value (option_map arc_value r.waiting_plan)
