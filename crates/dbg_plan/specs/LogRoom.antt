-- How the room for logs stands for the logs in it.
use Rattle.std.specs.Prelude.{◌≤◌, List, vec_capacity}
use Rattle.dbg_plan.specs.declared.logs.Logs.TheInside.{Inside}
use Rattle.dbg_plan.specs.Plans.{breakpoint_limit}
use Rattle.dbg_plan.specs.Logs.{Log}

abbrev pub logs_of : Inside → List Log
logs_of r = r.logs.items

abbrev pub HasRoom : Inside → Type 0
HasRoom r = breakpoint_limit ≤ vec_capacity r.logs
