-- How the fields of a log stand for what contracts see of it.
use Rattle.std.specs.Prelude.{◌≤◌, map, take}
use Rattle.dbg_plan.specs.declared.logs.Log.TheInside.{Inside}
use Rattle.dbg_plan.specs.Messages.{expression_limit}
use Rattle.dbg_plan.specs.Logs.{Log}
use Rattle.dbg_plan.specs.Values.{answered}

abbrev pub log_of : Inside → Log
log_of l = record { number = l.number; values = map answered (take l.count l.values) }

abbrev pub HoldsLog : Inside → Type 0
HoldsLog l = l.count ≤ expression_limit
