-- What buffers hold.
use Rattle.std.specs.Prelude.{List, [], ℤ, Option}
use Rattle.std.specs.Global.{Vec}
use Rattle.std.specs.Option.{option_map_or, unwrap_or}
use Rattle.dbg_plan.specs.Logs.{Log}

-- the numbers in a buffer, if there is one
abbrev pub numbers_in : Option (Vec ℤ) → List ℤ
numbers_in buffer = option_map_or (λ numbers. numbers.items) buffer []

-- the logs in a buffer, if there is one
abbrev pub logs_in : Option (List Log) → List Log
logs_in buffer = unwrap_or buffer []
