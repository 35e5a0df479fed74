use Rattle.std.proofs.Common.{◌≡◌, ◌++◌, map, drop, string_bytes}
use Rattle.dbg_plan.specs.Values.{answered}
use Rattle.dbg_plan.specs.Messages.{plain_parts}
use Rattle.dbg_plan.specs.Logs.{filled}
use Rattle.dbg_plan.proofs.logging.log_text.Given as goal

abbrev pub invariant-loop-part : goal.invariant-loop-part
invariant-loop-part l =
    string_bytes l.text ++ filled (plain_parts (drop l.part-index l.parts)) (map answered l.values) ≡ filled
    (plain_parts l.parts) l.log.values
