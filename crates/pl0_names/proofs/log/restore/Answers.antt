use Rattle.pl0_names.proofs.Common.{bytes_eq}
use Rattle.std.specs.Map.{update}
use Rattle.std.proofs.lemmas.Map.Text.{hash_map_updates_str}
use Rattle.pl0_names.proofs.Tables.{unless_absent}
use Rattle.pl0_names.proofs.log.restore.Goals as goal
use Rattle.std.proofs.Common.{arith}
use Rattle.std.proofs.lemmas.Grind.{common_steps}

pub returns-in-None : goal.returns-in-None
returns-in-None g c = grind (arith, common_steps, hash_map_updates_str, update, bytes_eq)

pub returns-in-Some : goal.returns-in-Some
returns-in-Some g c = grind (arith, common_steps, hash_map_updates_str, unless_absent, update, bytes_eq)
