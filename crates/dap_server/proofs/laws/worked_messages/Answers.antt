use Rattle.std.proofs.Common.{refl}
use Rattle.std.specs.Fmt.{digits}
use Rattle.json.specs.Print.{escape_byte}
use Rattle.dap_server.proofs.laws.worked_messages.Goals as goal

pub returns-clause-events : goal.returns-clause-events
unfolding digits escape_byte
returns-clause-events c = refl

pub returns-clause-refusals : goal.returns-clause-refusals
unfolding digits escape_byte
returns-clause-refusals c = refl

pub returns-clause-disconnect : goal.returns-clause-disconnect
unfolding digits escape_byte
returns-clause-disconnect c = refl
