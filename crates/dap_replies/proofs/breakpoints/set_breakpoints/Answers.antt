use Rattle.std.proofs.Common.{refl, rules}
use Rattle.dap_replies.proofs.breakpoints.set_breakpoints.Goals as goal

pub returns-in-Fresh-clause-chooses : goal.returns-in-Fresh-clause-chooses
returns-in-Fresh-clause-chooses c = record { fits = refl; reacts = λ past is. search rules; suits = tt }
