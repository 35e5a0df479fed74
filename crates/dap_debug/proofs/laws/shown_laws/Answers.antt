use Rattle.dap_debug.proofs.Found.{frames_found, scopes_found, variables_found}
use Rattle.dap_debug.proofs.laws.shown_laws.Goals as goal

pub returns-clause-frames : goal.returns-clause-frames
returns-clause-frames c = frames_found

pub returns-clause-scopes : goal.returns-clause-scopes
returns-clause-scopes c = scopes_found

pub returns-clause-variables : goal.returns-clause-variables
returns-clause-variables c = variables_found
