use Rattle.dap_frame.proofs.WorkedFaults.{faults_are_these, other_fields_are_lawful}
use Rattle.dap_frame.proofs.laws.worked_faults.Goals as goal

pub returns-clause-faults : goal.returns-clause-faults
returns-clause-faults c = faults_are_these

pub returns-clause-fields : goal.returns-clause-fields
returns-clause-fields c = other_fields_are_lawful
