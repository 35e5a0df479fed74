use Rattle.dap_frame.proofs.Faults.{same_fault}
use Rattle.dap_frame.proofs.Deciding.{decide}
use Rattle.dap_frame.proofs.Frames.{same_frame, never_both, read_again, frames_join}
use Rattle.dap_frame.proofs.laws.frame_laws.Goals as goal

pub returns-clause-frames : goal.returns-clause-frames
returns-clause-frames c = same_frame

pub returns-clause-faults : goal.returns-clause-faults
returns-clause-faults c = same_fault

pub returns-clause-both : goal.returns-clause-both
returns-clause-both c = never_both

pub returns-clause-again : goal.returns-clause-again
returns-clause-again c = read_again

pub returns-clause-join : goal.returns-clause-join
returns-clause-join c = frames_join

pub returns-clause-one_of_three : goal.returns-clause-one_of_three
returns-clause-one_of_three c = decide
