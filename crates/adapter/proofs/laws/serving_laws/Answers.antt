use Rattle.adapter.proofs.AllRead.{all_read_is_answered, input_taken_whole}
use Rattle.adapter.proofs.InputTaken.{first_disconnect_closes}
use Rattle.adapter.proofs.RunsEnd.{runs_end_once}
use Rattle.adapter.proofs.SessionFaults.{outcome_is_of_session, nobody_is_gone, full_after_enough}
use Rattle.adapter.proofs.UpTo.{disconnect_is_answered, all_before_fault_is_answered}
use Rattle.adapter.proofs.Written.{output_is_of_history}
use Rattle.adapter.proofs.laws.serving_laws.Goals as goal

pub returns-clause-outcome : goal.returns-clause-outcome
returns-clause-outcome c = outcome_is_of_session

pub returns-clause-input : goal.returns-clause-input
returns-clause-input c =
    input_taken_whole c.command_laws.ensures.taken c.command_laws.ensures.ends c.history_laws.ensures.closed_by

pub returns-clause-written : goal.returns-clause-written
returns-clause-written c = output_is_of_history (record {
  one_frame = c.frame_laws.ensures.frames;
  one_fault = c.frame_laws.ensures.faults;
  not_both = c.frame_laws.ensures.both;
  one_request = c.message_laws.ensures.reading;
  one_after = c.history_laws.ensures.one_effect;
}) c.history_laws.ensures.one

pub returns-clause-answered : goal.returns-clause-answered
returns-clause-answered c = all_read_is_answered (record {
  one = c.history_laws.ensures.one;
  contents = c.history_laws.ensures.contents;
  answered = c.history_laws.ensures.answered;
  unread = c.history_laws.ensures.unread;
  closed_by = c.history_laws.ensures.closed_by;
  taken = c.command_laws.ensures.taken;
  ends = c.command_laws.ensures.ends;
})

pub returns-clause-disconnected : goal.returns-clause-disconnected
returns-clause-disconnected c =
    disconnect_is_answered c.history_laws.ensures.one c.history_laws.ensures.contents c.history_laws.ensures.answered
    c.history_laws.ensures.last

pub returns-clause-fault : goal.returns-clause-fault
returns-clause-fault c = all_before_fault_is_answered c.history_laws.ensures.contents c.history_laws.ensures.answered

pub returns-clause-disconnect : goal.returns-clause-disconnect
returns-clause-disconnect c = first_disconnect_closes c.history_laws.ensures.last

pub returns-clause-gone : goal.returns-clause-gone
returns-clause-gone c = nobody_is_gone

pub returns-clause-full : goal.returns-clause-full
returns-clause-full c = full_after_enough

pub returns-clause-runs : goal.returns-clause-runs
returns-clause-runs c = runs_end_once c.runner_laws.ensures.one_last c.runner_laws.ensures.runs
