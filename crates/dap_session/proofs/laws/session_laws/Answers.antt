use Rattle.dap_session.proofs.Beginnings.{faults_leave_prefixes}
use Rattle.dap_session.proofs.Numbering.{frames_are_numbered}
use Rattle.dap_session.proofs.laws.session_laws.Goals as goal

pub returns-clause-prefixes : goal.returns-clause-prefixes
returns-clause-prefixes c = faults_leave_prefixes (record {
  one_frame = c.frame_laws.ensures.frames;
  one_fault = c.frame_laws.ensures.faults;
  not_both = c.frame_laws.ensures.both;
  one_request = c.message_laws.ensures.reading;
  one_after = c.history_laws.ensures.one_effect;
}) c.history_laws.ensures.one

pub returns-clause-numbered : goal.returns-clause-numbered
returns-clause-numbered c =
    frames_are_numbered c.history_laws.ensures.numbered c.history_laws.ensures.read_back
    (record {
      one_frame = c.frame_laws.ensures.frames;
      one_fault = c.frame_laws.ensures.faults;
      not_both = c.frame_laws.ensures.both;
      one_request = c.message_laws.ensures.reading;
      one_after = c.history_laws.ensures.one_effect;
    }) c.history_laws.ensures.one

pub returns-clause-late : goal.returns-clause-late
returns-clause-late c past new old later breaks = breaks.1
