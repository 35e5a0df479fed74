use Rattle.std.proofs.Common.{[]}
use Rattle.dap_history.specs.Events.{only_bytes}
use Rattle.dap_history.proofs.Contents.{contents_of_stream}
use Rattle.dap_history.proofs.Cuts.{cuts_change_nothing}
use Rattle.dap_history.proofs.Starts.{each_run_starts}
use Rattle.dap_history.proofs.GoingBack.{each_goes_back, counts_begin_anew, retreats_not_held}
use Rattle.dap_history.proofs.Answered.{each_answered}
use Rattle.dap_history.proofs.Last.{disconnect_last}
use Rattle.dap_history.proofs.Closings.{closed_by_end, closed_by_failure, quit_is_last, quit_closes}
use Rattle.dap_history.proofs.Leading.{each_item_leads}
use Rattle.dap_history.proofs.Effects.{none_nowhere}
use Rattle.dap_history.proofs.Unread.{rest_is_open}
use Rattle.dap_history.proofs.Numbered.{numbers_count, frames_read_back}
use Rattle.dap_history.proofs.StopOrder.{stops_follow, logs_follow}
use Rattle.dap_history.proofs.Logging.{logs_of_positions, stops_follow_logs}
use Rattle.dap_history.proofs.Progress.{numbers_written}
use Rattle.dap_history.proofs.Stopping.{each_stop_right}
use Rattle.dap_history.proofs.Standing.{questions_answered}
use Rattle.dap_history.proofs.OneReply.{one_after}
use Rattle.dap_history.proofs.Texts.{one_program}
use Rattle.dap_history.proofs.OneHistory.{one_history}
use Rattle.dap_history.proofs.Transitions.{each_step_leads, situation_after}
use Rattle.dap_history.proofs.laws.history_laws.Goals as goal

pub returns-clause-one_effect : goal.returns-clause-one_effect
returns-clause-one_effect c = one_after (record {
  one_tree = c.text_laws.ensures.program;
  one_fault = c.text_laws.ensures.one_fault;
  not_both = c.text_laws.ensures.fault;
  one_condition = c.editor_laws.ensures.one_condition;
  one_expression = c.editor_laws.ensures.one_expression;
})

pub returns-clause-one : goal.returns-clause-one
returns-clause-one c = λ f events past other rest left history there.
    one_history (record {
      one_frame = c.frame_laws.ensures.frames;
      one_fault = c.frame_laws.ensures.faults;
      not_both = c.frame_laws.ensures.both;
      one_request = c.message_laws.ensures.reading;
      one_after = returns-clause-one_effect c;
    }) f [] (only_bytes []) events past other rest left history there

pub returns-clause-answered : goal.returns-clause-answered
returns-clause-answered c = each_answered

pub returns-clause-numbered : goal.returns-clause-numbered
returns-clause-numbered c = numbers_count

pub returns-clause-read_back : goal.returns-clause-read_back
returns-clause-read_back c =
    frames_read_back (contents_of_stream c.frame_laws.ensures.join) c.message_laws.ensures.echo
    c.message_laws.ensures.read_back c.configuration_laws.ensures.few

pub returns-clause-outputs : goal.returns-clause-outputs
returns-clause-outputs c = numbers_written (one_program c.text_laws.ensures.program) c.meaning_laws.ensures.joins

pub returns-clause-order : goal.returns-clause-order
returns-clause-order c = stops_follow (one_program c.text_laws.ensures.program) c.meaning_laws.ensures.joins

pub returns-clause-logs : goal.returns-clause-logs
returns-clause-logs c =
    logs_of_positions (one_program c.text_laws.ensures.program) c.meaning_laws.ensures.joins c.log_laws.ensures.said

pub returns-clause-stops_follow : goal.returns-clause-stops_follow
returns-clause-stops_follow c =
    stops_follow_logs (one_program c.text_laws.ensures.program) c.meaning_laws.ensures.joins c.log_laws.ensures.said

pub returns-clause-logs_follow : goal.returns-clause-logs_follow
returns-clause-logs_follow c = logs_follow (one_program c.text_laws.ensures.program) c.meaning_laws.ensures.joins

pub returns-clause-stops : goal.returns-clause-stops
returns-clause-stops c = each_stop_right (one_program c.text_laws.ensures.program) c.meaning_laws.ensures.joins

pub returns-clause-questions : goal.returns-clause-questions
returns-clause-questions c = questions_answered

pub returns-clause-last : goal.returns-clause-last
returns-clause-last c = disconnect_last

pub returns-clause-contents : goal.returns-clause-contents
returns-clause-contents c = contents_of_stream c.frame_laws.ensures.join

pub returns-clause-cuts : goal.returns-clause-cuts
returns-clause-cuts c = cuts_change_nothing

pub returns-clause-runs : goal.returns-clause-runs
returns-clause-runs c = each_run_starts (one_program c.text_laws.ensures.program) c.meaning_laws.ensures.joins

pub returns-clause-back : goal.returns-clause-back
returns-clause-back c = each_goes_back

pub returns-clause-anew : goal.returns-clause-anew
returns-clause-anew c = counts_begin_anew (one_program c.text_laws.ensures.program) c.meaning_laws.ensures.joins

pub returns-clause-not_held : goal.returns-clause-not_held
returns-clause-not_held c = retreats_not_held

pub returns-clause-closed_by : goal.returns-clause-closed_by
returns-clause-closed_by c =
    λ f events past rest history. (
      closed_by_end f events past rest history,
      closed_by_failure f events past rest
          history,
    )

pub returns-clause-quits_last : goal.returns-clause-quits_last
returns-clause-quits_last c = quit_is_last

pub returns-clause-quits : goal.returns-clause-quits
returns-clause-quits c = quit_closes

pub returns-clause-unread : goal.returns-clause-unread
returns-clause-unread c = rest_is_open

pub returns-clause-leads : goal.returns-clause-leads
returns-clause-leads c =
    each_item_leads (one_program c.text_laws.ensures.program) c.meaning_laws.ensures.joins
    c.meaning_laws.ensures.no_gaps

pub returns-clause-moves : goal.returns-clause-moves
returns-clause-moves c = each_step_leads

pub returns-clause-situation : goal.returns-clause-situation
returns-clause-situation c = situation_after

pub returns-clause-all_lead : goal.returns-clause-all_lead
returns-clause-all_lead c =
    none_nowhere (one_program c.text_laws.ensures.program) c.meaning_laws.ensures.joins c.meaning_laws.ensures.no_gaps
    c.text_laws.ensures.one_of_both c.log_laws.ensures.arithmetic
