use Rattle.dap_history.proofs.AsAsked.{stops_as_asked, none_passed}
use Rattle.dap_history.proofs.Asking.{each_asked, each_loaded, events_returned}
use Rattle.dap_history.proofs.FirstStop.{zero_considered}
use Rattle.dap_history.proofs.Judged.{each_judged, refusals_quiet, others_quiet, answers_first}
use Rattle.dap_history.proofs.LineAnswers.{lines_answered}
use Rattle.dap_history.proofs.Loading.{each_launch}
use Rattle.dap_history.proofs.Pauses.{pauses_stop}
use Rattle.dap_history.proofs.Showing.{answers_show}
use Rattle.dap_history.proofs.Takings.{events_taken, items_end}
use Rattle.dap_history.proofs.Texts.{one_program}
use Rattle.dap_history.proofs.laws.command_laws.Goals as goal

pub returns-clause-judged : goal.returns-clause-judged
returns-clause-judged c = each_judged

pub returns-clause-refused : goal.returns-clause-refused
returns-clause-refused c = refusals_quiet

pub returns-clause-others : goal.returns-clause-others
returns-clause-others c = others_quiet

pub returns-clause-launched : goal.returns-clause-launched
returns-clause-launched c = each_launch

pub returns-clause-first : goal.returns-clause-first
returns-clause-first c = zero_considered (one_program c.text_laws.ensures.program) c.meaning_laws.ensures.joins

pub returns-clause-paused : goal.returns-clause-paused
returns-clause-paused c = pauses_stop

pub returns-clause-as_asked : goal.returns-clause-as_asked
returns-clause-as_asked c =
    stops_as_asked (one_program c.text_laws.ensures.program) c.meaning_laws.ensures.joins
    c.meaning_laws.ensures.no_gaps c.configuration_laws.ensures.last c.going_back_laws.ensures.last_due

pub returns-clause-taken : goal.returns-clause-taken
returns-clause-taken c = events_taken c.history_laws.ensures.one

pub returns-clause-lines : goal.returns-clause-lines
returns-clause-lines c = lines_answered

pub returns-clause-shown : goal.returns-clause-shown
returns-clause-shown c = answers_show c.configuration_laws.ensures.linked c.configuration_laws.ensures.fit

pub returns-clause-ends : goal.returns-clause-ends
returns-clause-ends c = items_end

pub returns-clause-answers_first : goal.returns-clause-answers_first
returns-clause-answers_first c = answers_first

pub returns-clause-loads : goal.returns-clause-loads
returns-clause-loads c = each_asked

pub returns-clause-loaded : goal.returns-clause-loaded
returns-clause-loaded c = each_loaded c.history_laws.ensures.one

pub returns-clause-returned : goal.returns-clause-returned
returns-clause-returned c = events_returned

pub returns-clause-none_passed : goal.returns-clause-none_passed
returns-clause-none_passed c =
    none_passed (one_program c.text_laws.ensures.program) c.meaning_laws.ensures.joins
