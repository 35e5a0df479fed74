use Rattle.dap_history.proofs.Asked.{runs_count, each_as_asked}
use Rattle.dap_history.proofs.Texts.{one_program}
use Rattle.dap_history.proofs.Ends.{each_end, each_told}
use Rattle.dap_history.proofs.Granted.{each_reply_told, granted_ordered, held_go_on}
use Rattle.dap_history.proofs.Lines.{plan_of_lines, has_its_lines, counts_as_set}
use Rattle.dap_history.proofs.OneOrder.{each_orders_once}
use Rattle.dap_history.proofs.Holding.{hold_once_law, waits_are_held}
use Rattle.dap_history.proofs.Telling.{each_report_told}
use Rattle.dap_history.proofs.laws.run_laws.Goals as goal

pub returns-clause-counted : goal.returns-clause-counted
returns-clause-counted c = runs_count

pub returns-clause-once : goal.returns-clause-once
returns-clause-once c = each_orders_once

pub returns-clause-asked : goal.returns-clause-asked
returns-clause-asked c = each_as_asked (one_program c.text_laws.ensures.program) c.meaning_laws.ensures.joins

pub returns-clause-held : goal.returns-clause-held
returns-clause-held c = hold_once_law

pub returns-clause-waits : goal.returns-clause-waits
returns-clause-waits c = waits_are_held

pub returns-clause-told : goal.returns-clause-told
returns-clause-told c = each_report_told

pub returns-clause-ordered : goal.returns-clause-ordered
returns-clause-ordered c = granted_ordered

pub returns-clause-onward : goal.returns-clause-onward
returns-clause-onward c = held_go_on

pub returns-clause-replies : goal.returns-clause-replies
returns-clause-replies c = each_reply_told

pub returns-clause-lines : goal.returns-clause-lines
returns-clause-lines c = has_its_lines (one_program c.text_laws.ensures.program) c.meaning_laws.ensures.joins

pub returns-clause-counts : goal.returns-clause-counts
returns-clause-counts c = counts_as_set (one_program c.text_laws.ensures.program) c.meaning_laws.ensures.joins

pub returns-clause-plan : goal.returns-clause-plan
returns-clause-plan c = plan_of_lines (one_program c.text_laws.ensures.program) c.meaning_laws.ensures.joins

pub returns-clause-over : goal.returns-clause-over
returns-clause-over c = each_end (one_program c.text_laws.ensures.program) c.meaning_laws.ensures.joins

pub returns-clause-over_told : goal.returns-clause-over_told
returns-clause-over_told c =
    each_told (one_program c.text_laws.ensures.program) c.meaning_laws.ensures.joins c.meaning_laws.ensures.no_gaps
    c.configuration_laws.ensures.last
