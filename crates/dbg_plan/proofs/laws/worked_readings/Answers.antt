use Rattle.dbg_plan.proofs.WorkedReadings.{rules_read, others_are_no_rules, conditions_read, names_are_of_the_block, messages_read, braces_close, braces_are_not_doubled, messages_are_short}
use Rattle.dbg_plan.proofs.laws.worked_readings.Goals as goal

pub returns-clause-rules : goal.returns-clause-rules
returns-clause-rules c = rules_read

pub returns-clause-no_rules : goal.returns-clause-no_rules
returns-clause-no_rules c = others_are_no_rules

pub returns-clause-conditions : goal.returns-clause-conditions
returns-clause-conditions c = conditions_read

pub returns-clause-names : goal.returns-clause-names
returns-clause-names c = names_are_of_the_block

pub returns-clause-messages : goal.returns-clause-messages
returns-clause-messages c = messages_read

pub returns-clause-braces : goal.returns-clause-braces
returns-clause-braces c = braces_close

pub returns-clause-doubled : goal.returns-clause-doubled
returns-clause-doubled c = braces_are_not_doubled c.editor_laws.ensures.expression

pub returns-clause-short : goal.returns-clause-short
returns-clause-short c = messages_are_short
