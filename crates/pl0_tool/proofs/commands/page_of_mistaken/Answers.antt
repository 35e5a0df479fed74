use Rattle.pl0_tool.proofs.CommandTells.{no_page, tokens_page}
use Rattle.pl0_tool.proofs.commands.page_of_mistaken.Goals as goal

pub returns-in-Tokens : goal.returns-in-Tokens
returns-in-Tokens c = tokens_page c.args.task c.token_table.result c.in-Tokens.is

pub returns-in_default : goal.returns-in_default
returns-in_default c = no_page c.args.task _ c.new.ensures.items
