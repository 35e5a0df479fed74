use Rattle.pl0_parser.proofs.Order.{tokens_in_order, tokens_few}
use Rattle.pl0_parser.proofs.laws.token_laws.Goals as goal

pub returns-clause-in_order : goal.returns-clause-in_order
returns-clause-in_order c = tokens_in_order

pub returns-clause-few : goal.returns-clause-few
returns-clause-few c = tokens_few
