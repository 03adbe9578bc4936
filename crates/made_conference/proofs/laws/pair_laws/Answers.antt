use Rattle.made_conference.proofs.OrderLaws.{drawn_in_order, of_one_block}
use Rattle.made_conference.proofs.laws.pair_laws.Goals as goal

pub returns-clause-order : goal.returns-clause-order
returns-clause-order c = drawn_in_order

pub returns-clause-blocks : goal.returns-clause-blocks
returns-clause-blocks c = of_one_block
