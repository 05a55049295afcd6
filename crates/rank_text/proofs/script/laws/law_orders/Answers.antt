use Rattle.rank_text.proofs.ScriptsLaws.OrderLaws.{few, orders}
use Rattle.rank_text.proofs.script.laws.law_orders.Goals as goal

pub returns-clause-orders : goal.returns-clause-orders
returns-clause-orders c = orders

pub returns-clause-few : goal.returns-clause-few
returns-clause-few c = few
