use Rattle.rx_lower_walks.specs.Orders.{order_function}
use Rattle.rx_lower_walks.proofs.InText.{graph_in_text}
use Rattle.rx_lower_walks.proofs.laws.sites_stand_in_order.Goals as goal

pub returns : goal.returns
returns c f = graph_in_text (order_function f)
