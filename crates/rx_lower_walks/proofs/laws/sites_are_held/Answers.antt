use Rattle.rx_lower_walks.specs.Orders.{order_function}
use Rattle.rx_lower_walks.proofs.WholeLemmas.{size_is}
use Rattle.rx_lower_walks.proofs.Sites.{reached, has_held, site_held}
use Rattle.rx_lower_walks.proofs.laws.sites_are_held.Goals as goal

pub returns : goal.returns
returns c = record { held = λ f a. (has_held f a, site_held f a); reached = reached; counted = λ f. size_is (order_function f) }
