use Rattle.rx_lower_walks.specs.Orders.{order_function}
use Rattle.rx_lower_walks.proofs.Bounds.{next_are_sites}
use Rattle.rx_lower_walks.proofs.Once.{next_once}
use Rattle.rx_lower_walks.proofs.laws.next_are_sites.Goals as goal

pub returns : goal.returns
returns c = record { below = λ f i s e j m. next_are_sites (order_function f) i s e j m; once = λ f i s e. next_once (order_function f) i s e }
