-- Sequences as orders, and the items that patterns, parameters and declarations stand for.
use Rattle.std.specs.Prelude.{ℕ, List, [], ◌∷◌, Option, Some, None}
use Rattle.rx_typed.specs.Tree.{Parameter}
use Rattle.rx_lower_walks.specs.Matching.{PartTest, Binding}
use Rattle.rx_lower_walks.specs.Actions.{Act, Declare, does, Subject, test_of, taken, declared, written}
use Rattle.rx_lower_walks.specs.Orders as order
use Rattle.rx_lower_walks.specs.Orders.{Order, declared_parameter, written_parameter}
use Rattle.rx_lower_walks.specs.Flows as flow
use Rattle.rx_lower_walks.specs.Flows.{Flow, Item, doing, ending, may, trying, order_of}

-- ---- orders

-- an item, and what follows it
abbrev pub in_front : Item → Order → Order
in_front (doing f) s = order.then (order_of f) s
in_front (ending n x) s = order.ending n x s
in_front may s = order.or s order.fail
in_front (trying f) s = order.otherwise (order_of f) s

-- items in their order, and what follows them
abbrev pub ordered : List Item → Order → Order
ordered [] s = s
ordered (i ∷ is) s = in_front i (ordered is s)

-- ---- items

abbrev pub test_items : Subject → List PartTest → List Item
test_items S [] = []
test_items S (t ∷ ts) = doing (flow.act (test_of S t)) ∷ may ∷ test_items S ts

abbrev pub perhaps : ℕ → Option Act → Flow
perhaps n None = flow.nothing
perhaps n (Some a) = flow.act (does n a)

abbrev pub binding_items : Subject → List Binding → ℕ → List Item
binding_items S [] n = []
binding_items S (b ∷ bs) n =
    doing (perhaps b.node (taken S b)) ∷ doing (flow.act (declared b)) ∷ doing (flow.act (written S b)) ∷ ending n b.variable ∷ binding_items S bs n

abbrev pub declaring_items : ℕ → List ℕ → ℕ → List Item
declaring_items s [] n = []
declaring_items s (x ∷ xs) n = doing (flow.act (does s (Declare x))) ∷ ending n x ∷ declaring_items s xs n

abbrev pub parameter_items : List Parameter → ℕ → List Item
parameter_items [] n = []
parameter_items (p ∷ ps) n = doing (flow.act (declared_parameter p)) ∷ doing (flow.act (written_parameter p)) ∷ ending n p.variable ∷ parameter_items ps n
