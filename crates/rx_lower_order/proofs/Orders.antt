-- Sequences of items are the orders that they stand for.
use Rattle.std.proofs.Common.{◌≡◌, ℕ, List, [], ◌∷◌, ◌++◌, Option, Some, None, refl, ap, ◌∙◌}
use Rattle.rx_typed.specs.Tree.{Parameter}
use Rattle.rx_lower_walks.specs.Matching.{PartTest, Binding}
use Rattle.rx_lower_walks.specs.Actions.{Act, Declare, does, Subject, test_of, taken, declared, written}
use Rattle.rx_lower_walks.specs.Orders as order
use Rattle.rx_lower_walks.specs.Orders.{Order, testing, binding, declaring, beginning}
use Rattle.rx_lower_walks.specs.Flows as flow
use Rattle.rx_lower_walks.specs.Flows.{Flow, Item, Items, doing, ending, may, trying, order_of, order_of_items, item_and, items_of, last}
use Rattle.rx_lower_order.specs.Items.{in_front, ordered, test_items, perhaps, binding_items, declaring_items, parameter_items}

pub ordered_more : (is js : List Item) (s : Order) → ordered (is ++ js) s ≡ ordered is (ordered js s)
ordered_more [] js s = refl
ordered_more (i ∷ is) js s = ap (in_front i) (ordered_more is js s)

item_in_front : (i : Item) (l : Items) → order_of_items (item_and i l) ≡ in_front i (order_of_items l)
item_in_front (doing f) l = refl
item_in_front (ending n x) l = refl
item_in_front may l = refl
item_in_front (trying f) l = refl

-- a sequence in front of a flow
pub sequence_ordered : (is : List Item) (f : Flow) → order_of_items (items_of is (last f)) ≡ ordered is (order_of f)
sequence_ordered [] f = refl
sequence_ordered (i ∷ is) f = item_in_front i (items_of is (last f)) ∙ ap (in_front i) (sequence_ordered is f)

pub tests_ordered : (S : Subject) (ts : List PartTest) (s : Order) → ordered (test_items S ts) s ≡ testing S ts s
tests_ordered S [] s = refl
tests_ordered S (t ∷ ts) s = ap (λ r. order.then (order.act (test_of S t)) (order.or r order.fail)) (tests_ordered S ts s)

perhaps_ordered : (n : ℕ) (o : Option Act) → order_of (perhaps n o) ≡ order.perhaps n o
perhaps_ordered n None = refl
perhaps_ordered n (Some a) = refl

pub bindings_ordered : (S : Subject) (bs : List Binding) (n : ℕ) (s : Order) → ordered (binding_items S bs n) s ≡ binding S bs n s
bindings_ordered S [] n s = refl
bindings_ordered S (b ∷ bs) n s =
    ap (λ r. order.then (order_of (perhaps b.node (taken S b))) (order.then (order.act (declared b)) (order.then (order.act (written S b)) (order.ending n b.variable r)))) (bindings_ordered S bs n s)
    ∙ ap (λ r. order.then r (order.then (order.act (declared b)) (order.then (order.act (written S b)) (order.ending n b.variable (binding S bs n s))))) (perhaps_ordered b.node (taken S b))

pub declares_ordered : (d : ℕ) (xs : List ℕ) (n : ℕ) (s : Order) → ordered (declaring_items d xs n) s ≡ declaring d xs n s
declares_ordered d [] n s = refl
declares_ordered d (x ∷ xs) n s = ap (λ r. order.then (order.act (does d (Declare x))) (order.ending n x r)) (declares_ordered d xs n s)

pub parameters_ordered : (ps : List Parameter) (n : ℕ) (s : Order) → ordered (parameter_items ps n) s ≡ beginning ps n s
parameters_ordered [] n s = refl
parameters_ordered (p ∷ ps) n s =
    ap (λ r. order.then (order.act (order.declared_parameter p)) (order.then (order.act (order.written_parameter p)) (order.ending n p.variable r))) (parameters_ordered ps n s)

pub tests_more : (S : Subject) (ts us : List PartTest) → test_items S (ts ++ us) ≡ test_items S ts ++ test_items S us
tests_more S [] us = refl
tests_more S (t ∷ ts) us = ap (λ l. doing (flow.act (test_of S t)) ∷ may ∷ l) (tests_more S ts us)

pub bindings_more : (S : Subject) (bs cs : List Binding) (n : ℕ) → binding_items S (bs ++ cs) n ≡ binding_items S bs n ++ binding_items S cs n
bindings_more S [] cs n = refl
bindings_more S (b ∷ bs) cs n =
    ap (λ l. doing (perhaps b.node (taken S b)) ∷ doing (flow.act (declared b)) ∷ doing (flow.act (written S b)) ∷ ending n b.variable ∷ l) (bindings_more S bs cs n)

pub ruleset ordered_rules = (ordered_more, tests_ordered, bindings_ordered, declares_ordered, parameters_ordered)
