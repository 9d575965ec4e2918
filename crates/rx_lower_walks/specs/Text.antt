-- The order of the text: all actions of a part, whether or not some walk holds them, each jump with its own ends of variables.
use Rattle.std.specs.Prelude.{ℕ, List, [], ◌∷◌, ◌++◌}
use Rattle.rx_typed.specs.Tree.{Function}
use Rattle.rx_lower_walks.specs.Actions.{Dead, Action, does}
use Rattle.rx_lower_walks.specs.Orders.{exit_node, Order, order_function}
use Rattle.rx_lower_walks.specs.Orders as order
use Rattle.rx_lower_walks.specs.Graph.{Site}
use Rattle.rx_lower_walks.specs.Pieces.{Scope, Variable, Looped, left}

abbrev pub ending_all : ℕ → List ℕ → List Action
ending_all n [] = []
ending_all n (x ∷ xs) = does n (Dead x) ∷ ending_all n xs

abbrev pub in_text : Scope → Order → List Action
in_text scope order.nothing = []
in_text scope order.nowhere = []
in_text scope (order.act a) = a ∷ []
in_text scope (order.then s t) = in_text scope s ++ in_text scope t
in_text scope (order.or s t) = in_text scope s ++ in_text scope t
in_text scope (order.leave x) = ending_all (exit_node x) (left x scope)
in_text scope order.fail = []
in_text scope (order.otherwise s t) = in_text scope s ++ in_text scope t
in_text scope (order.ending n x s) = in_text (Variable x ∷ scope) s ++ does n (Dead x) ∷ []
in_text scope (order.passes l s) = in_text (Looped l ∷ scope) s

abbrev pub text : Function → List Action
text f = in_text [] (order_function f)

abbrev pub actions_of : List Site → List Action
actions_of [] = []
actions_of (s ∷ g) = s.action ∷ actions_of g

-- the second list, with some elements left out
pub data Sublist {A : Type 0} : List A → List A → Type 0 where
  none : Sublist [] []
  kept : {a : A} {l m : List A} → Sublist l m → Sublist (a ∷ l) (a ∷ m)
  dropped : {a : A} {l m : List A} → Sublist l m → Sublist l (a ∷ m)
