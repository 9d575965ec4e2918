-- A value as a row of nodes, each in front of its parts, and the value that a row of nodes is.
use Rattle.std.specs.Prelude.{◌≡◌, ℕ, zero, suc, pos, negsuc, true, false, List, [], ◌∷◌, ◌++◌, map}
use Rattle.rx_typed.specs.Elaborated.{with_sign}
use Rattle.rx_cover.specs.declared.node.Node.{Node}
use Rattle.rx_cover.specs.Values as plain
use Rattle.rx_cover.specs.Values.{Values, no_value, value_and}

abbrev pub count : Values → ℕ
count no_value = 0
count (value_and v vs) = suc (count vs)

abbrev mutual
  pub nodes : plain.Value → List Node
  nodes (plain.number (pos n)) = Node.Int false n ∷ []
  nodes (plain.number (negsuc n)) = Node.Int true (suc n) ∷ []
  nodes (plain.truth b) = Node.Bool b ∷ []
  nodes (plain.tuple vs) = Node.Tuple (count vs) ∷ nodes_of vs
  nodes (plain.made i vs) = Node.Made i (count vs) ∷ nodes_of vs
  nodes (plain.variant i k vs) = Node.Variant i k (count vs) ∷ nodes_of vs
  nodes (plain.pointing v) = Node.Reference ∷ nodes v

  pub nodes_of : Values → List Node
  nodes_of no_value = []
  nodes_of (value_and v vs) = nodes v ++ nodes_of vs

-- ---- back

-- as many values from the first on
abbrev pub first : ℕ → Values → Values
first zero vs = no_value
first (suc k) no_value = no_value
first (suc k) (value_and v vs) = value_and v (first k vs)

-- the values behind these
abbrev pub behind : ℕ → Values → Values
behind zero vs = vs
behind (suc k) no_value = no_value
behind (suc k) (value_and v vs) = behind k vs

-- a node in front of values, of which the first are its parts
abbrev pub in_front : Node → Values → Values
in_front (Node.Int g m) vs = value_and (plain.number (with_sign g m)) vs
in_front (Node.Bool b) vs = value_and (plain.truth b) vs
in_front (Node.Tuple k) vs = value_and (plain.tuple (first k vs)) (behind k vs)
in_front (Node.Made i k) vs = value_and (plain.made i (first k vs)) (behind k vs)
in_front (Node.Variant i j k) vs = value_and (plain.variant i j (first k vs)) (behind k vs)
in_front Node.Reference no_value = no_value
in_front Node.Reference (value_and v vs) = value_and (plain.pointing v) vs

abbrev pub read : List Node → Values
read [] = no_value
read (n ∷ ns) = in_front n (read ns)

abbrev pub first_value : Values → plain.Value
first_value no_value = plain.tuple no_value
first_value (value_and v vs) = v

unfoldable pub plain-Value : List Node → plain.Value
plain-Value ns = first_value (read ns)

-- the nodes of one value
pub record IsWhole (ns : List Node) : Type 0 where
  pub is : ns ≡ nodes (plain-Value ns)

abbrev pub values_of : List plain.Value → Values
values_of [] = no_value
values_of (v ∷ vs) = value_and v (values_of vs)

abbrev pub plain_values : List (List Node) → Values
plain_values vs = values_of (map plain-Value vs)
