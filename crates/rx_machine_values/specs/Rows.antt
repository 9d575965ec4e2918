-- A row of nodes, each in front of its parts, and the values that it is.
use Rattle.std.specs.Prelude.{ℕ, zero, suc, ◌+◌, Bool, true, ◌&&◌, List, [], ◌∷◌, ◌++◌, length, take, drop, Option, Some, None}
use Rattle.rx_meaning.specs.Values as plain
use Rattle.rx_meaning.specs.Values.{Value, Values, no_value, value_and, is_set, and_then}

pub data Node : Type 0 where
  -- what has no parts
  leaf : Value → Node
  -- a tuple or struct, a variant, with how many nodes its parts take, which follow
  whole : ℕ → Node
  tagged : ℕ → ℕ → Node

abbrev pub extent : Node → ℕ
extent (leaf v) = 0
extent (whole n) = n
extent (tagged i n) = n

abbrev pub with_parts : Node → Values → Value
with_parts (leaf v) vs = v
with_parts (whole n) vs = plain.whole vs
with_parts (tagged i n) vs = plain.tagged i vs

-- of so many nodes at most; a node that has more parts than there are nodes has all that are left
unfoldable pub values_within : ℕ → List Node → Values
values_within zero ns = no_value
values_within (suc k) [] = no_value
values_within (suc k) (n ∷ ns) = value_and (with_parts n (values_within k (take (extent n) ns))) (values_within k (drop (extent n) ns))

unfoldable pub values_in : List Node → Values
values_in ns = values_within (length ns) ns

-- ---- parts

-- where the value at a number begins
abbrev pub begins : ℕ → List Node → Option ℕ
begins i [] = None
begins zero (n ∷ ns) = Some 0
begins (suc i) (n ∷ ns) = and_then (begins i (drop (extent n) ns)) (λ j. Some (suc (extent n + j)))

-- so many nodes further on
abbrev pub shifted : ℕ → Option ℕ → Option ℕ
shifted at o = and_then o (λ j. Some (at + j))

-- the first value, and the nodes behind it
abbrev pub first_value : List Node → Option Value
first_value [] = None
first_value (n ∷ ns) = Some (with_parts n (values_in (take (extent n) ns)))

abbrev pub behind_first : List Node → List Node
behind_first [] = []
behind_first (n ∷ ns) = drop (extent n) ns

-- the row with the nodes of another value in the place of those that begin at a place
abbrev pub replaced : List Node → ℕ → List Node → List Node
replaced ns at row = take at ns ++ (row ++ behind_first (drop at ns))

-- each node that is a value has one
abbrev pub has_value : Node → Bool
has_value (leaf v) = is_set v
has_value (whole n) = true
has_value (tagged i n) = true

abbrev pub all_have : List Node → Bool
all_have [] = true
all_have (n ∷ ns) = has_value n && all_have ns
