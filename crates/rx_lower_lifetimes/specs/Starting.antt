-- From where on the items of a node stand in a list of items that have nodes.
use Rattle.std.specs.Prelude.{◌≡◌, ℕ, ◌≤◌, List, Some, get_or, slice_get}

-- where a node that nothing is told of starts: behind all
abbrev pub start_of : List ℕ → ℕ → ℕ
start_of starts n = get_or starts n 4294967295

-- no item stands before the start of its node
abbrev pub Starts : List ℕ → List ℕ → Type 0
Starts starts nodes = (i n : ℕ) → slice_get nodes i ≡ Some n → start_of starts n ≤ i
