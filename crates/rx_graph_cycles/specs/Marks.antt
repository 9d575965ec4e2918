-- Tables of marks, one for each node. A number past a table's end counts as marked, since it leads nowhere.
use Rattle.std.specs.Prelude.{◌≡◌, ◌<◌, length, ℕ, suc, Bool, true, false, if◌then◌else◌, List, [], ◌∷◌, ◌++◌}
use Rattle.std.specs.Prelude.{slice_index_or, slice_set}
use Rattle.rx_graph_cycles.specs.Reaches.{targets, IsIn}
use Rattle.rx_graph_cycles.specs.Orders.{Behind}

abbrev pub marked : List Bool → ℕ → Bool
marked ms n = slice_index_or ms n true

abbrev pub mark : List Bool → ℕ → List Bool
mark ms n = slice_set ms n true

abbrev pub all_marked : List Bool → List ℕ → Bool
all_marked ms [] = true
all_marked ms (n ∷ ns) = if marked ms n then all_marked ms ns else false

-- every mark of the table is set
abbrev pub full : List Bool → Bool
full [] = true
full (m ∷ ms) = if m then full ms else false

-- ---- a search that marks what it finds, and keeps what it has still to look at

abbrev pub mark_all : List Bool → List ℕ → List Bool
mark_all ms [] = ms
mark_all ms (n ∷ ns) = mark_all (mark ms n) ns

abbrev pub with_one : List Bool → List ℕ → ℕ → List ℕ
with_one ms work n = if marked ms n then work else work ++ n ∷ []

-- the work, with those at its end that had no mark
abbrev pub with_new : List Bool → List ℕ → List ℕ → List ℕ
with_new ms work [] = work
with_new ms work (n ∷ ns) = with_new (mark ms n) (with_one ms work n) ns

-- how many have no mark
abbrev pub unmarked : List Bool → ℕ
unmarked [] = 0
unmarked (true ∷ ms) = unmarked ms
unmarked (false ∷ ms) = suc (unmarked ms)

-- ---- nodes that are settled in an order, each where all that it leads to was settled before

abbrev pub settle : List (List ℕ) → List Bool → ℕ → List Bool
settle edges done n = if all_marked done (targets edges n) then mark done n else done

abbrev pub settle_all : List (List ℕ) → List Bool → List ℕ → List Bool
settle_all edges done [] = done
settle_all edges done (n ∷ ns) = settle_all edges (settle edges done n) ns

-- an order, with a node at its end where the node is settled and was not before
abbrev pub with_settled : List (List ℕ) → List Bool → List ℕ → ℕ → List ℕ
with_settled edges done order n = if all_marked done (targets edges n) then with_one done order n else order

abbrev pub with_all_settled : List (List ℕ) → List Bool → List ℕ → List ℕ → List ℕ
with_all_settled edges done order [] = order
with_all_settled edges done order (n ∷ ns) =
    with_all_settled edges (settle edges done n) (with_settled edges done order n) ns

-- the nodes of an order are those that are settled, each behind all that it leads to
pub record Placed (edges : List (List ℕ)) (done : List Bool) (order : List ℕ) : Type 0 where
  pub whole : length done ≡ length edges
  pub stands : (n : ℕ) → n < length edges → marked done n ≡ true → IsIn order n
  pub settled : (n : ℕ) → IsIn order n → marked done n ≡ true
  pub behind : Behind edges [] order
