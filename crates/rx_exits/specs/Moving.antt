-- The variables that actions move, in whole or in part, in their order. (Rust Reference, "Moved and copied types".)
use Rattle.std.specs.Prelude.{ℕ, Bool, true, false, List, [], ◌∷◌, ◌++◌}
use Rattle.rx_typed.specs.Tree.{Root, variable, temporary}
use Rattle.rx_lower_walks.specs.Actions.{Act, Read, Action}
use Rattle.rx_lower_walks.specs.Walks.{actions_in}
use Rattle.rx_lower_walks.specs.Flows.{Flow, Items, Item, doing, ending, may, trying, order_of, order_of_items}
use Rattle.rx_facts_tables.specs.Setting.{is_behind}

-- unless the place is behind a dereference
abbrev pub of_root : Root → Bool → List ℕ
of_root (variable x) false = x ∷ []
of_root (variable x) true = []
of_root (temporary t) b = []

abbrev pub moved_by : Act → List ℕ
moved_by (Read true p d) = of_root p.root (is_behind p.steps)
moved_by _ = []

abbrev pub moved_in : List Action → List ℕ
moved_in [] = []
moved_in (a ∷ l) = moved_by a.act ++ moved_in l

-- ---- those of a flow

abbrev pub moved_in_flow : Flow → List ℕ
moved_in_flow f = moved_in (actions_in (order_of f))

abbrev pub moved_in_items : Items → List ℕ
moved_in_items l = moved_in (actions_in (order_of_items l))

abbrev pub moved_in_item : Item → List ℕ
moved_in_item (doing f) = moved_in_flow f
moved_in_item (ending n x) = []
moved_in_item may = []
moved_in_item (trying f) = moved_in_flow f

abbrev pub moved_in_each : List Item → List ℕ
moved_in_each [] = []
moved_in_each (i ∷ is) = moved_in_item i ++ moved_in_each is
