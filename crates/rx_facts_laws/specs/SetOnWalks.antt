-- Where some part of a place may be set, or unset, told over the walks of a function: in front of this action, on some walk.
-- (Rust Reference, "Variables"; "Expressions", "Moved and copied types".)
use Rattle.std.specs.Prelude.{List, [], ◌∷◌, ◌++◌}
use Rattle.rx_typed.specs.Tree.{Place, Function}
use Rattle.rx_lower_walks.specs.Actions.{Action}
use Rattle.rx_lower_walks.specs.Walks.{IsWalk}
use Rattle.rx_facts_tables.specs.Places.{Frame}
use Rattle.rx_facts_tables.specs.Setting.{SomeSet, SomeUnset}

abbrev pub SetOnSomeWalk : Frame → Function → Place → Action → Type 0
SetOnSomeWalk F f p a = (w : List Action) × IsWalk f (w ++ a ∷ []) × SomeSet F w p

abbrev pub UnsetOnSomeWalk : Frame → Function → Place → Action → Type 0
UnsetOnSomeWalk F f p a = (w : List Action) × IsWalk f (w ++ a ∷ []) × SomeUnset F w p
