-- Bounds by the names of lifetimes in place of their numbers in the list that declares them (Rust Reference, "Lifetime bounds").
use Rattle.std.specs.Prelude.{ℕ, List, [], ◌∷◌, get_or, Option, Some}
use Rattle.rx_core.specs.declared.types.Bound.{Bound}
use Rattle.rx_tree.specs.Plain as plain
use Rattle.rx_tree.specs.Plain.{ItemTree, ProgramTree}
use Rattle.rx_tree.specs.Lists.{nth}
use Rattle.rx_hoist_extraction.specs.Names.{Names}
use Rattle.rx_hoist_extraction.specs.OwnLifetimes.{declared_lifetimes}
use Rattle.rx_hoist_extraction.specs.Plan.{Bounds}

abbrev pub named : Names → List Bound → Bounds
named xs [] = []
named xs (b ∷ bs) = (get_or xs b.long [], get_or xs b.short []) ∷ named xs bs

-- the lifetimes that the function of an item declares
abbrev pub lifetimes_of : Option ItemTree → Names
lifetimes_of (Some (plain.function_item s f)) = declared_lifetimes f
lifetimes_of _ = []

abbrev pub named_at : ProgramTree → ℕ → List Bound → Bounds
named_at P n bs = named (lifetimes_of (nth P n)) bs
