-- Steps from places.
use Rattle.std.specs.Prelude.{ℕ, List, [], ◌∷◌, ◌++◌}
use Rattle.rx_core.specs.declared.types.Step.TheVariants as step
use Rattle.rx_typed.specs.Types.{peeled}
use Rattle.rx_typed.specs.Elaborated.{Assigned, dereferences, field_in}
use Rattle.rx_typed.specs.Tree.{Place, under}

-- a part of a place with a node, by its number
abbrev pub to_part : Assigned → ℕ → ℕ → Place → Place
to_part T n i p = under p (dereferences (T.typ n) ++ step.Field i ∷ [])

-- a field, by its name
abbrev pub to_field : Assigned → ℕ → List ℕ → Place → Place
to_field T n x p = to_part T n (field_in T.items (peeled (T.typ n)) x) p
