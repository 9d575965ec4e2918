-- A program with bounds in the lifetime list of one of its functions (Rust Reference, "Lifetime bounds"): of each pair of lifetimes, by
-- their numbers in the list, the first is to outlive the second. All else stays, spans too; what is made has the span of the item.
use Rattle.std.specs.Prelude.{ℕ, zero, suc, Bool, false, ◌==◌, ◌&&◌, ◌||◌, if◌then◌else◌, List, [], ◌∷◌, ◌++◌}
use Rattle.rx_core.specs.declared.types.Bound.{Bound}
use Rattle.rx_core.specs.declared.types.Span.{Span}
use Rattle.rx_tree.specs.declared.tree.Ident.{Ident}
use Rattle.rx_tree.specs.declared.tree.BoundLifetime.{BoundLifetime}
use Rattle.rx_tree.specs.Plain as plain
use Rattle.rx_tree.specs.Plain.{Function, ItemTree, ProgramTree}

abbrev pub is_bound : List Bound → ℕ → ℕ → Bool
is_bound [] l k = false
is_bound (b ∷ bs) l k = ((b.long == l) && (b.short == k)) || is_bound bs l k

abbrev pub short_if : Bool → Span → BoundLifetime → List Ident
short_if b s x = if b then record { span = s; name = x.name.name } ∷ [] else []

-- those that lifetime l is to outlive, of a list's from number k on
abbrev pub shorts_from : Span → List Bound → ℕ → ℕ → List BoundLifetime → List Ident
shorts_from s bs l k [] = []
shorts_from s bs l k (x ∷ xs) = short_if (is_bound bs l k) s x ++ shorts_from s bs l (suc k) xs

-- a lifetime of number l, with those of all that it is to outlive
abbrev pub repaired_lifetime : Span → List Bound → List BoundLifetime → ℕ → BoundLifetime → BoundLifetime
repaired_lifetime s bs all l x = record { name = x.name; bounds = shorts_from s bs l 0 all }

-- those of a list, from number l on
abbrev pub lifetimes_from : Span → List Bound → List BoundLifetime → ℕ → List BoundLifetime → List BoundLifetime
lifetimes_from s bs all l [] = []
lifetimes_from s bs all l (x ∷ xs) = repaired_lifetime s bs all l x ∷ lifetimes_from s bs all (suc l) xs

abbrev pub repaired_function : Span → List Bound → Function → Function
repaired_function s bs f = record f { lifetimes = lifetimes_from s bs f.lifetimes 0 f.lifetimes }

-- an item that is no function stays as it is
abbrev pub repaired_item : List Bound → ItemTree → ItemTree
repaired_item bs (plain.function_item s f) = plain.function_item s (repaired_function s bs f)
repaired_item bs (plain.rt_item s r) = plain.rt_item s r
repaired_item bs (plain.struct_item s x) = plain.struct_item s x
repaired_item bs (plain.enum_item s x) = plain.enum_item s x

-- at the item of a number
abbrev pub repaired : ProgramTree → ℕ → List Bound → ProgramTree
repaired [] n bs = []
repaired (i ∷ is) zero bs = repaired_item bs i ∷ is
repaired (i ∷ is) (suc n) bs = i ∷ repaired is n bs
