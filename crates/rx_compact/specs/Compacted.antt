-- A program in which the signature of one function is as short as a person would write it: lifetimes that are known to outlive each
-- other are one, and those that elision tells are left out (Rust Reference, "Lifetime bounds", "Lifetime elision in functions").
use Rattle.std.specs.Prelude.{◌≡◌, ◌↔◌, ℕ, zero, suc, Bool, true, List, [], ◌∷◌, slice_get}
use Rattle.rx_tree.specs.Plain as plain
use Rattle.rx_tree.specs.Plain.{Function, ItemTree, ProgramTree}
use Rattle.rx_resolve_names.specs.declared.resolved.ItemNames.{ItemNames}
use Rattle.rx_resolve_names.specs.Causes.{Meant}
use Rattle.rx_typed.specs.declared.declarations.Decl.{Decl}
use Rattle.rx_typeck_typed.specs.Programs.{Declares}
use Rattle.rx_compact_lifetimes.specs.Merged.{merged}
use Rattle.rx_compact_lifetimes.specs.Elided.{elided}
use Rattle.rx_compact.specs.Outliving.{Outlives, is_single}

-- by what is known, and whether the parameters have one lifetime
abbrev pub compacted_function : (ℕ → ℕ → Bool) → Bool → Function → Function
compacted_function outlives single f = elided single (merged outlives f)

-- an item that is no function stays as it is
abbrev pub compacted_item : (ℕ → ℕ → Bool) → Bool → ItemTree → ItemTree
compacted_item outlives single (plain.function_item s f) = plain.function_item s (compacted_function outlives single f)
compacted_item outlives single (plain.rt_item s r) = plain.rt_item s r
compacted_item outlives single (plain.struct_item s d) = plain.struct_item s d
compacted_item outlives single (plain.enum_item s d) = plain.enum_item s d

-- at the item of a number
abbrev pub compacted : (ℕ → ℕ → Bool) → Bool → ProgramTree → ℕ → ProgramTree
compacted outlives single [] n = []
compacted outlives single (i ∷ is) zero = compacted_item outlives single i ∷ is
compacted outlives single (i ∷ is) (suc n) = i ∷ compacted outlives single is n

-- `outlives` tells what is known of the lifetimes of the function of item i
abbrev pub Tells : List Decl → ℕ → (ℕ → ℕ → Bool) → Type 0
Tells D i outlives = (l k : ℕ) → (outlives l k ≡ true) ↔ Outlives D (slice_get D i) l k

-- q is p with the short signature of the function of item i
pub record IsCompacted (p : ProgramTree) (i : ℕ) (q : ProgramTree) : Type 0 where
  pub names : List ItemNames
  pub meant : Meant p names
  pub declared : List Decl
  pub declares : Declares p names declared
  pub outlives : ℕ → ℕ → Bool
  pub tells : Tells declared i outlives
  pub same : q ≡ compacted outlives (is_single (slice_get declared i)) p i
