-- A type as it is written (Rust Reference, "Types", "Lifetime elision"): with a lifetime of its own at each position, or with all
-- lifetimes elided. A lifetime position is a reference, or a lifetime parameter of a struct or enum that is named.
use Rattle.std.specs.Prelude.{ℕ, zero, suc, ◌+◌, List, [], ◌∷◌, length, map, Option, Some, None, slice_get}
use Rattle.rx_core.specs.declared.types.Span.{Span}
use Rattle.rx_core.specs.declared.types.Kind.{Kind}
use Rattle.rx_tree.specs.declared.tree.Ident.{Ident}
use Rattle.rx_tree.specs.Plain as plain
use Rattle.rx_tree.specs.Plain.{TypeTree, TypeTrees, ItemTree, ProgramTree}
use Rattle.rx_typed.specs.Types.{Typ, Shape, Shapes, integer, boolean, tuple_of, reference, named, no_shape, shape_and}
use Rattle.rx_resolve_names.specs.Meant.{type_name, lifetimes_declared}
use Rattle.rx_hoist_extraction.specs.Made.{ident}

-- ---- the struct or enum of a number

abbrev pub name_in : Option Ident → List ℕ
name_in None = []
name_in (Some x) = x.name

abbrev pub item_name : Option ItemTree → List ℕ
item_name None = []
item_name (Some i) = name_in (type_name i)

abbrev pub item_lifetimes : Option ItemTree → ℕ
item_lifetimes None = 0
item_lifetimes (Some i) = length (lifetimes_declared i)

abbrev pub name_of : ProgramTree → ℕ → List ℕ
name_of P i = item_name (slice_get P i)

abbrev pub lifetimes_of : ProgramTree → ℕ → ℕ
lifetimes_of P i = item_lifetimes (slice_get P i)

-- ---- how many lifetime positions a type has

abbrev mutual
  pub positions : ProgramTree → Shape Kind → ℕ
  positions P (integer k) = 0
  positions P boolean = 0
  positions P (tuple_of ts) = all_positions P ts
  positions P (reference m t) = suc (positions P t)
  positions P (named i) = lifetimes_of P i

  pub all_positions : ProgramTree → Shapes Kind → ℕ
  all_positions P no_shape = 0
  all_positions P (shape_and t ts) = positions P t + all_positions P ts

abbrev pub positions_of : ProgramTree → List Typ → ℕ
positions_of P [] = 0
positions_of P (t ∷ ts) = positions P t + positions_of P ts

-- ---- with lifetimes: those of a row of names, from number n on

abbrev pub lifetimes_from : Span → (ℕ → List ℕ) → ℕ → ℕ → List Ident
lifetimes_from s r n zero = []
lifetimes_from s r n (suc many) = ident s (r n) ∷ lifetimes_from s r (suc n) many

-- a struct or enum without lifetimes has no list
abbrev pub list_if_any : List Ident → Option (List (Option Ident))
list_if_any [] = None
list_if_any (l ∷ ls) = Some (map (λ x. Some x) (l ∷ ls))

abbrev mutual
  pub full : ProgramTree → Span → (ℕ → List ℕ) → ℕ → Shape Kind → TypeTree
  full P s r n (integer k) = plain.kind_type s k
  full P s r n boolean = plain.bool_type s
  full P s r n (tuple_of ts) = plain.tuple_type s (all_full P s r n ts)
  full P s r n (reference m t) = plain.ref_type s (Some (ident s (r n))) m (full P s r (suc n) t)
  full P s r n (named i) = plain.named_type s (ident s (name_of P i)) (list_if_any (lifetimes_from s r n (lifetimes_of P i)))

  pub all_full : ProgramTree → Span → (ℕ → List ℕ) → ℕ → Shapes Kind → TypeTrees
  all_full P s r n no_shape = plain.no_type
  all_full P s r n (shape_and t ts) = plain.type_and (full P s r n t) (all_full P s r (n + positions P t) ts)

abbrev pub each_full : ProgramTree → Span → (ℕ → List ℕ) → ℕ → List Typ → TypeTrees
each_full P s r n [] = plain.no_type
each_full P s r n (t ∷ ts) = plain.type_and (full P s r n t) (each_full P s r (n + positions P t) ts)

-- ---- elided

abbrev mutual
  pub elided : ProgramTree → Span → Shape Kind → TypeTree
  elided P s (integer k) = plain.kind_type s k
  elided P s boolean = plain.bool_type s
  elided P s (tuple_of ts) = plain.tuple_type s (all_elided P s ts)
  elided P s (reference m t) = plain.ref_type s None m (elided P s t)
  elided P s (named i) = plain.named_type s (ident s (name_of P i)) None

  pub all_elided : ProgramTree → Span → Shapes Kind → TypeTrees
  all_elided P s no_shape = plain.no_type
  all_elided P s (shape_and t ts) = plain.type_and (elided P s t) (all_elided P s ts)
