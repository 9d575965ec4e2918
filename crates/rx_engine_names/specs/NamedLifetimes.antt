-- The lifetimes that a type names mean lifetimes of another item too (Rust Reference, "Lifetimes", "Generic parameters").
use Rattle.std.specs.Prelude.{◌≡◌, ℕ, List, [], ◌∷◌, Option, Some, None, Ok}
use Rattle.rx_tree.specs.declared.tree.Ident.{Ident}
use Rattle.rx_tree.specs.Plain as plain
use Rattle.rx_tree.specs.Plain.{TypeTree, TypeTrees}
use Rattle.rx_resolve_names.specs.Steps.{Inside}
use Rattle.rx_resolve_names.specs.Names.{lifetime_in, written}

-- a lifetime that means one in the first means one in the second
abbrev pub LifetimeFits : Inside → Inside → Ident → Type 0
LifetimeFits I I' l = (n : ℕ) → lifetime_in I l ≡ Ok n → (m : ℕ) × (lifetime_in I' l ≡ Ok m) × Unit {0}

-- ---- the lifetimes that a type names

abbrev pub OptionalFits : Inside → Inside → Option Ident → Type 0
OptionalFits I I' None = Unit {0}
OptionalFits I I' (Some l) = LifetimeFits I I' l

abbrev pub ListFits : Inside → Inside → List (Option Ident) → Type 0
ListFits I I' [] = Unit {0}
ListFits I I' (l ∷ ls) = OptionalFits I I' l × ListFits I I' ls

abbrev mutual
  pub TypeFits : Inside → Inside → TypeTree → Type 0
  TypeFits I I' (plain.kind_type s k) = Unit {0}
  TypeFits I I' (plain.bool_type s) = Unit {0}
  TypeFits I I' (plain.tuple_type s ts) = TypesFit I I' ts
  TypeFits I I' (plain.ref_type s l m t) = OptionalFits I I' l × TypeFits I I' t
  TypeFits I I' (plain.named_type s x ls) = ListFits I I' (written ls)

  pub TypesFit : Inside → Inside → TypeTrees → Type 0
  TypesFit I I' plain.no_type = Unit {0}
  TypesFit I I' (plain.type_and t ts) = TypeFits I I' t × TypesFit I I' ts

abbrev pub AnnotationFits : Inside → Inside → Option TypeTree → Type 0
AnnotationFits I I' None = Unit {0}
AnnotationFits I I' (Some y) = TypeFits I I' y
