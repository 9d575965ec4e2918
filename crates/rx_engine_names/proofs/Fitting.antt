-- Two programs, each with an item in which names of items, variants and lifetimes mean what corresponds: an item of the first has
-- the number in the second that a map tells; a variant has the same number in both.
use Rattle.std.proofs.Common.{◌≡◌, ℕ, List, [], ◌∷◌, Option, Some, None, Ok, codes}
use Rattle.rx_core.specs.declared.types.Span.{Span}
use Rattle.rx_tree.specs.declared.tree.Ident.{Ident}
use Rattle.rx_tree.specs.Plain as plain
use Rattle.rx_tree.specs.Plain.{TypeTree, TypeTrees}
use Rattle.rx_resolve_names.specs.Meant.{type_name, function_name, item_named, as_function, as_rt}
use Rattle.rx_resolve_names.specs.Steps.{Outcome, Inside, known}
use Rattle.rx_resolve_names.specs.Names.{written, type_in, variant_in, struct_in}
use Rattle.rx_engine_names.specs.NamedLifetimes.{LifetimeFits, OptionalFits, ListFits, TypeFits, TypesFit, AnnotationFits}

abbrev pub function_in : Inside → Ident → Outcome ℕ
function_in I x = known (as_function (item_named function_name 0 I.program x.name)) x.span

abbrev pub rt_in : Inside → Span → Outcome ℕ
rt_in I s = known (as_rt (item_named type_name 0 I.program (codes "rt"))) s

pub record FitItems (items : ℕ → ℕ) (I I' : Inside) : Type 0 where
  pub types : (x : Ident) (n : ℕ) → type_in I x ≡ Ok n → (m : ℕ) × (type_in I' x ≡ Ok m) × (items n ≡ m)
  pub structs : (x : Ident) (n : ℕ) → struct_in I x ≡ Ok n → (m : ℕ) × (struct_in I' x ≡ Ok m) × (items n ≡ m)
  pub variants : (a v : Ident) (ns : List ℕ) → variant_in I a v ≡ Ok ns → (n m j : ℕ) × (ns ≡ n ∷ j ∷ []) × (variant_in I' a v ≡ Ok (m ∷ j ∷ [])) × (items n ≡ m)
  pub functions : (x : Ident) (n : ℕ) → function_in I x ≡ Ok n → (m : ℕ) × (function_in I' x ≡ Ok m) × (items n ≡ m)
  pub input : (s : Span) (n : ℕ) → rt_in I s ≡ Ok n → (m : ℕ) × (rt_in I' s ≡ Ok m) × (items n ≡ m)

pub record Fits (items : ℕ → ℕ) (I I' : Inside) : Type 0 where
  pub items_fit : FitItems items I I'
  pub lifetimes : (l : Ident) → LifetimeFits I I' l

-- ---- where all lifetimes fit
module _ (I I' : Inside) (h : (l : Ident) → LifetimeFits I I' l) where
  optional_fits : (l : Option Ident) → OptionalFits I I' l
  optional_fits None = tt
  optional_fits (Some l) = h l

  list_fits : (ls : List (Option Ident)) → ListFits I I' ls
  list_fits [] = tt
  list_fits (l ∷ ls) = (optional_fits l, list_fits ls)

  mutual
    pub type_fits : (y : TypeTree) → TypeFits I I' y
    type_fits (plain.kind_type s k) = tt
    type_fits (plain.bool_type s) = tt
    type_fits (plain.tuple_type s ts) = types_fit ts
    type_fits (plain.ref_type s l m t) = (optional_fits l, type_fits t)
    type_fits (plain.named_type s x ls) = list_fits (written ls)

    pub types_fit : (ys : TypeTrees) → TypesFit I I' ys
    types_fit plain.no_type = tt
    types_fit (plain.type_and t ts) = (type_fits t, types_fit ts)

  pub annotation_fits : (y : Option TypeTree) → AnnotationFits I I' y
  annotation_fits None = tt
  annotation_fits (Some y) = type_fits y
