-- Where no lifetime is written otherwise, a body stays as it is; so the function of which lifetimes became one, and that of which some are
-- left out, are rewritten.
use Rattle.std.proofs.Common.{◌≡◌, List, [], ◌∷◌, map, Option, Some, None, refl, ap, ap₂, ◌∙◌}
use Rattle.std.specs.Prelude.{option_map}
use mathlib.Core.Path.{fun_ext}
use Rattle.rx_tree.specs.declared.tree.Ident.{Ident}
use Rattle.rx_tree.specs.Plain as plain
use Rattle.rx_tree.specs.Plain.{TypeTree, TypeTrees, PatternTree, Body}
use Rattle.rx_hoist_extraction.specs.Changed.{Changes, kept, changed_body}
use Rattle.rx_hoist_extraction.proofs.Unchanged.{same_body}
use Rattle.rx_compact_lifetimes.specs.Rewritten.{rewritten_lifetime, rewritten_type, rewritten_types, rewritten_body}

listed_same : (ls : List (Option Ident)) → map (rewritten_lifetime []) ls ≡ ls
listed_same [] = refl
listed_same (None ∷ ls) = ap (λ ks. None ∷ ks) (listed_same ls)
listed_same (Some x ∷ ls) = ap (λ ks. Some x ∷ ks) (listed_same ls)

lifetime_same : (l : Option Ident) → rewritten_lifetime [] l ≡ l
lifetime_same None = refl
lifetime_same (Some x) = refl

mutual
  type_stays : (t : TypeTree) → rewritten_type [] t ≡ t
  type_stays (plain.kind_type s k) = refl
  type_stays (plain.bool_type s) = refl
  type_stays (plain.tuple_type s ts) = ap (plain.tuple_type s) (types_stay ts)
  type_stays (plain.ref_type s l m t) = ap₂ (λ k u. plain.ref_type s k m u) (lifetime_same l) (type_stays t)
  type_stays (plain.named_type s x None) = refl
  type_stays (plain.named_type s x (Some ls)) = ap (λ ks. plain.named_type s x (Some ks)) (listed_same ls)

  types_stay : (ts : TypeTrees) → rewritten_types [] ts ≡ ts
  types_stay plain.no_type = refl
  types_stay (plain.type_and t ts) = ap₂ plain.type_and (type_stays t) (types_stay ts)

let_stays : (t : Option TypeTree) → option_map (rewritten_type []) t ≡ t
let_stays None = refl
let_stays (Some t) = ap (λ u. Some u) (type_stays t)

abbrev by_lets : (PatternTree → Option TypeTree → Option TypeTree) → Changes
by_lets f = record kept { at_let = f }

pub body_stays : (b : Body) → rewritten_body [] b ≡ b
body_stays b = ap (λ f. changed_body (by_lets f) [] [] b) (fun_ext (λ p. fun_ext (λ t. let_stays t))) ∙ same_body [] [] b
