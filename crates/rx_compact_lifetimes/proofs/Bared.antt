-- What is rewritten is the same apart from lifetimes.
use Rattle.std.proofs.Common.{◌≡◌, List, [], ◌∷◌, map, Option, Some, None, refl}
use Rattle.std.specs.Prelude.{option_map}
use Rattle.rx_tree.specs.declared.tree.BoundLifetime.{BoundLifetime}
use Rattle.rx_tree.specs.Plain as plain
use Rattle.rx_tree.specs.Plain.{TypeTree, TypeTrees, Parameter, Body, Function}
use Rattle.rx_compact_lifetimes.specs.declared.rewriting.Rewriting.{Rewriting}
use Rattle.rx_compact_lifetimes.specs.Rewritten.{rewritten_type, rewritten_types, rewritten_optional, rewritten_parameter, rewritten_body}
use Rattle.rx_compact_lifetimes.specs.Bare.{bare_type, bare_types, bare_parameter, bare_body, bare_function}
use Rattle.rx_compact_lifetimes.specs.Merged.{merged_by}
use Rattle.rx_compact_lifetimes.specs.Elided.{elided_by}
use Rattle.rx_compact_lifetimes.proofs.Retyped.{retyped_body}

module _ (rs : List Rewriting) where
  mutual
    bare_rewritten : (t : TypeTree) → bare_type (rewritten_type rs t) ≡ bare_type t
    bare_rewritten (plain.kind_type s k) = refl
    bare_rewritten (plain.bool_type s) = refl
    bare_rewritten (plain.tuple_type s ts) = rw (bare_rewritten_all ts) refl
    bare_rewritten (plain.ref_type s l m t) = rw (bare_rewritten t) refl
    bare_rewritten (plain.named_type s x ls) = refl

    bare_rewritten_all : (ts : TypeTrees) → bare_types (rewritten_types rs ts) ≡ bare_types ts
    bare_rewritten_all plain.no_type = refl
    bare_rewritten_all (plain.type_and t ts) = rw (bare_rewritten t, bare_rewritten_all ts) refl

  bare_optional : (t : Option TypeTree) → option_map bare_type (rewritten_optional rs t) ≡ option_map bare_type t
  bare_optional None = refl
  bare_optional (Some t) = rw (bare_rewritten t) refl

  bare_parameters : (xs : List Parameter) → map bare_parameter (map (rewritten_parameter rs) xs) ≡ map bare_parameter xs
  bare_parameters [] = refl
  bare_parameters (x ∷ xs) = rw (bare_rewritten x.typ, bare_parameters xs) refl

  bare_bodies : (b : Body) → bare_body (rewritten_body rs b) ≡ bare_body b
  bare_bodies b = retyped_body bare_type (rewritten_type rs) bare_type bare_rewritten [] [] [] [] [] [] b

  pub bare_merged_by : (f : Function) → bare_function (merged_by rs f) ≡ bare_function f
  bare_merged_by f = rw (bare_parameters f.params, bare_optional f.result, bare_bodies f.body) refl

  pub bare_elided_by : (ls : List BoundLifetime) (f : Function) → bare_function (elided_by rs ls f) ≡ bare_function f
  bare_elided_by ls f = rw (bare_parameters f.params, bare_optional f.result) refl
