-- The lifetimes that types name, and those that a function or an enum declares (Rust Reference, "Generic parameters", "Lifetime
-- elision").
use Rattle.std.specs.Prelude.{List, [], ◌∷◌, ◌++◌, Option, Some, None, map}
use Rattle.rx_tree.specs.declared.tree.Ident.{Ident}
use Rattle.rx_tree.specs.declared.tree.BoundLifetime.{BoundLifetime}
use Rattle.rx_tree.specs.Plain as plain
use Rattle.rx_tree.specs.Plain.{TypeTree, TypeTrees, Parameter, Function, VariantOf, Enumeration}
use Rattle.rx_hoist_extraction.specs.Names.{Names}

-- those that a type names, in the order of the text; `None` is one that is left out
abbrev mutual
  pub lifetimes_in : TypeTree → List (Option Ident)
  lifetimes_in (plain.kind_type s k) = []
  lifetimes_in (plain.bool_type s) = []
  lifetimes_in (plain.tuple_type s ts) = lifetimes_in_all ts
  lifetimes_in (plain.ref_type s l m t) = l ∷ lifetimes_in t
  lifetimes_in (plain.named_type s x None) = []
  lifetimes_in (plain.named_type s x (Some ls)) = ls

  pub lifetimes_in_all : TypeTrees → List (Option Ident)
  lifetimes_in_all plain.no_type = []
  lifetimes_in_all (plain.type_and t ts) = lifetimes_in t ++ lifetimes_in_all ts

abbrev pub lifetimes_if_any : Option TypeTree → List (Option Ident)
lifetimes_if_any None = []
lifetimes_if_any (Some t) = lifetimes_in t

abbrev pub in_parameters : List Parameter → List (Option Ident)
in_parameters [] = []
in_parameters (x ∷ xs) = lifetimes_in x.typ ++ in_parameters xs

abbrev pub in_variants : List VariantOf → List (Option Ident)
in_variants [] = []
in_variants (v ∷ vs) = lifetimes_in_all v.types ++ in_variants vs

-- those of a signature, parameters first
abbrev pub in_signature : Function → List (Option Ident)
in_signature f = in_parameters f.params ++ lifetimes_if_any f.result

-- ---- names

abbrev pub idents : List Ident → Names
idents ls = map (λ (l : Ident). l.name) ls

abbrev pub declared_lifetimes : Function → Names
declared_lifetimes f = map (λ (l : BoundLifetime). l.name.name) f.lifetimes
