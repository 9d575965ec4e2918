-- Lifetimes that are written otherwise: by another name, or left out (Rust Reference, "Lifetime elision", "Type expressions").
-- What becomes of each is told by its name, in types and in all of a function's body. All else stays, spans too.
use Rattle.std.specs.Prelude.{ℕ, if◌then◌else◌, List, [], ◌∷◌, map, Option, Some, None, option_map}
use Rattle.std.specs.Str.{bytes_eq}
use Rattle.rx_tree.specs.declared.tree.Ident.{Ident}
use Rattle.rx_tree.specs.declared.tree.BoundLifetime.{BoundLifetime}
use Rattle.rx_tree.specs.Plain as plain
use Rattle.rx_tree.specs.Plain.{TypeTree, TypeTrees, Parameter, Body}
use Rattle.rx_hoist_extraction.specs.Changed.{Changes, kept, changed_body}
use Rattle.rx_compact_lifetimes.specs.declared.rewriting.Rewriting.{Rewriting}

-- what becomes of a name; one that no rewriting tells stays
abbrev pub becomes : List Rewriting → List ℕ → Option (List ℕ)
becomes [] x = Some x
becomes (r ∷ rs) x = if bytes_eq x r.name then r.becomes else becomes rs x

-- ---- a lifetime where it stands

abbrev pub ident_with : Ident → List ℕ → Ident
ident_with x n = record x { name = n }

abbrev pub lifetime_with : Ident → Option (List ℕ) → Option Ident
lifetime_with x n = option_map (ident_with x) n

abbrev pub rewritten_lifetime : List Rewriting → Option Ident → Option Ident
rewritten_lifetime rs None = None
rewritten_lifetime rs (Some x) = lifetime_with x (becomes rs x.name)

-- where none can be left out
abbrev pub ident_or : Ident → Option (List ℕ) → Ident
ident_or x None = x
ident_or x (Some n) = ident_with x n

abbrev pub renamed_ident : List Rewriting → Ident → Ident
renamed_ident rs x = ident_or x (becomes rs x.name)

-- a declared lifetime with its bounds
abbrev pub renamed_bound : List Rewriting → BoundLifetime → BoundLifetime
renamed_bound rs l = record { name = renamed_ident rs l.name; bounds = map (renamed_ident rs) l.bounds }

-- ---- types

abbrev pub rewritten_list : List Rewriting → Option (List (Option Ident)) → Option (List (Option Ident))
rewritten_list rs ls = option_map (map (rewritten_lifetime rs)) ls

abbrev mutual
  pub rewritten_type : List Rewriting → TypeTree → TypeTree
  rewritten_type rs (plain.kind_type s k) = plain.kind_type s k
  rewritten_type rs (plain.bool_type s) = plain.bool_type s
  rewritten_type rs (plain.tuple_type s ts) = plain.tuple_type s (rewritten_types rs ts)
  rewritten_type rs (plain.ref_type s l m t) = plain.ref_type s (rewritten_lifetime rs l) m (rewritten_type rs t)
  rewritten_type rs (plain.named_type s x ls) = plain.named_type s x (rewritten_list rs ls)

  pub rewritten_types : List Rewriting → TypeTrees → TypeTrees
  rewritten_types rs plain.no_type = plain.no_type
  rewritten_types rs (plain.type_and t ts) = plain.type_and (rewritten_type rs t) (rewritten_types rs ts)

abbrev pub rewritten_optional : List Rewriting → Option TypeTree → Option TypeTree
rewritten_optional rs t = option_map (rewritten_type rs) t

abbrev pub rewritten_parameter : List Rewriting → Parameter → Parameter
rewritten_parameter rs x = record x { typ = rewritten_type rs x.typ }

-- ---- a body: the types of its `let`s

abbrev pub retyping : (TypeTree → TypeTree) → Changes
retyping f = record kept { at_let = λ p t. option_map f t }

abbrev pub rewritten_body : List Rewriting → Body → Body
rewritten_body rs b = changed_body (retyping (rewritten_type rs)) [] [] b
