-- Which type without lifetimes a written type is in a program, whose structs and enums it names (Rust Reference, "Type expressions",
-- "Paths").
use Rattle.std.specs.Prelude.{◌≡◌, ℕ, List, [], ◌∷◌, Some}
use Rattle.rx_tree.specs.Plain as plain
use Rattle.rx_tree.specs.Plain.{TypeTree, TypeTrees, ProgramTree}
use Rattle.rx_resolve_names.specs.Meant.{type_name, item_named, as_type}
use Rattle.rx_typed.specs.Types.{Typ, integer, boolean, tuple_of, reference, named, shapes_of}

abbrev mutual
  pub Denotes : ProgramTree → TypeTree → Typ → Type 0
  Denotes P (plain.kind_type s k) t = t ≡ integer k
  Denotes P (plain.bool_type s) t = t ≡ boolean
  Denotes P (plain.tuple_type s ys) t = (ts : List Typ) × (t ≡ tuple_of (shapes_of ts)) × DenoteEach P ys ts
  Denotes P (plain.ref_type s l m y) t = (u : Typ) × (t ≡ reference m u) × Denotes P y u
  Denotes P (plain.named_type s x ls) t = (i : ℕ) × (t ≡ named i) × (as_type (item_named type_name 0 P x.name) ≡ Some i)

  pub DenoteEach : ProgramTree → TypeTrees → List Typ → Type 0
  DenoteEach P plain.no_type ts = ts ≡ []
  DenoteEach P (plain.type_and y ys) ts = (u : Typ) × (us : List Typ) × (ts ≡ u ∷ us) × Denotes P y u × DenoteEach P ys us
