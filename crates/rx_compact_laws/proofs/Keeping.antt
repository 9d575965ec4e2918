-- A program with a short signature has the items of before by their names: a struct or an enum is the same item, a function has the same
-- number.
use Rattle.std.proofs.Common.{◌≡◌, ℕ, zero, suc, Bool, true, false, List, [], ◌∷◌, Option, Some, refl, ap}
use Rattle.std.specs.Prelude.{if◌then◌else◌}
use Rattle.rx_tree.specs.Plain as plain
use Rattle.rx_tree.specs.Plain.{ItemTree, ProgramTree}
use Rattle.rx_resolve_names.specs.Meant.{type_name, function_name, has_name, item_named, as_type, as_struct, as_enum, as_rt, as_function, number_in, variants_of}
use Rattle.rx_compact.specs.Compacted.{compacted_item, compacted}
use Rattle.rx_compact_laws.specs.Alongside.{SameItems}

module _ (o : ℕ → ℕ → Bool) (b : Bool) where
  one_type : (x : ItemTree) (n : ℕ) (y : List ℕ) (rest : Option (ℕ × ItemTree))
      → (if has_name y (type_name (compacted_item o b x)) then Some (n, compacted_item o b x) else rest) ≡ (if has_name y (type_name x) then Some (n, x) else rest)
  one_type (plain.function_item s f) n y rest = refl
  one_type (plain.rt_item s r) n y rest = refl
  one_type (plain.struct_item s d) n y rest = refl
  one_type (plain.enum_item s d) n y rest = refl

  types_stay : (p : ProgramTree) (i n : ℕ) (y : List ℕ) → item_named type_name n (compacted o b p i) y ≡ item_named type_name n p y
  types_stay [] i n y = refl
  types_stay (x ∷ xs) zero n y = one_type x n y (item_named type_name (suc n) xs y)
  types_stay (x ∷ xs) (suc i) n y = ap (λ r. if has_name y (type_name x) then Some (n, x) else r) (types_stay xs i (suc n) y)

  either_way : (c : Bool) (n : ℕ) (x z : ItemTree) (r s : Option (ℕ × ItemTree)) → as_function r ≡ as_function s → as_function (if c then Some (n, x) else r) ≡ as_function (if c then Some (n, z) else s)
  either_way true n x z r s e = refl
  either_way false n x z r s e = e

  one_function : (x : ItemTree) (n : ℕ) (y : List ℕ) (rest : Option (ℕ × ItemTree))
      → as_function (if has_name y (function_name (compacted_item o b x)) then Some (n, compacted_item o b x) else rest) ≡ as_function (if has_name y (function_name x) then Some (n, x) else rest)
  one_function (plain.function_item s f) n y rest = either_way (has_name y (Some f.name)) n (compacted_item o b (plain.function_item s f)) (plain.function_item s f) rest rest refl
  one_function (plain.rt_item s r) n y rest = refl
  one_function (plain.struct_item s d) n y rest = refl
  one_function (plain.enum_item s d) n y rest = refl

  functions_stay : (p : ProgramTree) (i n : ℕ) (y : List ℕ) → as_function (item_named function_name n (compacted o b p i) y) ≡ as_function (item_named function_name n p y)
  functions_stay [] i n y = refl
  functions_stay (x ∷ xs) zero n y = one_function x n y (item_named function_name (suc n) xs y)
  functions_stay (x ∷ xs) (suc i) n y =
      either_way (has_name y (function_name x)) n x x (item_named function_name (suc n) (compacted o b xs i) y) (item_named function_name (suc n) xs y) (functions_stay xs i (suc n) y)

  pub same_items : (p : ProgramTree) (i : ℕ) → SameItems p (compacted o b p i)
  same_items p i = record {
    types = λ x. ap as_type (types_stay p i 0 x);
    structs = λ x. ap as_struct (types_stay p i 0 x);
    enums = λ x. ap as_enum (types_stay p i 0 x);
    variants = λ x v. ap (λ r. number_in (variants_of r) v) (types_stay p i 0 x);
    rt = λ x. ap as_rt (types_stay p i 0 x);
    functions = λ x. functions_stay p i 0 x;
  }
