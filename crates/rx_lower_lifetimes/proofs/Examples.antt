-- The lifetimes of a function, computed, against lists written by hand.
--
--     struct P<'a> { r: &'a i64 }
--     fn pick<'x>(p: &'x i64, q: &i64) -> &'x i64 { .. }
--     fn main() { let a = 3i64; let b = pick(&a, &a); let c = P { r: b }; }
use Rattle.std.proofs.Common.{◌≡◌, refl, ℕ, pos, false, List, [], ◌∷◌, None, ap, ◌∙◌, Some, true}
use Rattle.rx_core.specs.declared.types.Kind.{Kind}
use Rattle.rx_core.specs.declared.types.Step.TheVariants as step
use Rattle.rx_core.specs.declared.types.Ty.{Ty}
use Rattle.rx_core.specs.declared.types.Ty.TheVariants as ty
use Rattle.rx_typed.specs.declared.declarations.Decl.{Decl}
use Rattle.rx_typed.specs.declared.declarations.Decl.TheVariants as decl
use Rattle.rx_typed.specs.Regions.{RegionTyp, region_integer, region_reference, region_named, no_region, region_and, region-Ty, region_of_integer, region_of_shared, region_of_mut, region_of_item}
use Rattle.rx_typed.specs.Tree.{Mark, Exp, Parameter, whole_number, constant, struct, by_value, bind, borrow, build, unit, call, block, give, read, no_operand, operand_and, of_value, ends, lets, own, temporary_at}
use Rattle.rx_typed.specs.Renaming.{unit_region}
use Rattle.rx_typed.specs.Places.{place_type}
use Rattle.rx_lower_lifetimes.specs.Variables.{open_types}
use Rattle.rx_lower_lifetimes.specs.Positions.{positions}
use Rattle.rx_lower_lifetimes.specs.Numbered.{all_numbered, none, region, signed}
use Rattle.rx_lower_lifetimes.specs.Lowered as lowered
use Rattle.rx_lower_lifetimes.specs.Lowered.{known, actions, lifetimes}

abbrev at : ℕ → Mark
at n = record { node = n; typ = None }

abbrev taken : ℕ → Exp
taken n = borrow (at n) false (own 0)

abbrev body : Exp
body =
    block (at 1) (lets 2 (bind 3 0 (by_value false)) (of_value (build (at 4) (constant (whole_number Kind.I64 (pos 3))) no_operand))
    (lets 5 (bind 6 1 (by_value false)) (of_value (call (at 7) 1 (operand_and 0 (taken 8) (operand_and 1 (taken 10) no_operand))))
    (lets 12 (bind 13 2 (by_value false)) (of_value (build (at 14) (struct 0) (operand_and 0 (read (at 15) false (own 1)) no_operand)))
    (ends (give (at 1) (unit (at 1)))))))

abbrev integer : RegionTyp
integer = region_integer Kind.I64

abbrev lent : ℕ → RegionTyp
lent l = region_reference false l integer

abbrev shared : ℕ → Ty
shared l = ty.Shared l (ty.Int Kind.I64)

shared_is : (l : ℕ) → region-Ty (shared l) ≡ lent l
shared_is l = region_of_shared l (ty.Int Kind.I64) ∙ ap (region_reference false l) (region_of_integer Kind.I64)

abbrev items : List Decl
items = decl.Struct false 1 [] [] ∷ decl.Func 2 (shared 0 ∷ shared 1 ∷ []) (shared 0) [] ∷ decl.Func 0 [] (ty.Tuple []) [] ∷ []

abbrev main : lowered.Function
main = record {
  items = items;
  item = 2;
  body = record { params = []; body = body };
  variables =
      record { typ = integer; from = 0 } ∷ record { typ = lent 0; from = 0 } ∷ record { typ = region_named 0 (0 ∷ []); from = 0 } ∷ [];
}

types_are : (lifetimes main).types
    ≡ integer ∷ lent 0 ∷ region_named 0 (1 ∷ []) ∷ integer ∷ lent 2 ∷ lent 3 ∷ lent 4 ∷ lent 5 ∷ region_named 0 (6 ∷ []) ∷ []
types_are = rw (shared_is 0) refl

temporaries_are : (lifetimes main).temporaries ≡ temporary_at 4 0 ∷ temporary_at 8 0 ∷ temporary_at 10 0 ∷ temporary_at 7 0 ∷ temporary_at 15 0 ∷ temporary_at 14 0 ∷ []
temporaries_are = refl

owned_are : (lifetimes main).owned
    ≡ none ∷ none ∷ none ∷ region 7 ∷ region 8
    ∷ signed (record { params = region_and (lent 9) (region_and (lent 10) no_region); answer = lent 9; bounds = [] })
    ∷ none ∷ none ∷ none ∷ none ∷ none ∷ none ∷ none ∷ none ∷ none ∷ none ∷ []
owned_are = rw (shared_is 0, shared_is 1) refl

regions_are : (lifetimes main).regions ≡ 11
regions_are = rw (shared_is 0) refl

positions_are : positions (known main) (actions main) ≡ 11
positions_are = rw (shared_is 0) refl

-- ---- the types of places: `struct Q<'a, 'b> { f: i64, g: &'b P<'a> }`, `enum E<'a> { N, S(i64, &'a mut i64) }`

abbrev holder : Ty
holder = ty.Shared 1 (ty.Adt 0 (0 ∷ []))

holder_is : region-Ty holder ≡ region_reference false 1 (region_named 0 (0 ∷ []))
holder_is = region_of_shared 1 (ty.Adt 0 (0 ∷ [])) ∙ ap (region_reference false 1) (region_of_item 0 (0 ∷ []))

abbrev changed : Ty
changed = ty.Mut 0 (ty.Int Kind.I64)

changed_is : region-Ty changed ≡ region_reference true 0 integer
changed_is = region_of_mut 0 (ty.Int Kind.I64) ∙ ap (region_reference true 0) (region_of_integer Kind.I64)

abbrev held_items : List Decl
held_items =
    decl.Struct false 1 [] (record { name = []; ty = shared 0 } ∷ [])
    ∷ decl.Struct false 2 [] (record { name = []; ty = ty.Int Kind.I64 } ∷ record { name = []; ty = holder } ∷ [])
    ∷ decl.Enum false 1 [] (record { name = []; parts = [] } ∷ record { name = []; parts = ty.Int Kind.I64 ∷ changed ∷ [] } ∷ [])
    ∷ []

-- behind a reference at 9, the fields of `Q<7, 8>`: `g`, what it leads to, and the field of that
field_is : place_type held_items (region_reference true 9 (region_named 1 (7 ∷ 8 ∷ []))) (step.Deref true ∷ step.Field 1 ∷ [])
    ≡ region_reference false 8 (region_named 0 (7 ∷ []))
field_is = rw holder_is refl

field_of_field_is : place_type held_items (region_reference true 9 (region_named 1 (7 ∷ 8 ∷ []))) (step.Deref true ∷ step.Field 1 ∷ step.Deref false ∷ step.Field 0 ∷ []) ≡ lent 7
field_of_field_is = rw (holder_is, shared_is 0) refl

part_is : place_type held_items (region_named 2 (5 ∷ [])) (step.Variant 1 ∷ step.Field 1 ∷ []) ≡ region_reference true 5 integer
part_is = rw changed_is refl

no_field : place_type held_items (region_named 2 (5 ∷ [])) (step.Field 0 ∷ []) ≡ unit_region
no_field = refl

-- ---- the types of variables: `fn f<'x>(p: &'x i64, q: &i64) { let a: &'x i64 = p; let b: &i64 = q; let c = q; }`

abbrev by_number : ℕ → Parameter
by_number x = record { node = x; variable = x }

variables_are : open_types 2 (by_number 0 ∷ by_number 1 ∷ []) (shared 0 ∷ shared 1 ∷ []) (record { variable = 2; typ = lent 0 } ∷ record { variable = 3; typ = lent 2 } ∷ []) 0
    (Some (shared 0) ∷ Some (shared 0) ∷ Some (shared 0) ∷ Some (shared 0) ∷ Some (shared 0) ∷ [])
    ≡ record { typ = lent 0; from = 2 } ∷ record { typ = lent 1; from = 2 } ∷ record { typ = lent 0; from = 2 } ∷ record { typ = lent 2; from = 2 } ∷ record { typ = lent 0; from = 0 } ∷ []
variables_are = rw (shared_is 0, shared_is 1) refl

-- those of `b` and `c` are numbered behind the function's own
numbers_are : all_numbered 2 (record { typ = lent 0; from = 2 } ∷ record { typ = lent 1; from = 2 } ∷ record { typ = lent 0; from = 2 } ∷ record { typ = lent 2; from = 2 } ∷ record { typ = lent 0; from = 0 } ∷ [])
    ≡ lent 0 ∷ lent 1 ∷ lent 0 ∷ lent 2 ∷ lent 3 ∷ []
numbers_are = refl
