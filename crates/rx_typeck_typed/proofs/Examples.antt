-- Short programs, each with what it declares or the fault, by computation: their names are those that the definition
-- gives.
use Rattle.std.proofs.Common.{◌≡◌, ℕ, suc, false, true, List, [], ◌∷◌, Option, Some, None, Ok, Err, refl, codes}
use Rattle.rx_core.specs.declared.types.Span.{Span}
use Rattle.rx_core.specs.declared.types.Kind.{Kind}
use Rattle.rx_core.specs.declared.types.Ty.TheVariants as ty
use Rattle.rx_tree.specs.declared.tree.Ident.{Ident}
use Rattle.rx_tree.specs.declared.tree.Derive.{Derive}
use Rattle.rx_tree.specs.declared.tree.BoundLifetime.{BoundLifetime}
use Rattle.rx_tree.specs.Plain as plain
use Rattle.rx_tree.specs.Plain.{TypeTree, Body, FieldOf, Parameter, ItemTree, ProgramTree}
use Rattle.rx_tree.specs.Spans.{program_span}
use Rattle.rx_resolve_names.specs.Steps as resolve_steps
use Rattle.rx_resolve_names.specs.Items.{in_program}
use Rattle.rx_resolve_names.specs.declared.resolved.ItemNames.{ItemNames}
use Rattle.rx_typed.specs.declared.declarations.Decl.TheVariants as decl
use Rattle.rx_typeck_solver.specs.declared.facts.Rule.{Rule}
use Rattle.rx_typeck_typed.specs.declared.fault.DeclareFault.TheVariants as fault
use Rattle.rx_typeck_typed.specs.Steps.{Outcome}
use Rattle.rx_typeck_typed.specs.Items.{declared_items}
use Rattle.rx_typeck_typed.specs.Programs.{main_of, main_fits, may_derive}

abbrev or_none : resolve_steps.Outcome (List ItemNames) → List ItemNames
or_none (Ok ns) = ns
or_none (Err e) = []

abbrev told : ProgramTree → Outcome (List decl.the_data)
told p = declared_items p (or_none (in_program p)) 0 p

abbrev at : ℕ → ℕ → Span
at a b = record { start = a; end = b }

abbrev ident : ℕ → ℕ → List ℕ → Ident
ident a b x = record { span = at a b; name = x }

abbrev empty : Body
empty = plain.body (at 0 0) plain.no_statement plain.absent

abbrev main : ItemTree
main = plain.function_item (at 90 99) (record
    { name = ident 93 97 (codes "main"); lifetimes = []; params = []; result = None; body = empty })

abbrev i64 : ℕ → ℕ → TypeTree
i64 a b = plain.kind_type (at a b) Kind.I64

abbrev param : Ident → TypeTree → Parameter
param x t = record { name = x; mutable = false; typ = t }

abbrev field : Ident → TypeTree → FieldOf
field x t = record { name = x; typ = t }

-- fn f(p: &i64, q: &i64) -> &i64 { p } fn main() {}
two_elided : told (plain.function_item (at 0 36) (record {
  name = ident 3 4 (codes "f");
  lifetimes = [];
  params = param (ident 5 6 (codes "p")) (plain.ref_type (at 8 12) None false (i64 9 12))
      ∷ param (ident 14 15 (codes "q")) (plain.ref_type (at 17 21) None false (i64 18 21)) ∷ [];
  result = Some (plain.ref_type (at 26 30) None false (i64 27 30));
  body = empty;
}) ∷ main ∷ []) ≡ Err (fault.Elision (at 26 30))
two_elided = refl

abbrev a_function : Ident → List BoundLifetime → List Parameter → Option TypeTree → ItemTree
a_function x ls ps r = plain.function_item (at 0 36)
    (record { name = x; lifetimes = ls; params = ps; result = r; body = empty })

abbrev a_struct : Ident → List Derive → List Ident → List FieldOf → ItemTree
a_struct x ds ls fs = plain.struct_item (at 0 36) (record { name = x; derives = ds; lifetimes = ls; fields = fs })

abbrev lifetime : ℕ → List Ident → BoundLifetime
lifetime a bs = record { name = ident a (suc (suc a)) (codes "'a"); bounds = bs }

abbrev a : Ident
a = ident 60 62 (codes "'a")

abbrev b : Ident
b = ident 63 65 (codes "'b")

abbrev s : Ident
s = ident 7 8 (codes "S")

abbrev f : Ident
f = ident 3 4 (codes "f")

abbrev p : Ident
p = ident 5 6 (codes "p")

abbrev to : Option Ident → TypeTree
to l = plain.ref_type (at 8 12) l false (i64 9 12)

abbrev of_s : List (Option Ident) → TypeTree
of_s ls = plain.named_type (at 41 45) s (Some ls)

-- fn f<'a>(p: &'a i64, q: &i64, r: &i64) {}
numbered : told (a_function f (lifetime 5 [] ∷ [])
    (param p (to (Some a)) ∷ param s (to None) ∷ param f (to None) ∷ []) None ∷ [])
    ≡ Ok (decl.Func 3 (ty.Shared 0 (ty.Int Kind.I64) ∷ ty.Shared 1 (ty.Int Kind.I64) ∷ ty.Shared 2 (ty.Int Kind.I64)
    ∷ []) (ty.Tuple []) [] ∷ [])
numbered = refl

-- fn f<'a>(p: &'a i64, q: &'a i64) -> &i64 ..
the_same : told (a_function f (lifetime 5 [] ∷ []) (param p (to (Some a)) ∷ param s (to (Some a)) ∷ [])
    (Some (to None)) ∷ [])
    ≡ Ok (decl.Func 1 (ty.Shared 0 (ty.Int Kind.I64) ∷ ty.Shared 0 (ty.Int Kind.I64) ∷ [])
    (ty.Shared 0 (ty.Int Kind.I64)) [] ∷ [])
the_same = refl

-- fn f() -> &i64 ..
none_there : told (a_function f [] [] (Some (to None)) ∷ []) ≡ Err (fault.Elision (at 8 12))
none_there = refl

-- fn f<'a, 'b: 'a>() {}
bounded : told (a_function f (lifetime 5 [] ∷ record { name = b; bounds = a ∷ [] } ∷ []) [] None ∷ [])
    ≡ Ok (decl.Func 2 [] (ty.Tuple []) (record { long = 1; short = 0 } ∷ []) ∷ [])
bounded = refl

-- struct S { p: &i64 }
in_a_field : told (a_struct s [] [] (field p (to None) ∷ []) ∷ []) ≡ Err (fault.Elision (at 8 12))
in_a_field = refl

-- struct S<'a> {}
unused : told (a_struct s [] (a ∷ []) [] ∷ []) ≡ Err (fault.Mismatch (at 60 62) Rule.Unused)
unused = refl

-- struct S<'a> { p: &'a i64 } struct f<'a> { p: S<'a, 'a> }
too_many : told (a_struct s [] (a ∷ []) (field p (to (Some a)) ∷ [])
    ∷ a_struct f [] (a ∷ []) (field p (of_s (Some a ∷ Some a ∷ [])) ∷ []) ∷ [])
    ≡ Err (fault.Mismatch (at 41 45) Rule.Lifetimes)
too_many = refl

-- struct S<'a> { p: &'a i64 } struct f { p: S<'_> }
left_out : told (a_struct s [] (a ∷ []) (field p (to (Some a)) ∷ [])
    ∷ a_struct f [] [] (field p (of_s (None ∷ [])) ∷ []) ∷ []) ≡ Err (fault.Elision (at 41 45))
left_out = refl

-- struct S<'a> { p: &'a i64 } fn f(p: S) -> S<'_> ..
of_one : told (a_struct s [] (a ∷ []) (field p (to (Some a)) ∷ [])
    ∷ a_function f [] (param p (plain.named_type (at 37 38) s None) ∷ []) (Some (of_s (None ∷ []))) ∷ [])
    ≡ Ok (decl.Struct false 1 [] (record { name = codes "p"; ty = ty.Shared 0 (ty.Int Kind.I64) } ∷ [])
    ∷ decl.Func 1 (ty.Adt 0 (0 ∷ []) ∷ []) (ty.Adt 0 (0 ∷ [])) [] ∷ [])
of_one = refl

-- no program, and `fn main() -> () {}`
no_main : main_fits (program_span []) (main_of []) ≡ Err (fault.Mismatch (at 0 0) Rule.Main)
no_main = refl

with_result : main_fits (at 0 0)
    (main_of (a_function (ident 3 7 (codes "main")) [] [] (Some (plain.tuple_type (at 13 15) plain.no_type)) ∷ []))
    ≡ Err (fault.Mismatch (at 3 7) Rule.Main)
with_result = refl

-- Copy without Clone, and Clone twice
copy_alone : may_derive (Derive.Copy ∷ []) true ≡ false
copy_alone = refl

clone_twice : may_derive (Derive.Clone ∷ Derive.Clone ∷ []) true ≡ false
clone_twice = refl

both : may_derive (Derive.Copy ∷ Derive.Clone ∷ []) true ≡ true
both = refl
