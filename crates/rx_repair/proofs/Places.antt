-- The types of places without lifetimes: what the steps of a place lead to, by the types of fields, parts and references. A step that
-- leads nowhere leads to the unit, as it does with lifetimes.
use Rattle.std.proofs.Common.{◌≡◌, ℕ, zero, suc, Bool, true, false, if◌then◌else◌, List, [], ◌∷◌, ◌++◌, Option, Some, None, slice_get, refl, sym, ap, ◌∙◌}
use Rattle.std.specs.Str.{bytes_eq}
use Rattle.rx_core.specs.declared.types.Kind.{Kind}
use Rattle.rx_core.specs.declared.types.Step.{Step}
use Rattle.rx_core.specs.declared.types.Step.TheVariants as step
use Rattle.rx_typed.specs.Types as types
use Rattle.rx_typed.specs.Types.{Shapes, Typ, integer, boolean, tuple_of, reference, no_shape, shape_and, shape_map, shapes_map, shapes_listed, shapes_of, unit_shape, peeled, FieldDeclared, VariantDeclared, Declared, rt_declared, struct_declared, enum_declared, function_declared, Declarations, fields_declared, variants_declared, parts_declared, field_typ, field_number, variant_parts}
use Rattle.rx_typed.specs.Elaborated as elaborated
use Rattle.rx_typeck_solver.specs.Facts.{fixed, field_of, part_of, pointee}

abbrev pub part_at : Shapes Kind → ℕ → Typ
part_at no_shape i = unit_shape
part_at (shape_and t ts) zero = t
part_at (shape_and t ts) (suc i) = part_at ts i

abbrev pub types_of_fields : List FieldDeclared → List Typ
types_of_fields [] = []
types_of_fields (f ∷ fs) = f.typ ∷ types_of_fields fs

abbrev pub part_behind : Shapes Kind → Step → Typ
part_behind ts (step.Field i) = part_at ts i
part_behind ts s = unit_shape

abbrev pub target_behind : Typ → Step → Typ
target_behind t (step.Deref k) = t
target_behind t s = unit_shape

abbrev pub item_behind : Option Declared → Step → Typ
item_behind d (step.Field i) = part_at (shapes_of (types_of_fields (fields_declared d))) i
item_behind d (step.Variant v) = tuple_of (shapes_of (parts_declared (slice_get (variants_declared d) v)))
item_behind d (step.Deref k) = unit_shape

abbrev pub behind : Declarations → Typ → Step → Typ
behind D (integer k) s = unit_shape
behind D boolean s = unit_shape
behind D (tuple_of ts) s = part_behind ts s
behind D (reference m t) s = target_behind t s
behind D (types.named i) s = item_behind (slice_get D i) s

abbrev pub along : Declarations → Typ → List Step → Typ
along D t [] = t
along D t (s ∷ ss) = along D (behind D t s) ss

pub along_append : (D : Declarations) (t : Typ) (ss rs : List Step) → along D t (ss ++ rs) ≡ along D (along D t ss) rs
along_append D t [] rs = refl
along_append D t (s ∷ ss) rs = along_append D (behind D t s) ss rs

-- ---- what facts say

pub some_same : (t u : Typ) → ◌≡◌ {A = Option Typ} (Some t) (Some u) → t ≡ u
some_same t u e = cc

mutual
  mapped_same : (t : Typ) → shape_map (λ k. k) t ≡ t
  mapped_same (integer k) = refl
  mapped_same boolean = refl
  mapped_same (tuple_of ts) = ap tuple_of (all_mapped_same ts)
  mapped_same (reference m t) = ap (reference m) (mapped_same t)
  mapped_same (types.named i) = refl

  all_mapped_same : (ts : Shapes Kind) → shapes_map (λ k. k) ts ≡ ts
  all_mapped_same no_shape = refl
  all_mapped_same (shape_and t ts) = ap (λ (x : Typ). shape_and x (shapes_map (λ k. k) ts)) (mapped_same t) ∙ ap (shape_and t) (all_mapped_same ts)

pub fixed_same : (o : Option Typ) (u : Typ) → fixed (λ k. k) o ≡ Some u → o ≡ Some u
fixed_same None u e = absurd (cc)
fixed_same (Some t) u e = ap (λ (x : Typ). Some x) (sym (mapped_same t) ∙ some_same (shape_map (λ k. k) t) u e)

-- ---- steps

pub peels : (D : Declarations) (t : Typ) → along D t (elaborated.dereferences t) ≡ peeled t
peels D (integer k) = refl
peels D boolean = refl
peels D (tuple_of ts) = refl
peels D (reference m t) = peels D t
peels D (types.named i) = refl

nth_is : (ts : List Typ) (k : ℕ) (u : Typ) → slice_get ts k ≡ Some u → part_at (shapes_of ts) k ≡ u
nth_is [] k u e = absurd (cc)
nth_is (t ∷ ts) zero u e = some_same t u e
nth_is (t ∷ ts) (suc k) u e = nth_is ts k u e

listed_same : (ts : Shapes Kind) → shapes_of (shapes_listed ts) ≡ ts
listed_same no_shape = refl
listed_same (shape_and t ts) = ap (shape_and t) (listed_same ts)

pub part_is : (D : Declarations) (t : Typ) (k : ℕ) (u : Typ) → part_of k t ≡ Some u → behind D t (step.Field k) ≡ u
part_is D (integer j) k u e = absurd (cc)
part_is D boolean k u e = absurd (cc)
part_is D (tuple_of ts) k u e = ap (λ (l : Shapes Kind). part_at l k) (sym (listed_same ts)) ∙ nth_is (shapes_listed ts) k u e
part_is D (reference m t) k u e = absurd (cc)
part_is D (types.named i) k u e = absurd (cc)

field_at : (fs : List FieldDeclared) (x : List ℕ) (u : Typ) → field_typ fs x ≡ Some u → part_at (shapes_of (types_of_fields fs)) (field_number fs x) ≡ u
field_at [] x u e = absurd (cc)
field_at (f ∷ fs) x u e = by (bytes_eq f.name x) e (field_at fs x u)
  where
    by : (b : Bool) → (if b then Some f.typ else field_typ fs x) ≡ Some u → (field_typ fs x ≡ Some u → part_at (shapes_of (types_of_fields fs)) (field_number fs x) ≡ u)
        → part_at (shapes_of (types_of_fields (f ∷ fs))) (if b then zero else suc (field_number fs x)) ≡ u
    by true e g = some_same f.typ u e
    by false e g = g e

pub field_is : (D : Declarations) (t : Typ) (x : List ℕ) (u : Typ) → field_of (λ k. k) D x t ≡ Some u → behind D t (step.Field (elaborated.field_in D t x)) ≡ u
field_is D (integer j) x u e = absurd (cc)
field_is D boolean x u e = absurd (cc)
field_is D (tuple_of ts) x u e = absurd (cc)
field_is D (reference m t) x u e = absurd (cc)
field_is D (types.named i) x u e = field_at (fields_declared (slice_get D i)) x u (fixed_same (field_typ (fields_declared (slice_get D i)) x) u e)

pub pointee_is : (D : Declarations) (t u : Typ) → pointee t ≡ Some u → along D t (elaborated.dereference t) ≡ u
pointee_is D (integer j) u e = absurd (cc)
pointee_is D boolean u e = absurd (cc)
pointee_is D (tuple_of ts) u e = absurd (cc)
pointee_is D (reference m t) u e = some_same t u e
pointee_is D (types.named i) u e = absurd (cc)

-- a part of a variant
pub variant_part_is : (D : Declarations) (i v k : ℕ) (u : Typ) → fixed (λ k. k) (slice_get (variant_parts D i v) k) ≡ Some u → along D (types.named i) (step.Variant v ∷ step.Field k ∷ []) ≡ u
variant_part_is D i v k u e = nth_is (variant_parts D i v) k u (fixed_same (slice_get (variant_parts D i v) k) u e)

-- a step behind the references of a type
pub peeled_step : (D : Declarations) (t : Typ) (s : Step) (u : Typ) → behind D (peeled t) s ≡ u → along D t (elaborated.dereferences t ++ s ∷ []) ≡ u
peeled_step D t s u e = along_append D t (elaborated.dereferences t) (s ∷ []) ∙ (ap (λ (z : Typ). behind D z s) (peels D t) ∙ e)
