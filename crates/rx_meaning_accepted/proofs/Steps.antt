-- The types of places step by step: what the rules of types say of a part is what the steps of a place lead to.
use Rattle.std.proofs.Common.{◌≡◌, ℕ, zero, suc, Bool, true, false, if◌then◌else◌, List, [], ◌∷◌, ◌++◌, map, Option, Some, None, slice_get, refl, sym, ap, ◌∙◌, subst}
use Rattle.std.specs.Str.{bytes_eq}
use Rattle.rx_core.specs.declared.types.Kind.{Kind}
use Rattle.rx_core.specs.declared.types.Step.{Step}
use Rattle.rx_core.specs.declared.types.Step.TheVariants as step
use Rattle.rx_typed.specs.Types as types
use Rattle.rx_typed.specs.Types.{Shapes, Typ, integer, boolean, tuple_of, reference, no_shape, shape_and, shapes_listed, shapes_of, peeled, FieldDeclared, VariantDeclared, Declared, rt_declared, struct_declared, enum_declared, function_declared, Declarations, fields_declared, variants_declared, parts_declared, field_typ, field_number, variant_parts}
use Rattle.rx_typed.specs.Elaborated as elaborated
use Rattle.rx_typeck_solver.specs.Facts.{fixed, field_of, part_of, pointee}
use Rattle.rx_meaning.specs.Values.{and_then}
use Rattle.rx_meaning_typed.specs.TypedActs.{shape_at, types_of_fields, item_behind, parts_behind, typ_behind, typ_along}
use Rattle.rx_repair.proofs.Places.{some_same, fixed_same}

-- ---- one step behind others

-- what a step leads to is where the steps behind it begin
pub goes_on : (D : Declarations) (t u : Typ) (s : Step) (ss : List Step) → typ_behind D t s ≡ Some u → typ_along D t (s ∷ ss) ≡ typ_along D u ss
goes_on D t u s ss e = ap (λ (o : Option Typ). and_then o (λ v. typ_along D v ss)) e

pub along_append : (D : Declarations) (t u : Typ) (ss rs : List Step) → typ_along D t ss ≡ Some u → typ_along D t (ss ++ rs) ≡ typ_along D u rs
along_append D t u [] rs e = ap (λ z. typ_along D z rs) (some_same t u e)
along_append D t u (s ∷ ss) rs e = by (typ_behind D t s) refl e (λ v. along_append D v u ss rs)
  where
    by : (o : Option Typ) → typ_behind D t s ≡ o → and_then o (λ v. typ_along D v ss) ≡ Some u → ((v : Typ) → typ_along D v ss ≡ Some u → typ_along D v (ss ++ rs) ≡ typ_along D u rs)
        → typ_along D t (s ∷ (ss ++ rs)) ≡ typ_along D u rs
    by None q e f = absurd (cc)
    by (Some v) q e f = goes_on D t v s (ss ++ rs) q ∙ f v e

pub along_one : (D : Declarations) (t u : Typ) (s : Step) → typ_behind D t s ≡ Some u → typ_along D t (s ∷ []) ≡ Some u
along_one D t u s e = goes_on D t u s [] e

-- ---- lists of types

pub listed_at : (ts : List Typ) (k : ℕ) (u : Typ) → slice_get ts k ≡ Some u → shape_at (shapes_of ts) k ≡ Some u
listed_at [] k u e = absurd (cc)
listed_at (t ∷ ts) zero u e = e
listed_at (t ∷ ts) (suc k) u e = listed_at ts k u e

shape_listed : (ts : Shapes Kind) (k : ℕ) (u : Typ) → slice_get (shapes_listed ts) k ≡ Some u → shape_at ts k ≡ Some u
shape_listed no_shape k u e = absurd (cc)
shape_listed (shape_and t ts) zero u e = e
shape_listed (shape_and t ts) (suc k) u e = shape_listed ts k u e

-- ---- steps

pub peels : (D : Declarations) (t : Typ) → typ_along D t (elaborated.dereferences t) ≡ Some (peeled t)
peels D (integer k) = refl
peels D boolean = refl
peels D (tuple_of ts) = refl
peels D (reference m t) = peels D t
peels D (types.named i) = refl

pub part_is : (D : Declarations) (t : Typ) (k : ℕ) (u : Typ) → part_of k t ≡ Some u → typ_behind D t (step.Field k) ≡ Some u
part_is D (integer j) k u e = absurd (cc)
part_is D boolean k u e = absurd (cc)
part_is D (tuple_of ts) k u e = shape_listed ts k u e
part_is D (reference m t) k u e = absurd (cc)
part_is D (types.named i) k u e = absurd (cc)

-- a field by its name
pub field_at : (fs : List FieldDeclared) (x : List ℕ) (u : Typ) → field_typ fs x ≡ Some u → shape_at (shapes_of (types_of_fields fs)) (field_number fs x) ≡ Some u
field_at [] x u e = absurd (cc)
field_at (f ∷ fs) x u e = by (bytes_eq f.name x) e (field_at fs x u)
  where
    by : (b : Bool) → (if b then Some f.typ else field_typ fs x) ≡ Some u → (field_typ fs x ≡ Some u → shape_at (shapes_of (types_of_fields fs)) (field_number fs x) ≡ Some u)
        → shape_at (shapes_of (types_of_fields (f ∷ fs))) (if b then zero else suc (field_number fs x)) ≡ Some u
    by true e g = e
    by false e g = g e

item_field : (o : Option Declared) (x : List ℕ) (u : Typ) → field_typ (fields_declared o) x ≡ Some u → item_behind o (step.Field (field_number (fields_declared o) x)) ≡ Some u
item_field None x u e = absurd (cc)
item_field (Some rt_declared) x u e = absurd (cc)
item_field (Some (struct_declared c l fs)) x u e = field_at fs x u e
item_field (Some (enum_declared c l vs)) x u e = absurd (cc)
item_field (Some (function_declared ps t)) x u e = absurd (cc)

pub field_is : (D : Declarations) (t : Typ) (x : List ℕ) (u : Typ) → field_of (λ k. k) D x t ≡ Some u → typ_behind D t (step.Field (elaborated.field_in D t x)) ≡ Some u
field_is D (integer j) x u e = absurd (cc)
field_is D boolean x u e = absurd (cc)
field_is D (tuple_of ts) x u e = absurd (cc)
field_is D (reference m t) x u e = absurd (cc)
field_is D (types.named i) x u e = item_field (slice_get D i) x u (fixed_same (field_typ (fields_declared (slice_get D i)) x) u e)

pub pointee_is : (D : Declarations) (t u : Typ) → pointee t ≡ Some u → typ_along D t (elaborated.dereference t) ≡ Some u
pointee_is D (integer j) u e = absurd (cc)
pointee_is D boolean u e = absurd (cc)
pointee_is D (tuple_of ts) u e = absurd (cc)
pointee_is D (reference m t) u e = e
pointee_is D (types.named i) u e = absurd (cc)

-- a part of a variant
item_variant : (o : Option Declared) (v k : ℕ) (u : Typ) → slice_get (parts_declared (slice_get (variants_declared o) v)) k ≡ Some u → (t : Typ) × (item_behind o (step.Variant v) ≡ Some t) × (part_of k t ≡ Some u)
item_variant None v k u e = absurd (cc)
item_variant (Some rt_declared) v k u e = absurd (cc)
item_variant (Some (struct_declared c l fs)) v k u e = absurd (cc)
item_variant (Some (enum_declared c l vs)) v k u e = by (slice_get vs v) e
  where
    listed_same : (ts : List Typ) → slice_get ts k ≡ Some u → slice_get (shapes_listed (shapes_of ts)) k ≡ Some u
    listed_same ts e = subst (λ (l : List Typ). slice_get l k ≡ Some u) (sym (same ts)) e
      where
        same : (ts : List Typ) → shapes_listed (shapes_of ts) ≡ ts
        same [] = refl
        same (t ∷ ts) = ap (λ (l : List Typ). t ∷ l) (same ts)

    by : (o : Option VariantDeclared) → slice_get (parts_declared o) k ≡ Some u → (t : Typ) × (parts_behind o ≡ Some t) × (part_of k t ≡ Some u)
    by None e = absurd (cc)
    by (Some d) e = (tuple_of (shapes_of d.parts), refl, listed_same d.parts e)
item_variant (Some (function_declared ps t)) v k u e = absurd (cc)

pub variant_part_is : (D : Declarations) (i v k : ℕ) (u : Typ) → fixed (λ k. k) (slice_get (variant_parts D i v) k) ≡ Some u → typ_along D (types.named i) (step.Variant v ∷ step.Field k ∷ []) ≡ Some u
variant_part_is D i v k u e =
    let h = item_variant (slice_get D i) v k u (fixed_same (slice_get (variant_parts D i v) k) u e) in
    goes_on D (types.named i) h.0 (step.Variant v) (step.Field k ∷ []) h.1 ∙ along_one D h.0 u (step.Field k) (part_is D h.0 k u h.2)

-- a step behind the references of a type
pub peeled_step : (D : Declarations) (t : Typ) (s : Step) (u : Typ) → typ_behind D (peeled t) s ≡ Some u → typ_along D t (elaborated.dereferences t ++ s ∷ []) ≡ Some u
peeled_step D t s u e = along_append D t (peeled t) (elaborated.dereferences t) (s ∷ []) (peels D t) ∙ along_one D (peeled t) u s e

-- ---- lists that are the same

pub same_lists : (a b : List Typ) → ((i : ℕ) → slice_get a i ≡ slice_get b i) → a ≡ b
same_lists [] [] f = refl
same_lists [] (u ∷ b) f = absurd (let e : ◌≡◌ {A = Option Typ} None (Some u) = f 0 in cc)
same_lists (t ∷ a) [] f = absurd (let e : ◌≡◌ {A = Option Typ} (Some t) None = f 0 in cc)
same_lists (t ∷ a) (u ∷ b) f = ap (λ (z : Typ). z ∷ a) (some_same t u (f 0)) ∙ ap (λ (l : List Typ). u ∷ l) (same_lists a b (λ i. f (suc i)))
