-- Types without references have none in their parts either, and each part has a value.
use Rattle.std.proofs.Common.{◌≡◌, ℕ, zero, suc, ◌<◌, Bool, true, pos, List, [], ◌∷◌, ◌++◌, length, Option, Some, None, slice_get, refl, sym, ap, ◌∙◌, subst, arith}
use Rattle.rx_core.specs.declared.types.Kind.{Kind}
use Rattle.rx_core.specs.declared.types.Step.{Step}
use Rattle.rx_core.specs.declared.types.Step.TheVariants as step
use Rattle.rx_typed.specs.Types as types
use Rattle.rx_typed.specs.Types.{Typ, Shapes, integer, boolean, tuple_of, reference, no_shape, shape_and, shapes_of, shapes_listed, FieldDeclared, VariantDeclared, Declared, Declarations, rt_declared, struct_declared, enum_declared, function_declared, fields_declared, variants_declared, parts_declared, variant_parts}
use Rattle.rx_typed_declarations.specs.Held.{field_types, variant_types}
use Rattle.rx_cover.specs.Values as covering
use Rattle.rx_cover.specs.Values.{is_struct}
use Rattle.rx_cover.specs.Finite.{held_at, Each, EachOf, Within, Finite}
use Rattle.rx_meaning.specs.Values.{and_then}
use Rattle.rx_meaning_typed.specs.TypedActs.{shape_at, types_of_fields, parts_behind, item_behind, typ_behind, typ_along}
use Rattle.rx_meaning_typed.specs.NoReferences.{HasNoReference}
use Rattle.rx_meaning_covered.specs.Ranged.{IsInhabited}
use Rattle.rx_meaning_covered.proofs.Filling.{fields_listed, parts_listed}
use Rattle.rx_repair.proofs.Settling.{NotLent}
use Rattle.rx_meaning_sound.specs.Plain.{HasAlternative, IsPlain, ArePlain, EachPlain, VariantsPlain, ItemPlain, ItemsPlain}

pub plain_not_lent : (D : Declarations) (t : Typ) → IsPlain D t → NotLent t
plain_not_lent D (integer k) h = tt
plain_not_lent D boolean h = tt
plain_not_lent D (tuple_of ts) h = tt
plain_not_lent D (reference m t) h = absurd h
plain_not_lent D (types.named i) h = tt

some_same : (t u : Typ) → ◌≡◌ {A = Option Typ} (Some t) (Some u) → t ≡ u
some_same t u e = cc

shape_plain : (D : Declarations) (ts : Shapes Kind) (i : ℕ) (u : Typ) → ArePlain D ts → shape_at ts i ≡ Some u → IsPlain D u
shape_plain D no_shape i u h e = absurd (cc)
shape_plain D (shape_and t ts) zero u h e = subst (λ (z : Typ). IsPlain D z) (some_same t u e) h.0
shape_plain D (shape_and t ts) (suc i) u h e = shape_plain D ts i u h.1 e

list_plain : (D : Declarations) (ts : List Typ) → EachPlain D ts → ArePlain D (shapes_of ts)
list_plain D [] h = tt
list_plain D (t ∷ ts) h = (h.0, list_plain D ts h.1)

item_at : (D : Declarations) (ds : List Declared) (i : ℕ) (d : Declared) → ItemsPlain D ds → slice_get ds i ≡ Some d → ItemPlain D d
item_at D [] i d h e = absurd (cc)
item_at D (x ∷ ds) zero d h e = subst (λ (z : Declared). ItemPlain D z) (let q : x ≡ d = cc in q) h.0
item_at D (x ∷ ds) (suc i) d h e = item_at D ds i d h.1 e

variant_plain : (D : Declarations) (vs : List VariantDeclared) (v : ℕ) (u : Typ) → VariantsPlain D vs → parts_behind (slice_get vs v) ≡ Some u → IsPlain D u
variant_plain D [] v u h e = absurd (cc)
variant_plain D (x ∷ vs) zero u h e = subst (λ (z : Typ). IsPlain D z) (some_same (tuple_of (shapes_of x.parts)) u e) (list_plain D x.parts h.0)
variant_plain D (x ∷ vs) (suc v) u h e = variant_plain D vs v u h.1 e

module _ (D : Declarations) (declared : ItemsPlain D D) where
  part_plain : (o : Option Declared) (s : Step) (u : Typ) → ((d : Declared) → o ≡ Some d → ItemPlain D d) → item_behind o s ≡ Some u → IsPlain D u
  part_plain None s u h e = absurd (cc)
  part_plain (Some rt_declared) s u h e = absurd (cc)
  part_plain (Some (struct_declared c l fs)) (step.Field i) u h e = shape_plain D (shapes_of (types_of_fields fs)) i u (list_plain D (types_of_fields fs) (h (struct_declared c l fs) refl)) e
  part_plain (Some (struct_declared c l fs)) (step.Variant v) u h e = absurd (cc)
  part_plain (Some (struct_declared c l fs)) (step.Deref m) u h e = absurd (cc)
  part_plain (Some (enum_declared c l vs)) (step.Field i) u h e = absurd (cc)
  part_plain (Some (enum_declared c l vs)) (step.Variant v) u h e = variant_plain D vs v u (h (enum_declared c l vs) refl) e
  part_plain (Some (enum_declared c l vs)) (step.Deref m) u h e = absurd (cc)
  part_plain (Some (function_declared ps t)) s u h e = absurd (cc)

  behind_plain : (t u : Typ) (s : Step) → IsPlain D t → typ_behind D t s ≡ Some u → IsPlain D u
  behind_plain (integer k) u s h e = absurd (cc)
  behind_plain boolean u s h e = absurd (cc)
  behind_plain (tuple_of ts) u (step.Field i) h e = shape_plain D ts i u h e
  behind_plain (tuple_of ts) u (step.Variant v) h e = absurd (cc)
  behind_plain (tuple_of ts) u (step.Deref m) h e = absurd (cc)
  behind_plain (reference m t) u s h e = absurd h
  behind_plain (types.named i) u s h e = part_plain (slice_get D i) s u (λ d q. item_at D D i d declared q) e

  along_plain : (t u : Typ) (ss : List Step) → IsPlain D t → typ_along D t ss ≡ Some u → IsPlain D u
  along_plain t u [] h e = subst (λ (z : Typ). IsPlain D z) (some_same t u e) h
  along_plain t u (s ∷ ss) h e = by (typ_behind D t s) refl e (λ v g k. along_plain v u ss g k)
    where
      by : (o : Option Typ) → typ_behind D t s ≡ o → and_then o (λ v. typ_along D v ss) ≡ Some u → ((v : Typ) → IsPlain D v → typ_along D v ss ≡ Some u → IsPlain D u) → IsPlain D u
      by None q e f = absurd (cc)
      by (Some v) q e f = f v (behind_plain t v s h q) e

  pub plain_free : (t : Typ) → IsPlain D t → HasNoReference D t
  plain_free t h ss m u e = along_plain t (reference m u) ss h e

  -- ---- values

  fields_same : (fs : List FieldDeclared) → types_of_fields fs ≡ field_types fs
  fields_same fs = sym (parts_listed (types_of_fields fs)) ∙ fields_listed fs

  front_of : (P : ℕ → Type 0) (a b : List Typ) → EachOf P (shapes_of (a ++ b)) → EachOf P (shapes_of a)
  front_of P [] b h = tt
  front_of P (t ∷ a) b h = (h.0, front_of P a b h.1)

  abbrev Valued : Typ → Type 0
  Valued t = (c : covering.Value) × covering.IsOfType D t c

  abbrev AllValued : List Typ → Type 0
  AllValued ts = (cs : covering.Values) × covering.AreOfTypes D ts cs

  struct_valued : (i : ℕ) (c : Bool) (l : ℕ) (fs : List FieldDeclared) → slice_get D i ≡ Some (struct_declared c l fs) → AllValued (field_types fs) → Valued (types.named i)
  struct_valued i c l fs q h = (covering.made i h.0, (refl, ap is_struct q, subst (λ (o : Option Declared). covering.AreOfTypes D (field_types (fields_declared o)) h.0) (sym q) h.1))

  enum_valued : (i : ℕ) (c : Bool) (l : ℕ) (v : VariantDeclared) (vs : List VariantDeclared) → slice_get D i ≡ Some (enum_declared c l (v ∷ vs)) → AllValued v.parts → Valued (types.named i)
  enum_valued i c l v vs q h = (
    covering.variant i 0 h.0,
    (
      refl,
      subst (λ (o : Option Declared). 0 < length (variants_declared o)) (sym q) (omega arith),
      subst (λ (o : Option Declared). covering.AreOfTypes D (parts_declared (slice_get (variants_declared o) 0)) h.0) (sym q) h.1,
    ),
  )

  nothing_in : (k : Kind) → covering.InKind k (pos 0)
  nothing_in Kind.U8 = omega arith
  nothing_in Kind.U32 = omega arith
  nothing_in Kind.U64 = omega arith
  nothing_in Kind.I32 = omega arith
  nothing_in Kind.I64 = omega arith

  -- a type has a value where its structs and enums do
  module _ (P : ℕ → Type 0) (of_item : (i : ℕ) → P i → HasAlternative (slice_get D i) → Valued (types.named i)) where
    mutual
      valued : (t : Typ) → Each P t → IsPlain D t → Valued t
      valued (integer k) w h = (covering.number (pos 0), nothing_in k)
      valued boolean w h = (covering.truth true, tt)
      valued (tuple_of ts) w h = let x = all_valued ts w h in (covering.tuple x.0, x.1)
      valued (reference m t) w h = absurd h
      valued (types.named i) w h = of_item i w h

      all_valued : (ts : Shapes Kind) → EachOf P ts → ArePlain D ts → AllValued (shapes_listed ts)
      all_valued no_shape w h = (covering.no_value, tt)
      all_valued (shape_and t ts) w h = let x = valued t w.0 h.0 in let y = all_valued ts w.1 h.1 in (covering.value_and x.0 y.0, (x.1, y.1))

    what_is_declared : (i : ℕ) (o : Option Declared) → slice_get D i ≡ o → EachOf P (shapes_of (held_at o)) → HasAlternative o → Valued (types.named i)
    what_is_declared i None q w h = absurd h
    what_is_declared i (Some rt_declared) q w h = absurd h
    what_is_declared i (Some (struct_declared c k fs)) q w h =
        let x = all_valued (shapes_of (types_of_fields fs)) (subst (λ (ts : List Typ). EachOf P (shapes_of ts)) (sym (fields_same fs)) w) (list_plain D (types_of_fields fs) (item_at D D i (struct_declared c k fs) declared q)) in
        struct_valued i c k fs q (x.0, subst (λ (ts : List Typ). covering.AreOfTypes D ts x.0) (fields_listed fs) x.1)
    what_is_declared i (Some (enum_declared c k [])) q w h = absurd h
    what_is_declared i (Some (enum_declared c k (v ∷ vs))) q w h =
        let g = item_at D D i (enum_declared c k (v ∷ vs)) declared q in
        let x = all_valued (shapes_of v.parts) (front_of P v.parts (variant_types vs) w) (list_plain D v.parts g.0) in
        enum_valued i c k v vs q (x.0, subst (λ (ts : List Typ). covering.AreOfTypes D ts x.0) (parts_listed v.parts) x.1)
    what_is_declared i (Some (function_declared ps t)) q w h = absurd h

  -- structs and enums that end within so many levels have one
  item_valued : (l i : ℕ) → Within D l i → HasAlternative (slice_get D i) → Valued (types.named i)
  item_valued zero i w h = absurd w
  item_valued (suc l) i w h = what_is_declared (Within D l) (item_valued l) i (slice_get D i) refl w h

  mutual
    each_within : (l : ℕ) → ((i : ℕ) → Within D l i) → (t : Typ) → Each (Within D l) t
    each_within l f (integer k) = tt
    each_within l f boolean = tt
    each_within l f (tuple_of ts) = all_within l f ts
    each_within l f (reference m t) = each_within l f t
    each_within l f (types.named i) = f i

    all_within : (l : ℕ) → ((i : ℕ) → Within D l i) → (ts : Shapes Kind) → EachOf (Within D l) ts
    all_within l f no_shape = tt
    all_within l f (shape_and t ts) = (each_within l f t, all_within l f ts)

  pub plain_inhabited : Finite D → (t : Typ) → IsPlain D t → IsInhabited D t
  plain_inhabited finite t h ss u e = valued (Within D (suc (length D))) (item_valued (suc (length D))) u (each_within (suc (length D)) finite.each u) (along_plain t u ss h e)
