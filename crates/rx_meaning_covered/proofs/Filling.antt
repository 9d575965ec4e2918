-- A value of the meaning as one of the coverage, with a value where one is lacking.
use Rattle.std.specs.Prelude.{slice_get, ◌<◌, ℤ}
use Rattle.std.proofs.Common.{◌≡◌, ℕ, zero, suc, Bool, true, false, nat_eq, List, [], ◌∷◌, length, Option, Some, None, refl, sym, subst, ap, ◌∙◌, arith, if◌then◌else◌, eqb-true}
use Rattle.rx_core.specs.declared.types.Kind.{Kind}
use Rattle.rx_core.specs.declared.types.Step.{Step}
use Rattle.rx_typed.specs.Types.{Typ, Shapes, integer, boolean, tuple_of, reference, named, no_shape, shape_and, shapes_of, shapes_listed, FieldDeclared, VariantDeclared, Declared, Declarations, rt_declared, struct_declared, enum_declared, function_declared, fields_declared, variants_declared, parts_declared, variant_parts}
use Rattle.rx_typed_declarations.specs.Held.{field_types}
use Rattle.rx_meaning.specs.Values.{Value, Values, number, truth, whole, tagged, lacking, Lack, no_value, value_and, and_then, field, part}
use Rattle.rx_cover.specs.Values as covering
use Rattle.rx_cover.specs.Values.{InKind, is_struct}
use Rattle.rx_meaning_typed.specs.TypedActs.{shape_at, types_of_fields, parts_behind, item_behind, typ_behind, typ_along}
use Rattle.rx_meaning_typed.specs.ValueTypes.{Store, HasType, of_number, of_truth, of_tuple, of_struct, of_enum, of_reference, of_lack, HaveTypes, none_typed, each_typed}
use Rattle.rx_meaning_typed.specs.NoReferences.{HasNoReference}
use Rattle.rx_meaning_typed.proofs.Parts.{some_is}
use Rattle.rx_meaning_covered.specs.Ranged.{IsRanged, AreRanged, IsInhabited}
use Rattle.rx_meaning_covered.proofs.Sound.{free_below}
use Rattle.rx_meaning_covered.proofs.Ranging.{kind_of}

mutual
  pub data Filled (D : Declarations) : Value → Typ → covering.Value → Type 0 where
    as_number : {k : Kind} {z : ℤ} → Filled D (number k z) (integer k) (covering.number z)
    as_truth : {b : Bool} → Filled D (truth b) boolean (covering.truth b)
    as_tuple : {vs : Values} {ts : Shapes Kind} {cs : covering.Values} → AllFilled D vs ts cs → Filled D (whole vs) (tuple_of ts) (covering.tuple cs)
    as_struct : {i l : ℕ} {c : Bool} {fs : List FieldDeclared} {vs : Values} {cs : covering.Values} → slice_get D i ≡ Some (struct_declared c l fs) → AllFilled D vs (shapes_of (types_of_fields fs)) cs
        → Filled D (whole vs) (named i) (covering.made i cs)
    as_variant : {i v l : ℕ} {c : Bool} {ds : List VariantDeclared} {d : VariantDeclared} {vs : Values} {cs : covering.Values} → slice_get D i ≡ Some (enum_declared c l ds) → slice_get ds v ≡ Some d
        → AllFilled D vs (shapes_of d.parts) cs → Filled D (tagged v vs) (named i) (covering.variant i v cs)
    as_lack : {l : Lack} {t : Typ} {c : covering.Value} → Filled D (lacking l) t c

  pub data AllFilled (D : Declarations) : Values → Shapes Kind → covering.Values → Type 0 where
    none_filled : AllFilled D no_value no_shape covering.no_value
    each_filled : {v : Value} {vs : Values} {t : Typ} {ts : Shapes Kind} {c : covering.Value} {cs : covering.Values} → Filled D v t c → AllFilled D vs ts cs → AllFilled D (value_and v vs) (shape_and t ts) (covering.value_and c cs)

-- ---- types by their items

pub fields_listed : (fs : List FieldDeclared) → shapes_listed (shapes_of (types_of_fields fs)) ≡ field_types fs
fields_listed [] = refl
fields_listed (f ∷ fs) = ap (λ z. f.typ ∷ z) (fields_listed fs)

pub parts_listed : (ts : List Typ) → shapes_listed (shapes_of ts) ≡ ts
parts_listed [] = refl
parts_listed (t ∷ ts) = ap (λ z. t ∷ z) (parts_listed ts)

slice_less : {A : Type 0} (l : List A) (i : ℕ) (a : A) → slice_get l i ≡ Some a → i < length l
slice_less [] i a e = absurd (cc)
slice_less (b ∷ l) zero a e = omega arith
slice_less (b ∷ l) (suc i) a e = let h = slice_less l i a e in omega (arith, h)

-- ---- a value for each

-- of each of these types
abbrev AllGood : Declarations → Shapes Kind → Type 0
AllGood D ts = (i : ℕ) (u : Typ) → shape_at ts i ≡ Some u → HasNoReference D u × IsInhabited D u

inhabited_below : (D : Declarations) (t u : Typ) (s : Step) → typ_behind D t s ≡ Some u → IsInhabited D t → IsInhabited D u
inhabited_below D t u s e h rs x g = h (s ∷ rs) x (subst (λ z. and_then z (λ y. typ_along D y rs) ≡ Some x) (sym e) g)

good_below : (D : Declarations) (t u : Typ) (s : Step) → typ_behind D t s ≡ Some u → HasNoReference D t × IsInhabited D t → HasNoReference D u × IsInhabited D u
good_below D t u s e h = (free_below D t u s e h.0, inhabited_below D t u s e h.1)

module _ (L : Bool) (D : Declarations) (S : Store) where
  mutual
    pub filled : {v : Value} {t : Typ} → HasType L D S v t → IsRanged v → HasNoReference D t × IsInhabited D t → (c : covering.Value) × covering.IsOfType D t c × Filled D v t c
    filled (of_number {k = k} {z = z}) r g = (covering.number z, kind_of k z r, as_number)
    filled (of_truth {b = b}) r g = (covering.truth b, tt, as_truth)
    filled (of_tuple {ts = ts} h) r g = let a = all_filled h r (λ i u e. good_below D (tuple_of ts) u (Step.Field i) e g) in (covering.tuple a.0, a.1, as_tuple a.2)
    filled (of_struct {i = i} {fs = fs} d h) r g =
        let a = all_filled h r (λ j u e. good_below D (named i) u (Step.Field j) (subst (λ z. item_behind z (Step.Field j) ≡ Some u) (sym d) e) g) in
        (covering.made i a.0, (refl, subst (λ z. is_struct z ≡ true) (sym d) refl, subst (λ z. covering.AreOfTypes D (field_types (fields_declared z)) a.0) (sym d) (subst (λ z. covering.AreOfTypes D z a.0) (fields_listed fs) a.1)), as_struct d a.2)
    filled (of_enum {i = i} {v = v} {ds = ds} {d = x} d f h) r g =
        let e1 = subst (λ z. item_behind z (Step.Variant v) ≡ Some (tuple_of (shapes_of x.parts))) (sym d) (ap parts_behind f) in
        let g1 = good_below D (named i) (tuple_of (shapes_of x.parts)) (Step.Variant v) e1 g in
        let a = all_filled h r (λ j u e. good_below D (tuple_of (shapes_of x.parts)) u (Step.Field j) e g1) in (
          covering.variant i v a.0,
          (
            refl,
            subst (λ z. v < length (variants_declared z)) (sym d) (slice_less ds v x f),
            subst (λ z. covering.AreOfTypes D (parts_declared (slice_get (variants_declared z) v)) a.0) (sym d)
                (subst (λ z. covering.AreOfTypes D (parts_declared z) a.0) (sym f) (subst (λ z. covering.AreOfTypes D z a.0) (parts_listed x.parts) a.1)),
          ),
          as_variant d f a.2,
        )
    filled (of_reference {k = k} {u = u} a b c) r g = absurd (g.0 [] k u refl)
    filled (of_lack {t = t}) r g = let a = g.1 [] t refl in (a.0, a.1, as_lack)

    all_filled : {vs : Values} {ts : Shapes Kind} → HaveTypes L D S vs ts → AreRanged vs → AllGood D ts → (cs : covering.Values) × covering.AreOfTypes D (shapes_listed ts) cs × AllFilled D vs ts cs
    all_filled none_typed r g = (covering.no_value, tt, none_filled)
    all_filled (each_typed {t = t} h hs) r g = let a = filled h r.0 (g 0 t refl) in let b = all_filled hs r.1 (λ i u e. g (suc i) u e) in (covering.value_and a.0 b.0, (a.1, b.1), each_filled a.2 b.2)

-- ---- parts

abbrev pub part_at : covering.Values → ℕ → Option covering.Value
part_at covering.no_value i = None
part_at (covering.value_and c cs) zero = Some c
part_at (covering.value_and c cs) (suc i) = part_at cs i

abbrev pub parts_in : covering.Value → covering.Values
parts_in (covering.tuple cs) = cs
parts_in (covering.made i cs) = cs
parts_in (covering.variant i k cs) = cs
parts_in _ = covering.no_value

listed_part : (D : Declarations) (ts : Shapes Kind) (cs : covering.Values) → covering.AreOfTypes D (shapes_listed ts) cs → (i : ℕ) (u : Typ) → shape_at ts i ≡ Some u → (d : covering.Value) × (part_at cs i ≡ Some d) × covering.IsOfType D u d
listed_part D no_shape cs h i u e = absurd (cc)
listed_part D (shape_and t ts) covering.no_value h i u e = absurd h
listed_part D (shape_and t ts) (covering.value_and c cs) h zero u e = (c, refl, subst (λ z. covering.IsOfType D z c) (some_is e) h.0)
listed_part D (shape_and t ts) (covering.value_and c cs) h (suc i) u e = listed_part D ts cs h.1 i u e

item_part : (D : Declarations) (o : Option Declared) (cs : covering.Values) → is_struct o ≡ true → covering.AreOfTypes D (field_types (fields_declared o)) cs → (i : ℕ) (u : Typ) → item_behind o (Step.Field i) ≡ Some u
    → (d : covering.Value) × (part_at cs i ≡ Some d) × covering.IsOfType D u d
item_part D (Some (struct_declared c l fs)) cs s h i u e = listed_part D (shapes_of (types_of_fields fs)) cs (subst (λ z. covering.AreOfTypes D z cs) (sym (fields_listed fs)) h) i u e
item_part D None cs s h i u e = absurd (cc)
item_part D (Some rt_declared) cs s h i u e = absurd (cc)
item_part D (Some (enum_declared c l vs)) cs s h i u e = absurd (cc)
item_part D (Some (function_declared ps t)) cs s h i u e = absurd (cc)

-- of a tuple or a struct
pub field_part : (D : Declarations) (t : Typ) (c : covering.Value) → covering.IsOfType D t c → (i : ℕ) (u : Typ) → typ_behind D t (Step.Field i) ≡ Some u → (d : covering.Value) × (part_at (parts_in c) i ≡ Some d) × covering.IsOfType D u d
field_part D (tuple_of ts) (covering.tuple cs) h i u e = listed_part D ts cs h i u e
field_part D (named j) (covering.made k cs) h i u e = item_part D (slice_get D j) cs h.1 h.2 i u e
field_part D (named j) (covering.variant k n cs) h i u e = no_struct (slice_get D j) h.1 e
  where
    no_struct : (o : Option Declared) → n < length (variants_declared o) → item_behind o (Step.Field i) ≡ Some u → (d : covering.Value) × (part_at cs i ≡ Some d) × covering.IsOfType D u d
    no_struct (Some (struct_declared c l fs)) g e = absurd (omega (arith, g))
    no_struct (Some (enum_declared c l vs)) g e = absurd (cc)
    no_struct None g e = absurd (cc)
    no_struct (Some rt_declared) g e = absurd (cc)
    no_struct (Some (function_declared ps t)) g e = absurd (cc)
field_part D (integer k) c h i u e = absurd (cc)
field_part D boolean c h i u e = absurd (cc)
field_part D (reference m t) c h i u e = absurd (cc)
field_part D (tuple_of ts) (covering.number z) h i u e = absurd h
field_part D (tuple_of ts) (covering.truth b) h i u e = absurd h
field_part D (tuple_of ts) (covering.made k cs) h i u e = absurd h
field_part D (tuple_of ts) (covering.variant k n cs) h i u e = absurd h
field_part D (tuple_of ts) (covering.pointing d) h i u e = absurd h
field_part D (named j) (covering.number z) h i u e = absurd h
field_part D (named j) (covering.truth b) h i u e = absurd h
field_part D (named j) (covering.tuple cs) h i u e = absurd h
field_part D (named j) (covering.pointing d) h i u e = absurd h

all_filled_part : {D : Declarations} {vs : Values} {ts : Shapes Kind} {cs : covering.Values} → AllFilled D vs ts cs → (i : ℕ) (w : Value) (u : Typ) (d : covering.Value) → field vs i ≡ Some w → shape_at ts i ≡ Some u → part_at cs i ≡ Some d → Filled D w u d
all_filled_part none_filled i w u d e g h = absurd (cc)
all_filled_part {D = D} (each_filled {v = v} {t = t} {c = c} f fs) zero w u d e g h = subst (λ z. Filled D w u z) (some_is h) (subst (λ z. Filled D w z c) (some_is g) (subst (λ z. Filled D z t c) (some_is e) f))
all_filled_part (each_filled f fs) (suc i) w u d e g h = all_filled_part fs i w u d e g h

pub filled_field : {D : Declarations} {v : Value} {t : Typ} {c : covering.Value} → Filled D v t c → (i : ℕ) (w : Value) (u : Typ) (d : covering.Value) → part v (Step.Field i) ≡ Some w → typ_behind D t (Step.Field i) ≡ Some u → part_at (parts_in c) i ≡ Some d → Filled D w u d
filled_field as_number i w u d e g h = absurd (cc)
filled_field as_truth i w u d e g h = absurd (cc)
filled_field (as_tuple a) i w u d e g h = all_filled_part a i w u d e g h
filled_field (as_struct q a) i w u d e g h = all_filled_part a i w u d e (subst (λ z. item_behind z (Step.Field i) ≡ Some u) q g) h
filled_field (as_variant q f a) i w u d e g h = absurd (cc)
filled_field as_lack i w u d e g h = absurd (cc)

-- of a variant: its parts as a tuple
pub filled_variant : {D : Declarations} {v : Value} {t : Typ} {c : covering.Value} → Filled D v t c → (i k : ℕ) (cs : covering.Values) → c ≡ covering.variant i k cs → (w : Value) (u : Typ) → part v (Step.Variant k) ≡ Some w → typ_behind D t (Step.Variant k) ≡ Some u
    → Filled D w u (covering.tuple cs)
filled_variant as_number i k cs q w u e g = absurd (cc)
filled_variant as_truth i k cs q w u e g = absurd (cc)
filled_variant (as_tuple a) i k cs q w u e g = absurd (cc)
filled_variant (as_struct d a) i k cs q w u e g = absurd (cc)
filled_variant {D = D} (as_variant {i = n} {v = v} {ds = ds} {d = x} {vs = vs} {cs = xs} d f a) i k cs q w u e g = by (nat_eq v k) refl e
  where
    parts_are : xs ≡ cs
    parts_are = cc

    typ_is : v ≡ k → tuple_of (shapes_of x.parts) ≡ u
    typ_is r = some_is (sym (ap parts_behind f) ∙ (ap (λ z. parts_behind (slice_get ds z)) r ∙ subst (λ z. item_behind z (Step.Variant k) ≡ Some u) d g))

    by : (b : Bool) → nat_eq v k ≡ b → (if b then Some (whole vs) else None) ≡ Some w → Filled D w u (covering.tuple cs)
    by true r e = subst (λ z. Filled D w u (covering.tuple z)) parts_are (subst (λ z. Filled D w z (covering.tuple xs)) (typ_is (eqb-true v k r)) (subst (λ z. Filled D z (tuple_of (shapes_of x.parts)) (covering.tuple xs)) (some_is e) (as_tuple a)))
    by false r e = absurd (cc)
filled_variant as_lack i k cs q w u e g = absurd (cc)

-- the parts of a variant are of the types that are declared
variant_listed : (D : Declarations) (o : Option VariantDeclared) (cs : covering.Values) (u : Typ) → covering.AreOfTypes D (parts_declared o) cs → parts_behind o ≡ Some u → covering.IsOfType D u (covering.tuple cs)
variant_listed D None cs u h e = absurd (cc)
variant_listed D (Some d) cs u h e = subst (λ z. covering.IsOfType D z (covering.tuple cs)) (some_is e) (subst (λ z. covering.AreOfTypes D z cs) (sym (parts_listed d.parts)) h)

pub variant_part : (D : Declarations) (i k : ℕ) (cs : covering.Values) (u : Typ) → covering.AreOfTypes D (variant_parts D i k) cs → typ_behind D (named i) (Step.Variant k) ≡ Some u → covering.IsOfType D u (covering.tuple cs)
variant_part D i k cs u h e = by (slice_get D i) h e
  where
    by : (o : Option Declared) → covering.AreOfTypes D (parts_declared (slice_get (variants_declared o) k)) cs → item_behind o (Step.Variant k) ≡ Some u → covering.IsOfType D u (covering.tuple cs)
    by (Some (enum_declared c l vs)) h e = variant_listed D (slice_get vs k) cs u h e
    by (Some (struct_declared c l fs)) h e = absurd (cc)
    by None h e = absurd (cc)
    by (Some rt_declared) h e = absurd (cc)
    by (Some (function_declared ps t)) h e = absurd (cc)
