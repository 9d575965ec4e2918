-- Parts of values that are of a type are of the types of its parts, and a part that is replaced by one of its type leaves the whole of its type.
use Rattle.std.proofs.Common.{◌≡◌, ℕ, zero, suc, Bool, true, false, nat_eq, List, [], ◌∷◌, ◌++◌, Option, Some, None, refl, sym, ap, subst, ◌∙◌, eqb-true, if◌then◌else◌}
use Rattle.std.specs.Prelude.{slice_get}
use Rattle.rx_core.specs.declared.types.Kind.{Kind}
use Rattle.rx_core.specs.declared.types.Step.{Step}
use Rattle.rx_typed.specs.Types.{Typ, Shapes, tuple_of, reference, named, shapes_of, Declared, VariantDeclared, Declarations, struct_declared, enum_declared}
use Rattle.rx_meaning.specs.Values.{Value, Values, whole, tagged, pointer, lacking, no_value, value_and, and_then, field, with_field, part, with_part, get, put}
use Rattle.rx_meaning_typed.specs.TypedActs.{shape_at, types_of_fields, parts_behind, item_behind, typ_behind, typ_along}
use Rattle.rx_meaning_typed.specs.ValueTypes.{Store, HasType, of_number, of_truth, of_tuple, of_struct, of_enum, of_reference, of_lack, HaveTypes, none_typed, each_typed}

pub some_is : {A : Type 0} {a b : A} → Some a ≡ Some b → a ≡ b
some_is h = cc

-- what comes of two steps came by both
pub split : {A B : Type 0} (o : Option A) (go : A → Option B) (b : B) → and_then o go ≡ Some b → (a : A) × (o ≡ Some a) × (go a ≡ Some b)
split None go b e = absurd (cc)
split (Some a) go b e = (a, refl, e)

module _ (L : Bool) (D : Declarations) (S : Store) where
  pub typed_at : (v w : Value) (t u : Typ) → v ≡ w → t ≡ u → HasType L D S v t → HasType L D S w u
  typed_at v w t u e g h = subst (λ z. HasType L D S w z) g (subst (λ z. HasType L D S z t) e h)

  pub fields_typed : {vs : Values} {ts : Shapes Kind} → HaveTypes L D S vs ts → (i : ℕ) (v : Value) (t : Typ) → field vs i ≡ Some v → shape_at ts i ≡ Some t → HasType L D S v t
  fields_typed none_typed i v t e g = absurd (cc)
  fields_typed (each_typed {v = w} {t = u} h hs) zero v t e g = typed_at w v u t (some_is e) (some_is g) h
  fields_typed (each_typed h hs) (suc i) v t e g = fields_typed hs i v t e g

  with_typed : {vs : Values} {ts : Shapes Kind} → HaveTypes L D S vs ts → (i : ℕ) (w : Value) (t : Typ) → shape_at ts i ≡ Some t → HasType L D S w t → HaveTypes L D S (with_field vs i w) ts
  with_typed none_typed i w t e h = none_typed
  with_typed (each_typed {t = u} x hs) zero w t e h = each_typed (subst (λ z. HasType L D S w z) (sym (some_is e)) h) hs
  with_typed (each_typed x hs) (suc i) w t e h = each_typed x (with_typed hs i w t e h)

  -- the parts of a variant
  variant_typ : (i v : ℕ) (c : Bool) (l : ℕ) (ds : List VariantDeclared) (d : VariantDeclared) (j : ℕ) (U : Typ) → slice_get D i ≡ Some (enum_declared c l ds) → slice_get ds v ≡ Some d → v ≡ j → typ_behind D (named i) (Step.Variant j) ≡ Some U
      → tuple_of (shapes_of d.parts) ≡ U
  variant_typ i v c l ds d j U e f q g =
      some_is (sym (ap parts_behind f) ∙ (ap (λ z. parts_behind (slice_get ds z)) q ∙ subst (λ z. item_behind z (Step.Variant j) ≡ Some U) e g))

  pub part_typed : {v : Value} {t : Typ} → HasType L D S v t → (s : Step) (u : Value) (U : Typ) → typ_behind D t s ≡ Some U → part v s ≡ Some u → HasType L D S u U
  part_typed of_number s u U g e = absurd (cc)
  part_typed of_truth s u U g e = absurd (cc)
  part_typed (of_tuple h) (Step.Field i) u U g e = fields_typed h i u U e g
  part_typed (of_tuple h) (Step.Variant j) u U g e = absurd (cc)
  part_typed (of_tuple h) (Step.Deref m) u U g e = absurd (cc)
  part_typed (of_struct d h) (Step.Field i) u U g e = fields_typed h i u U e (subst (λ z. item_behind z (Step.Field i) ≡ Some U) d g)
  part_typed (of_struct d h) (Step.Variant j) u U g e = absurd (cc)
  part_typed (of_struct d h) (Step.Deref m) u U g e = absurd (cc)
  part_typed (of_enum d f h) (Step.Field i) u U g e = absurd (cc)
  part_typed (of_enum {i = i} {v = v} {l = l} {c = c} {ds = ds} {d = x} {vs = vs} d f h) (Step.Variant j) u U g e = by (nat_eq v j) refl e
    where
      by : (b : Bool) → nat_eq v j ≡ b → (if b then Some (whole vs) else None) ≡ Some u → HasType L D S u U
      by true q p = typed_at (whole vs) u (tuple_of (shapes_of x.parts)) U (some_is p) (variant_typ i v c l ds x j U d f (eqb-true v j q) g) (of_tuple h)
      by false q p = absurd (cc)
  part_typed (of_enum d f h) (Step.Deref m) u U g e = absurd (cc)
  part_typed (of_reference a b c) s u U g e = absurd (cc)
  part_typed of_lack s u U g e = absurd (cc)

  pub get_typed : (ss : List Step) (v : Value) (t : Typ) (u : Value) (U : Typ) → HasType L D S v t → typ_along D t ss ≡ Some U → get ss v ≡ Some u → HasType L D S u U
  get_typed [] v t u U h g e = typed_at v u t U (some_is e) (some_is g) h
  get_typed (s ∷ ss) v t u U h g e =
      let a = split (typ_behind D t s) (λ z. typ_along D z ss) U g in let b = split (part v s) (λ z. get ss z) u e in
      get_typed ss b.0 a.0 u U (part_typed h s b.0 a.0 a.1 b.1) a.2 b.2

  -- a whole of a tuple's type
  wholes_typed : {ws : Values} {ts : Shapes Kind} → HasType L D S (whole ws) (tuple_of ts) → HaveTypes L D S ws ts
  wholes_typed (of_tuple h) = h

  -- another value in a part
  replaced : {v : Value} {t : Typ} → HasType L D S v t → (s : Step) (x y u : Value) (U : Typ) → typ_behind D t s ≡ Some U → part v s ≡ Some u → HasType L D S x U → with_part v s x ≡ Some y → HasType L D S y t
  replaced of_number s x y u U g e h p = absurd (cc)
  replaced of_truth s x y u U g e h p = absurd (cc)
  replaced (of_tuple {vs = vs} {ts = ts} k) (Step.Field i) x y u U g e h p = subst (λ z. HasType L D S z (tuple_of ts)) (some_is p) (of_tuple (with_typed k i x U g h))
  replaced (of_tuple k) (Step.Variant j) x y u U g e h p = absurd (cc)
  replaced (of_tuple k) (Step.Deref m) x y u U g e h p = absurd (cc)
  replaced (of_struct {i = n} d k) (Step.Field i) x y u U g e h p =
      subst (λ z. HasType L D S z (named n)) (some_is p) (of_struct d (with_typed k i x U (subst (λ z. item_behind z (Step.Field i) ≡ Some U) d g) h))
  replaced (of_struct d k) (Step.Variant j) x y u U g e h p = absurd (cc)
  replaced (of_struct d k) (Step.Deref m) x y u U g e h p = absurd (cc)
  replaced (of_enum d f k) (Step.Field i) x y u U g e h p = absurd (cc)
  replaced (of_enum {i = i} {v = v} {l = l} {c = c} {ds = ds} {d = q} {vs = vs} d f k) (Step.Variant j) x y u U g e h p = by (nat_eq v j) refl e
    where
      put_in : v ≡ j → (x : Value) → HasType L D S x U → with_part (tagged v vs) (Step.Variant j) x ≡ Some y → HasType L D S y (named i)
      put_in r (whole ws) h p = subst (λ z. HasType L D S z (named i)) (some_is p) (of_enum d f (wholes_typed (subst (λ z. HasType L D S (whole ws) z) (sym (variant_typ i v c l ds q j U d f r g)) h)))
      put_in r (_) h p = absurd (cc)

      by : (b : Bool) → nat_eq v j ≡ b → (if b then Some (whole vs) else None) ≡ Some u → HasType L D S y (named i)
      by true r o = put_in (eqb-true v j r) x h p
      by false r o = absurd (cc)
  replaced (of_enum d f k) (Step.Deref m) x y u U g e h p = absurd (cc)
  replaced (of_reference a b c) s x y u U g e h p = absurd (cc)
  replaced of_lack s x y u U g e h p = absurd (cc)

  pub put_typed : (ss : List Step) (w v : Value) (t U : Typ) (y : Value) → HasType L D S v t → typ_along D t ss ≡ Some U → HasType L D S w U → put ss w v ≡ Some y → HasType L D S y t
  put_typed [] w v t U y h g k e = typed_at w y U t (some_is e) (sym (some_is g)) k
  put_typed (s ∷ ss) w v t U y h g k e =
      let a = split (typ_behind D t s) (λ z. typ_along D z ss) U g in let b = split (part v s) (λ u. and_then (put ss w u) (λ x. with_part v s x)) y e in
      let c = split (put ss w b.0) (λ x. with_part v s x) y b.2 in
      replaced h s c.0 y b.0 a.0 a.1 b.1 (put_typed ss w b.0 a.0 U c.0 (part_typed h s b.0 a.0 a.1 b.1) a.2 k c.1) c.2
