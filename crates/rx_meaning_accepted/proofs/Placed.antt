-- Places by their types: where the steps of a place lead to what has a type, it has a part. A place behind a dereference is told by the
-- reference that it goes through first, which has a type too.
use Rattle.std.proofs.Common.{◌≡◌, ℕ, zero, suc, ◌+◌, ◌<◌, Bool, true, false, nat_le, nat_lt, List, [], ◌∷◌, ◌++◌, Option, Some, None, slice_get, refl, sym, ap, ◌∙◌, subst, append_assoc, arith}
use Rattle.std.specs.Prelude.{if◌then◌else◌}
use Rattle.std.specs.Str.{bytes_eq}
use Rattle.std.proofs.lemmas.Bool.{le-leb, lt-ltb, true≢false, and_from}
use Rattle.rx_core.specs.declared.types.Kind.{Kind}
use Rattle.rx_core.specs.declared.types.Step.{Step}
use Rattle.rx_core.specs.declared.types.Step.TheVariants as step
use Rattle.rx_typed.specs.Types.{Shapes, Typ, integer, boolean, tuple_of, reference, named, shapes_listed, shapes_of, peeled, FieldDeclared, VariantDeclared, Declared, rt_declared, struct_declared, enum_declared, function_declared, Declarations, fields_declared, variants_declared, parts_declared, field_typ, field_number, variant_parts, at_least_one, parts, sum_of_parts}
use Rattle.rx_typed.specs.Tree.{Place, variable, temporary, Temporary, own, temporary_place, under}
use Rattle.rx_typed.specs.Elaborated.{dereferences, field_in}
use Rattle.rx_typed_declarations.specs.Sizes.{Sized, declared_parts}
use Rattle.rx_typed_declarations.specs.Held.{field_types}
use Rattle.rx_facts_tables.specs.Places.{Spot, whole, Located, spot_parts, nth_field, nth_variant, field_of, variant_of, located, Frame, typed_spot, nth_variable, root_at, place_at, spans}
use Rattle.rx_facts_tables.specs.Setting.{is_behind}
use Rattle.rx_facts_tables.specs.Wholes.{placed}
use Rattle.rx_meaning_keeping.specs.Ready.{HasPart}

-- ---- steps

front_of_behind : (a b : List Step) → is_behind (a ++ b) ≡ false → is_behind a ≡ false
front_of_behind [] b h = refl
front_of_behind (step.Field i ∷ a) b h = front_of_behind a b h
front_of_behind (step.Variant v ∷ a) b h = front_of_behind a b h
front_of_behind (step.Deref m ∷ a) b h = h

rest_of_behind : (a b : List Step) → is_behind (a ++ b) ≡ false → is_behind b ≡ false
rest_of_behind [] b h = h
rest_of_behind (step.Field i ∷ a) b h = rest_of_behind a b h
rest_of_behind (step.Variant v ∷ a) b h = rest_of_behind a b h
rest_of_behind (step.Deref m ∷ a) b h = absurd (true≢false h)

two_ways : (D : Declarations) (P : ℕ → ℕ) (a b : List Step) (n : ℕ) (s : Spot) → is_behind a ≡ false → located D P (a ++ b) n s ≡ located D P b (located D P a n s).first (located D P a n s).spot
two_ways D P [] b n s h = refl
two_ways D P (step.Field i ∷ a) b n s h = two_ways D P a b (field_of D P i n s).first (field_of D P i n s).spot h
two_ways D P (step.Variant v ∷ a) b n s h = two_ways D P a b (variant_of D P v n s).first (variant_of D P v n s).spot h
two_ways D P (step.Deref m ∷ a) b n s h = absurd (true≢false h)

-- behind a dereference no step leads on
one_way : (D : Declarations) (P : ℕ → ℕ) (a b : List Step) (n : ℕ) (s : Spot) → is_behind a ≡ true → located D P (a ++ b) n s ≡ located D P a n s
one_way D P [] b n s h = absurd (true≢false (sym h))
one_way D P (step.Field i ∷ a) b n s h = one_way D P a b (field_of D P i n s).first (field_of D P i n s).spot h
one_way D P (step.Variant v ∷ a) b n s h = one_way D P a b (variant_of D P v n s).first (variant_of D P v n s).spot h
one_way D P (step.Deref m ∷ a) b n s h = refl

behind_too : (a b : List Step) → is_behind a ≡ true → is_behind (a ++ b) ≡ true
behind_too [] b h = absurd (true≢false (sym h))
behind_too (step.Field i ∷ a) b h = behind_too a b h
behind_too (step.Variant v ∷ a) b h = behind_too a b h
behind_too (step.Deref m ∷ a) b h = refl

-- a field is there
nth_is : (P : ℕ → ℕ) (ts : List Typ) (i n : ℕ) (u : Typ) → slice_get ts i ≡ Some u → (nth_field P ts i n).spot ≡ whole u
nth_is P [] i n u e = absurd (cc)
nth_is P (t ∷ ts) zero n u e = ap whole (some_is t u e)
  where
    some_is : (a b : Typ) → Some a ≡ Some b → a ≡ b
    some_is a b e = cc
nth_is P (t ∷ ts) (suc i) n u e = nth_is P ts i (n + parts P t) u e

field_is : (P : ℕ → ℕ) (fs : List FieldDeclared) (x : List ℕ) (n : ℕ) (u : Typ) → field_typ fs x ≡ Some u → (nth_field P (field_types fs) (field_number fs x) n).spot ≡ whole u
field_is P [] x n u e = absurd (cc)
field_is P (f ∷ fs) x n u e = by (bytes_eq f.name x) e (field_is P fs x (n + parts P f.typ) u)
  where
    by : (b : Bool) → (if b then Some f.typ else field_typ fs x) ≡ Some u → (field_typ fs x ≡ Some u → (nth_field P (field_types fs) (field_number fs x) (n + parts P f.typ)).spot ≡ whole u)
        → (nth_field P (field_types (f ∷ fs)) (if b then zero else suc (field_number fs x)) n).spot ≡ whole u
    by true e g = ap whole (let h : f.typ ≡ u = cc in h)
    by false e g = g e

part_is : (P : ℕ → ℕ) (ds : List VariantDeclared) (v k n : ℕ) (u : Typ) → slice_get (parts_declared (slice_get ds v)) k ≡ Some u → (D : Declarations) → (field_of D P k (nth_variant P ds v n).first (nth_variant P ds v n).spot).spot ≡ whole u
part_is P [] v k n u e D = absurd (cc)
part_is P (d ∷ ds) zero k n u e D = nth_is P d.parts k n u e
part_is P (d ∷ ds) (suc v) k n u e D = part_is P ds v k (n + sum_of_parts P (shapes_of d.parts)) u e D

-- ---- each type has a part

some_part : (n : ℕ) → 0 < at_least_one n
some_part zero = omega arith
some_part (suc n) = omega arith

item_part : (P : ℕ → ℕ) (o : Option Declared) → 0 < declared_parts P o
item_part P None = omega arith
item_part P (Some rt_declared) = omega arith
item_part P (Some (struct_declared c l fs)) = some_part _
item_part P (Some (enum_declared c l vs)) = omega arith
item_part P (Some (function_declared ps t)) = omega arith

type_part : (D : Declarations) (P : ℕ → ℕ) → Sized D P → (t : Typ) → 0 < parts P t
type_part D P Z (integer k) = omega arith
type_part D P Z boolean = omega arith
type_part D P Z (tuple_of ts) = some_part _
type_part D P Z (reference m t) = omega arith
type_part D P Z (named i) = subst (λ (n : ℕ). 0 < n) (sym (Z i)) (item_part P (slice_get D i))

-- ---- places

module _ (F : Frame) (Z : Sized F.declared F.sizes) where
  abbrev D : Declarations
  D = F.declared

  abbrev P : ℕ → ℕ
  P = F.sizes

  -- what is there has a type, and this one where no step is a dereference
  abbrev pub IsSpot : Bool → Spot → Typ → Type 0
  IsSpot b s t = (u : Typ) × (s ≡ whole u) × (b ≡ false → u ≡ t)

  -- a place of a variable leads to what has a type, to this one if it is behind no reference
  abbrev pub IsAt : Place → Typ → Type 0
  IsAt p t = (x : ℕ) → p.root ≡ variable x → IsSpot (is_behind p.steps) (place_at F p).spot t

  -- it has a part
  abbrev pub Looked : Place → Type 0
  Looked p = (x : ℕ) (ss : List Step) → p ≡ placed x ss → HasPart F x ss

  spanned : (l : Located) (t : Typ) → l.spot ≡ whole t → spans P l l.first ≡ true
  spanned l t e =
      let z = type_part D P Z t in let q : spot_parts P l.spot ≡ parts P t = ap (spot_parts P) e in
      and_from (nat_le l.first l.first) (nat_lt l.first (l.first + spot_parts P l.spot)) (le-leb l.first l.first (omega arith)) (lt-ltb l.first (l.first + spot_parts P l.spot) (omega (arith, z, q)))

  pub looked : (p : Place) (t : Typ) → IsAt p t → Looked p
  looked p t h x ss e =
      let g = subst (λ (q : Place). IsAt q t) e h x refl in
      ((place_at F (placed x ss)).first, spanned (place_at F (placed x ss)) g.0 g.1)

  pub nowhere_looked : (p : Place) → (t : Temporary) → p.root ≡ temporary t → Looked p
  nowhere_looked p t h x ss e = let q : p.root ≡ variable x = ap (λ (r : Place). r.root) e in cc

  pub held_is : (t : Temporary) (ss : List Step) (u : Typ) → IsAt (under (temporary_place t) ss) u
  held_is t ss u x e = cc

  -- further steps
  abbrev Leads : List Step → Typ → Typ → Type 0
  Leads ss t u = (n : ℕ) → IsSpot (is_behind ss) (located D P ss n (whole t)).spot u

  further_spot : (b : Bool) (a ss : List Step) (n : ℕ) (s : Spot) (t u : Typ) → is_behind a ≡ b → IsSpot b (located D P a n s).spot t → Leads ss t u → IsSpot (is_behind (a ++ ss)) (located D P (a ++ ss) n s).spot u
  further_spot true a ss n s t u e h g =
      (h.0, ap (λ (l : Located). l.spot) (one_way D P a ss n s e) ∙ h.1, λ f. absurd (true≢false (sym (behind_too a ss e) ∙ f)))
  further_spot false a ss n s t u e h g =
      let l = located D P a n s in let z = g l.first in
      (z.0, ap (λ (k : Located). k.spot) (two_ways D P a ss n s e) ∙ (ap (λ (k : Spot). (located D P ss l.first k).spot) (h.1 ∙ ap whole (h.2 refl)) ∙ z.1), λ f. z.2 (rest_of_behind a ss f))

  pub goes : (p : Place) (ss : List Step) (t u : Typ) → IsAt p t → Leads ss t u → IsAt (under p ss) u
  goes p ss t u h g x e = let r = root_at F p.root in further_spot (is_behind p.steps) p.steps ss r.first r.spot t u refl (h x e) g

  -- to the type itself
  pub leads : (ss : List Step) (t u : Typ) → ((n : ℕ) → (located D P ss n (whole t)).spot ≡ whole u) → Leads ss t u
  leads ss t u h n = (u, h n, λ _. refl)

  pub peels : (p : Place) (t : Typ) → IsAt p t → IsAt (under p (dereferences t)) (peeled t)
  peels p (integer k) h = goes p [] (integer k) (integer k) h (leads [] (integer k) (integer k) (λ n. refl))
  peels p boolean h = goes p [] boolean boolean h (leads [] boolean boolean (λ n. refl))
  peels p (tuple_of ts) h = goes p [] (tuple_of ts) (tuple_of ts) h (leads [] (tuple_of ts) (tuple_of ts) (λ n. refl))
  peels p (reference m t) h = goes p (dereferences (reference m t)) (reference m t) (peeled t) h (λ n. (reference m t, refl, λ b. absurd (true≢false b)))
  peels p (named i) h = goes p [] (named i) (named i) h (leads [] (named i) (named i) (λ n. refl))

  pub through : (p : Place) (m : Bool) (ss : List Step) (t u : Typ) → IsAt p t → IsAt (under p (step.Deref m ∷ ss)) u
  through p m ss t u h = goes p (step.Deref m ∷ ss) t u h (λ n. (t, refl, λ b. absurd (true≢false b)))

  pub at_field : (p : Place) (i : ℕ) (x : List ℕ) (u : Typ) → IsAt p (named i) → field_typ (fields_declared (slice_get D i)) x ≡ Some u → IsAt (under p (step.Field (field_in D (named i) x) ∷ [])) u
  at_field p i x u h e = goes p (step.Field (field_in D (named i) x) ∷ []) (named i) u h (leads (step.Field (field_in D (named i) x) ∷ []) (named i) u (λ n. field_is P (fields_declared (slice_get D i)) x n u e))

  pub at_part : (p : Place) (ts : Shapes Kind) (k : ℕ) (u : Typ) → IsAt p (tuple_of ts) → slice_get (shapes_listed ts) k ≡ Some u → IsAt (under p (step.Field k ∷ [])) u
  at_part p ts k u h e = goes p (step.Field k ∷ []) (tuple_of ts) u h (leads (step.Field k ∷ []) (tuple_of ts) u (λ n. nth_is P (shapes_listed ts) k n u e))

  pub at_variant : (p : Place) (i v k : ℕ) (u : Typ) → IsAt p (named i) → slice_get (variant_parts D i v) k ≡ Some u → IsAt (under p (step.Variant v ∷ step.Field k ∷ [])) u
  at_variant p i v k u h e = goes p (step.Variant v ∷ step.Field k ∷ []) (named i) u h (leads (step.Variant v ∷ step.Field k ∷ []) (named i) u (λ n. part_is P (variants_declared (slice_get D i)) v k (suc n) u e D))

  -- of a variable with a type
  nth_variable_is : (ts : List (Option Typ)) (x n : ℕ) (t : Typ) → slice_get ts x ≡ Some (Some t) → (nth_variable P ts x n).spot ≡ whole t
  nth_variable_is [] x n t e = absurd (cc)
  nth_variable_is (None ∷ ts) zero n t e = absurd (cc)
  nth_variable_is (Some a ∷ ts) zero n t e = ap whole (let h : a ≡ t = cc in h)
  nth_variable_is (a ∷ ts) (suc x) n t e = nth_variable_is ts x (n + spot_parts P (typed_spot a)) t e

  pub variable_is : (x : ℕ) (t : Typ) → slice_get F.types x ≡ Some (Some t) → IsAt (own x) t
  variable_is x t e y q = (t, nth_variable_is F.types x 0 t e, λ _. refl)

  -- the same steps put together otherwise
  pub regrouped : (p : Place) (a b : List Step) (t : Typ) → IsAt (under (under p a) b) t → IsAt (under p (a ++ b)) t
  regrouped p a b t h = subst (λ (ss : List Step). IsAt (record { root = p.root; steps = ss }) t) (append_assoc p.steps a b) h
