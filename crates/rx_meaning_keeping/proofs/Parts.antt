-- The laws of the parts of places.
use Rattle.std.proofs.Common.{◌≡◌, ℕ, zero, suc, ◌+◌, ◌≤◌, ◌<◌, Bool, true, false, ◌&&◌, nat_le, nat_lt, List, [], ◌∷◌, ◌++◌, Option, slice_get, refl, sym, ap, ◌∙◌, arith, true≢false}
use Rattle.std.proofs.lemmas.Bool.{leb-true, le-leb}
use Rattle.std.proofs.lemmas.Bool.Decides.{Decides-ltb}
use Rattle.rx_core.specs.declared.types.Step.{Step}
use Rattle.rx_core.specs.declared.types.Step.TheVariants as step
use Rattle.rx_typed.specs.Types.{Typ, integer, boolean, tuple_of, reference, named, shapes_of, shapes_listed, parts, sum_of_parts, Declarations, VariantDeclared, variants_declared}
use Rattle.rx_typed_declarations.specs.Sizes.{Sized}
use Rattle.rx_facts_tables.specs.Places.{Spot, whole, fields, nowhere, Located, at, spot_parts, nth_field, nth_variant, struct_fields, field_of, variant_of, located, typed_spot, nth_variable, Frame, is_part, spans}
use Rattle.rx_facts_tables.specs.Wholes.{placed}
use Rattle.rx_meaning_keeping.specs.Lacking.{Off, off_field, off_under}
use Rattle.rx_facts_tables.proofs.Within.{steps_within}

-- a part is of what is there
abbrev In : (ℕ → ℕ) → Located → ℕ → Type 0
In P l m = (l.first ≤ m) × (m < l.first + spot_parts P l.spot)

in_between : (first count n : ℕ) → (nat_le first n && nat_lt n (first + count)) ≡ true → (first ≤ n) × (n < first + count)
in_between first count n h = by (nat_le first n) (nat_lt n (first + count)) refl refl h
  where
    by : (a b : Bool) → nat_le first n ≡ a → nat_lt n (first + count) ≡ b → (a && b) ≡ true → (first ≤ n) × (n < first + count)
    by true true x y z = (leb-true first n x, (Decides-ltb n (first + count)).0 y)
    by true false x y z = absurd (true≢false (sym z))
    by false b x y z = absurd (true≢false (sym z))

is_between : (first count n : ℕ) → first ≤ n → n < first + count → (nat_le first n && nat_lt n (first + count)) ≡ true
is_between first count n h k = ap (λ b. b && nat_lt n (first + count)) (le-leb first n h) ∙ (Decides-ltb n (first + count)).1 k

in_of : (P : ℕ → ℕ) (l : Located) (m : ℕ) → spans P l m ≡ true → In P l m
in_of P l m h = in_between l.first (spot_parts P l.spot) m h

of_in : (P : ℕ → ℕ) (l : Located) (m : ℕ) → In P l m → spans P l m ≡ true
of_in P l m h = is_between l.first (spot_parts P l.spot) m h.0 h.1

-- ---- what is there begins where the other does, or behind

nth_first : (P : ℕ → ℕ) (ts : List Typ) (i n : ℕ) → n ≤ (nth_field P ts i n).first
nth_first P [] i n = omega arith
nth_first P (t ∷ ts) zero n = omega arith
nth_first P (t ∷ ts) (suc i) n = omega (arith, nth_first P ts i (n + parts P t))

variant_first : (P : ℕ → ℕ) (ds : List VariantDeclared) (v n : ℕ) → n ≤ (nth_variant P ds v n).first
variant_first P [] v n = omega arith
variant_first P (d ∷ ds) zero n = omega arith
variant_first P (d ∷ ds) (suc v) n = omega (arith, variant_first P ds v (n + sum_of_parts P (shapes_of d.parts)))

-- two fields share no part
fields_apart : (P : ℕ → ℕ) (ts : List Typ) (i j n m : ℕ) → (i ≡ j → ⊥) → In P (nth_field P ts i n) m → In P (nth_field P ts j n) m → ⊥
fields_apart P [] i j n m d a b = absurd (omega (arith, a.0, a.1))
fields_apart P (t ∷ ts) zero zero n m d a b = d refl
fields_apart P (t ∷ ts) zero (suc j) n m d a b = absurd (omega (arith, a.1, b.0, nth_first P ts j (n + parts P t)))
fields_apart P (t ∷ ts) (suc i) zero n m d a b = absurd (omega (arith, b.1, a.0, nth_first P ts i (n + parts P t)))
fields_apart P (t ∷ ts) (suc i) (suc j) n m d a b = fields_apart P ts i j (n + parts P t) m (λ e. d (ap suc e)) a b

-- nor do two variables
variables_apart : (P : ℕ → ℕ) (ts : List (Option Typ)) (x n : ℕ) → n ≤ (nth_variable P ts x n).first
variables_apart P [] x n = omega arith
variables_apart P (t ∷ ts) zero n = omega arith
variables_apart P (t ∷ ts) (suc x) n = omega (arith, variables_apart P ts x (n + spot_parts P (typed_spot t)))

two_variables : (P : ℕ → ℕ) (ts : List (Option Typ)) (x y n m : ℕ) → (x ≡ y → ⊥) → In P (nth_variable P ts x n) m → In P (nth_variable P ts y n) m → ⊥
two_variables P [] x y n m d a b = absurd (omega (arith, a.0, a.1))
two_variables P (t ∷ ts) zero zero n m d a b = d refl
two_variables P (t ∷ ts) zero (suc y) n m d a b = absurd (omega (arith, a.1, b.0, variables_apart P ts y (n + spot_parts P (typed_spot t))))
two_variables P (t ∷ ts) (suc x) zero n m d a b = absurd (omega (arith, b.1, a.0, variables_apart P ts x (n + spot_parts P (typed_spot t))))
two_variables P (t ∷ ts) (suc x) (suc y) n m d a b = two_variables P ts x y (n + spot_parts P (typed_spot t)) m (λ e. d (ap suc e)) a b

module _ (D : Declarations) (P : ℕ → ℕ) (sized : Sized D P) where
  field_first : (i n : ℕ) (s : Spot) → n ≤ (field_of D P i n s).first
  field_first i n (whole (integer k)) = omega arith
  field_first i n (whole boolean) = omega arith
  field_first i n (whole (tuple_of ts)) = nth_first P (shapes_listed ts) i n
  field_first i n (whole (reference m t)) = omega arith
  field_first i n (whole (named k)) = nth_first P (struct_fields (slice_get D k)) i n
  field_first i n (fields ts) = nth_first P ts i n
  field_first i n nowhere = omega arith

  variant_of_first : (v n : ℕ) (s : Spot) → n ≤ (variant_of D P v n s).first
  variant_of_first v n (whole (integer k)) = omega arith
  variant_of_first v n (whole boolean) = omega arith
  variant_of_first v n (whole (tuple_of ts)) = omega arith
  variant_of_first v n (whole (reference m t)) = omega arith
  variant_of_first v n (whole (named k)) = omega (arith, variant_first P (variants_declared (slice_get D k)) v (suc n))
  variant_of_first v n (fields ts) = omega arith
  variant_of_first v n nowhere = omega arith

  located_first : (ss : List Step) (n : ℕ) (s : Spot) → n ≤ (located D P ss n s).first
  located_first [] n s = omega arith
  located_first (step.Field i ∷ ss) n s = omega (arith, field_first i n s, located_first ss (field_of D P i n s).first (field_of D P i n s).spot)
  located_first (step.Variant v ∷ ss) n s = omega (arith, variant_of_first v n s, located_first ss (variant_of D P v n s).first (variant_of D P v n s).spot)
  located_first (step.Deref b ∷ ss) n s = omega arith

  inside : (ss : List Step) (n : ℕ) (s : Spot) (m : ℕ) → In P (located D P ss n s) m → In P (at n s) m
  inside ss n s m h = let a = located_first ss n s in let b = steps_within D P sized ss n s in (omega (arith, a, h.0), omega (arith, b, h.1))

  within : (qs rs : List Step) (n : ℕ) (s : Spot) (m : ℕ) → In P (located D P (qs ++ rs) n s) m → In P (located D P qs n s) m
  within [] rs n s m h = inside rs n s m h
  within (step.Field i ∷ qs) rs n s m h = within qs rs (field_of D P i n s).first (field_of D P i n s).spot m h
  within (step.Variant v ∷ qs) rs n s m h = within qs rs (variant_of D P v n s).first (variant_of D P v n s).spot m h
  within (step.Deref b ∷ qs) rs n s m h = h

  two_fields : (i j n : ℕ) (s : Spot) (m : ℕ) → (i ≡ j → ⊥) → In P (field_of D P i n s) m → In P (field_of D P j n s) m → ⊥
  two_fields i j n (whole (integer k)) m d a b = absurd (omega (arith, a.0, a.1))
  two_fields i j n (whole boolean) m d a b = absurd (omega (arith, a.0, a.1))
  two_fields i j n (whole (tuple_of ts)) m d a b = fields_apart P (shapes_listed ts) i j n m d a b
  two_fields i j n (whole (reference r t)) m d a b = absurd (omega (arith, a.0, a.1))
  two_fields i j n (whole (named k)) m d a b = fields_apart P (struct_fields (slice_get D k)) i j n m d a b
  two_fields i j n (fields ts) m d a b = fields_apart P ts i j n m d a b
  two_fields i j n nowhere m d a b = absurd (omega (arith, a.0, a.1))

  off : (qs ss : List Step) (n : ℕ) (s : Spot) (m : ℕ) → Off qs ss → In P (located D P qs n s) m → In P (located D P ss n s) m → ⊥
  off _ _ n s m (off_field {i = i} {j = j} {qs = qs} {ss = ss} d) a b =
      two_fields i j n s m d (inside qs (field_of D P i n s).first (field_of D P i n s).spot m a) (inside ss (field_of D P j n s).first (field_of D P j n s).spot m b)
  off _ _ n s m (off_under {s = step.Field i} {qs = qs} {ss = ss} p o) a b = off qs ss (field_of D P i n s).first (field_of D P i n s).spot m o a b
  off _ _ n s m (off_under {s = step.Variant i} {qs = qs} {ss = ss} p o) a b = off qs ss (variant_of D P i n s).first (variant_of D P i n s).spot m o a b
  off _ _ n s m (off_under {s = step.Deref i} p o) a b = p

-- The laws: what a place has, those that it is in have; ways that part have none in common, nor have two variables.
pub record Parted (F : Frame) : Type 0 where
  pub within : (x : ℕ) (qs rs : List Step) (n : ℕ) → is_part F (placed x (qs ++ rs)) n ≡ true → is_part F (placed x qs) n ≡ true
  pub off : (x : ℕ) (qs ss : List Step) (n : ℕ) → Off qs ss → is_part F (placed x qs) n ≡ true → is_part F (placed x ss) n ≡ true → ⊥
  pub other : (x y : ℕ) (qs ss : List Step) (n : ℕ) → (x ≡ y → ⊥) → is_part F (placed x qs) n ≡ true → is_part F (placed y ss) n ≡ true → ⊥

-- the laws hold where the sizes are right
pub parted : (F : Frame) → Sized F.declared F.sizes → Parted F
parted F sized = record {
  within = λ x qs rs n h. let l = nth_variable F.sizes F.types x 0 in of_in F.sizes (located F.declared F.sizes qs l.first l.spot) n (within F.declared F.sizes sized qs rs l.first l.spot n (in_of F.sizes (located F.declared F.sizes (qs ++ rs) l.first l.spot) n h));
  off = λ x qs ss n o a b. let l = nth_variable F.sizes F.types x 0 in off F.declared F.sizes sized qs ss l.first l.spot n o (in_of F.sizes (located F.declared F.sizes qs l.first l.spot) n a) (in_of F.sizes (located F.declared F.sizes ss l.first l.spot) n b);
  other = λ x y qs ss n d a b. let l = nth_variable F.sizes F.types x 0 in let k = nth_variable F.sizes F.types y 0 in
      two_variables F.sizes F.types x y 0 n d (inside F.declared F.sizes sized qs l.first l.spot n (in_of F.sizes (located F.declared F.sizes qs l.first l.spot) n a)) (inside F.declared F.sizes sized ss k.first k.spot n (in_of F.sizes (located F.declared F.sizes ss k.first k.spot) n b));
}
