-- Two ways from one place, neither a front of the other and without a dereference, lead to parts that are apart.
use Rattle.std.proofs.Common.{◌≡◌, ℕ, zero, suc, ◌+◌, ◌≤◌, ◌<◌, nat_le, nat_lt, Bool, true, false, ◌&&◌, ◌==◌, List, [], ◌∷◌, Option, Some, None, slice_get, refl, sym, subst, ap, arith, leb-true, ltb-true, eq-eqb}
use Rattle.rx_core.specs.declared.types.Step.{Step}
use Rattle.rx_core.specs.declared.types.Step.TheVariants as step
use Rattle.rx_typed.specs.Types.{Typ, integer, boolean, tuple_of, reference, named, shapes_listed, shapes_of, parts, sum_of_parts, Declarations, Declared, rt_declared, struct_declared, enum_declared, function_declared, VariantDeclared, variants_declared}
use Rattle.rx_typed.specs.TypedPlaces.{is_front}
use Rattle.rx_typed_declarations.specs.Sizes.{Sized}
use Rattle.rx_facts_tables.specs.Places.{Spot, whole, fields, nowhere, Located, at, spot_parts, nth_field, nth_variant, struct_fields, field_of, variant_of, located, nth_variable, Frame, is_part, spans}
use Rattle.rx_facts_tables.specs.Setting.{is_behind}
use Rattle.rx_facts_tables.specs.Wholes.{placed}
use Rattle.rx_facts_tables.proofs.Within.{steps_within}
use Rattle.rx_engine_initial.proofs.Ways.{no, and_left, and_right}

-- ---- what a way leads to begins where the place does, or behind

field_behind : (P : ℕ → ℕ) (ts : List Typ) (i n : ℕ) → n ≤ (nth_field P ts i n).first
field_behind P [] i n = omega arith
field_behind P (t ∷ ts) zero n = omega arith
field_behind P (t ∷ ts) (suc i) n = omega (arith, field_behind P ts i (n + parts P t))

variant_behind : (P : ℕ → ℕ) (ds : List VariantDeclared) (v n : ℕ) → n ≤ (nth_variant P ds v n).first
variant_behind P [] v n = omega arith
variant_behind P (d ∷ ds) zero n = omega arith
variant_behind P (d ∷ ds) (suc v) n = omega (arith, variant_behind P ds v (n + sum_of_parts P (shapes_of d.parts)))

step_field_behind : (D : Declarations) (P : ℕ → ℕ) (i n : ℕ) (s : Spot) → n ≤ (field_of D P i n s).first
step_field_behind D P i n (whole (integer k)) = omega arith
step_field_behind D P i n (whole boolean) = omega arith
step_field_behind D P i n (whole (tuple_of ts)) = field_behind P (shapes_listed ts) i n
step_field_behind D P i n (whole (reference m t)) = omega arith
step_field_behind D P i n (whole (named k)) = field_behind P (struct_fields (slice_get D k)) i n
step_field_behind D P i n (fields ts) = field_behind P ts i n
step_field_behind D P i n nowhere = omega arith

step_variant_behind : (D : Declarations) (P : ℕ → ℕ) (v n : ℕ) (s : Spot) → n ≤ (variant_of D P v n s).first
step_variant_behind D P v n (whole (integer k)) = omega arith
step_variant_behind D P v n (whole boolean) = omega arith
step_variant_behind D P v n (whole (tuple_of ts)) = omega arith
step_variant_behind D P v n (whole (reference m t)) = omega arith
step_variant_behind D P v n (whole (named k)) = omega (arith, variant_behind P (variants_declared (slice_get D k)) v (suc n))
step_variant_behind D P v n (fields ts) = omega arith
step_variant_behind D P v n nowhere = omega arith

steps_behind : (D : Declarations) (P : ℕ → ℕ) (ss : List Step) (n : ℕ) (s : Spot) → n ≤ (located D P ss n s).first
steps_behind D P [] n s = omega arith
steps_behind D P (step.Field i ∷ ss) n s = omega (arith, steps_behind D P ss (field_of D P i n s).first (field_of D P i n s).spot, step_field_behind D P i n s)
steps_behind D P (step.Variant v ∷ ss) n s = omega (arith, steps_behind D P ss (variant_of D P v n s).first (variant_of D P v n s).spot, step_variant_behind D P v n s)
steps_behind D P (step.Deref m ∷ ss) n s = omega arith

-- ---- fields and variants

record Inside (P : ℕ → ℕ) (l : Located) (k : ℕ) : Type 0 where
  pub low : l.first ≤ k
  pub high : k < l.first + spot_parts P l.spot

inside_of : (P : ℕ → ℕ) (l : Located) (k : ℕ) → spans P l k ≡ true → Inside P l k
inside_of P l k h = record {
  low = leb-true l.first k (and_left (nat_le l.first k) (nat_lt k (l.first + spot_parts P l.spot)) h);
  high = ltb-true k (l.first + spot_parts P l.spot) (and_right (nat_le l.first k) (nat_lt k (l.first + spot_parts P l.spot)) h);
}

none_inside : (P : ℕ → ℕ) (n k : ℕ) → Inside P (at n nowhere) k → ⊥
none_inside P n k h = omega (arith, h.low, h.high)

fields_apart : (P : ℕ → ℕ) (ts : List Typ) (i j n k : ℕ) → Inside P (nth_field P ts i n) k → Inside P (nth_field P ts j n) k → i ≡ j
fields_apart P [] i j n k a b = absurd (none_inside P n k a)
fields_apart P (t ∷ ts) zero zero n k a b = refl
fields_apart P (t ∷ ts) zero (suc j) n k a b = absurd (omega (arith, a.high, b.low, field_behind P ts j (n + parts P t)))
fields_apart P (t ∷ ts) (suc i) zero n k a b = absurd (omega (arith, b.high, a.low, field_behind P ts i (n + parts P t)))
fields_apart P (t ∷ ts) (suc i) (suc j) n k a b = ap suc (fields_apart P ts i j (n + parts P t) k a b)

variants_apart : (P : ℕ → ℕ) (ds : List VariantDeclared) (v w n k : ℕ) → Inside P (nth_variant P ds v n) k → Inside P (nth_variant P ds w n) k → v ≡ w
variants_apart P [] v w n k a b = absurd (none_inside P n k a)
variants_apart P (d ∷ ds) zero zero n k a b = refl
variants_apart P (d ∷ ds) zero (suc w) n k a b = absurd (omega (arith, a.high, b.low, variant_behind P ds w (n + sum_of_parts P (shapes_of d.parts))))
variants_apart P (d ∷ ds) (suc v) zero n k a b = absurd (omega (arith, b.high, a.low, variant_behind P ds v (n + sum_of_parts P (shapes_of d.parts))))
variants_apart P (d ∷ ds) (suc v) (suc w) n k a b = ap suc (variants_apart P ds v w (n + sum_of_parts P (shapes_of d.parts)) k a b)

follows : (e r : Bool) → e ≡ true → (e && r) ≡ false → r ≡ false
follows true r e g = g
follows false r e g = no e

module _ (D : Declarations) (P : ℕ → ℕ) where
  two_fields : (s : Spot) (i j n k : ℕ) → Inside P (field_of D P i n s) k → Inside P (field_of D P j n s) k → i ≡ j
  two_fields (whole (integer c)) i j n k a b = absurd (none_inside P n k a)
  two_fields (whole boolean) i j n k a b = absurd (none_inside P n k a)
  two_fields (whole (tuple_of ts)) i j n k a b = fields_apart P (shapes_listed ts) i j n k a b
  two_fields (whole (reference m t)) i j n k a b = absurd (none_inside P n k a)
  two_fields (whole (named c)) i j n k a b = fields_apart P (struct_fields (slice_get D c)) i j n k a b
  two_fields (fields ts) i j n k a b = fields_apart P ts i j n k a b
  two_fields nowhere i j n k a b = absurd (none_inside P n k a)

  two_variants : (s : Spot) (v w n k : ℕ) → Inside P (variant_of D P v n s) k → Inside P (variant_of D P w n s) k → v ≡ w
  two_variants (whole (integer c)) v w n k a b = absurd (none_inside P n k a)
  two_variants (whole boolean) v w n k a b = absurd (none_inside P n k a)
  two_variants (whole (tuple_of ts)) v w n k a b = absurd (none_inside P n k a)
  two_variants (whole (reference m t)) v w n k a b = absurd (none_inside P n k a)
  two_variants (whole (named c)) v w n k a b = variants_apart P (variants_declared (slice_get D c)) v w (suc n) k a b
  two_variants (fields ts) v w n k a b = absurd (none_inside P n k a)
  two_variants nowhere v w n k a b = absurd (none_inside P n k a)

  -- nothing has fields and variants
  no_fields : (d : Option Declared) (i v n k : ℕ) → Inside P (nth_field P (struct_fields d) i n) k → Inside P (nth_variant P (variants_declared d) v (suc n)) k → ⊥
  no_fields None i v n k a b = none_inside P n k a
  no_fields (Some rt_declared) i v n k a b = none_inside P n k a
  no_fields (Some (struct_declared c l fs)) i v n k a b = none_inside P (suc n) k b
  no_fields (Some (enum_declared c l vs)) i v n k a b = none_inside P n k a
  no_fields (Some (function_declared ps t)) i v n k a b = none_inside P n k a

  field_or_variant : (s : Spot) (i v n k : ℕ) → Inside P (field_of D P i n s) k → Inside P (variant_of D P v n s) k → ⊥
  field_or_variant (whole (integer c)) i v n k a b = none_inside P n k a
  field_or_variant (whole boolean) i v n k a b = none_inside P n k a
  field_or_variant (whole (tuple_of ts)) i v n k a b = none_inside P n k b
  field_or_variant (whole (reference m t)) i v n k a b = none_inside P n k a
  field_or_variant (whole (named c)) i v n k a b = no_fields (slice_get D c) i v n k a b
  field_or_variant (fields ts) i v n k a b = none_inside P n k b
  field_or_variant nowhere i v n k a b = none_inside P n k a

  module _ (sized : Sized D P) where
    -- what a way leads to is inside of what it goes through
    outer : (ss : List Step) (l : Located) (k : ℕ) → Inside P (located D P ss l.first l.spot) k → Inside P l k
    outer ss l k h = let w = steps_within D P sized ss l.first l.spot in let b = steps_behind D P ss l.first l.spot in
        record { low = omega (arith, h.low, b); high = omega (arith, h.high, w) }

    ways_apart : (ps qs : List Step) (n : ℕ) (s : Spot) (k : ℕ) → is_front ps qs ≡ false → is_front qs ps ≡ false → is_behind ps ≡ false → is_behind qs ≡ false
        → Inside P (located D P ps n s) k → Inside P (located D P qs n s) k → ⊥
    ways_apart [] qs n s k f g b c h i = cc
    ways_apart (p ∷ ps) [] n s k f g b c h i = cc
    ways_apart (step.Deref m ∷ ps) (q ∷ qs) n s k f g b c h i = cc
    ways_apart (step.Field x ∷ ps) (step.Deref m ∷ qs) n s k f g b c h i = cc
    ways_apart (step.Variant x ∷ ps) (step.Deref m ∷ qs) n s k f g b c h i = cc
    ways_apart (step.Field x ∷ ps) (step.Field y ∷ qs) n s k f g b c h i =
        let e = two_fields s x y n k (outer ps (field_of D P x n s) k h) (outer qs (field_of D P y n s) k i) in
        ways_apart ps qs (field_of D P y n s).first (field_of D P y n s).spot k (follows (x == y) (is_front ps qs) (eq-eqb x y e) f) (follows (y == x) (is_front qs ps) (eq-eqb y x (sym e)) g) b c
        (subst (λ z. Inside P (located D P ps (field_of D P z n s).first (field_of D P z n s).spot) k) e h) i
    ways_apart (step.Variant x ∷ ps) (step.Variant y ∷ qs) n s k f g b c h i =
        let e = two_variants s x y n k (outer ps (variant_of D P x n s) k h) (outer qs (variant_of D P y n s) k i) in
        ways_apart ps qs (variant_of D P y n s).first (variant_of D P y n s).spot k (follows (x == y) (is_front ps qs) (eq-eqb x y e) f) (follows (y == x) (is_front qs ps) (eq-eqb y x (sym e)) g) b c
        (subst (λ z. Inside P (located D P ps (variant_of D P z n s).first (variant_of D P z n s).spot) k) e h) i
    ways_apart (step.Field x ∷ ps) (step.Variant y ∷ qs) n s k f g b c h i = field_or_variant s x y n k (outer ps (field_of D P x n s) k h) (outer qs (variant_of D P y n s) k i)
    ways_apart (step.Variant x ∷ ps) (step.Field y ∷ qs) n s k f g b c h i = field_or_variant s y x n k (outer qs (field_of D P y n s) k i) (outer ps (variant_of D P x n s) k h)

pub places_apart : (F : Frame) → Sized F.declared F.sizes → (x : ℕ) (ps qs : List Step) (n : ℕ) → is_front ps qs ≡ false → is_front qs ps ≡ false → is_behind ps ≡ false → is_behind qs ≡ false
    → is_part F (placed x ps) n ≡ true → is_part F (placed x qs) n ≡ true → ⊥
places_apart F sized x ps qs n f g b c h k = let l = nth_variable F.sizes F.types x 0 in
    ways_apart F.declared F.sizes sized ps qs l.first l.spot n f g b c (inside_of F.sizes (located F.declared F.sizes ps l.first l.spot) n h) (inside_of F.sizes (located F.declared F.sizes qs l.first l.spot) n k)
