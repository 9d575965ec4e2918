-- Variables of one type have the same parts, wherever these begin.
use Rattle.std.proofs.Common.{arith, ◌≡◌, ℕ, zero, suc, ◌+◌, ◌-◌, ◌≤◌, ◌<◌, nat_le, nat_lt, Bool, true, false, ◌&&◌, List, [], ◌∷◌, Option, Some, None, slice_get, refl, sym, ◌∙◌, subst, ap, leb-true, ltb-true, le-leb, lt-ltb}
use Rattle.rx_core.specs.declared.types.Step.{Step}
use Rattle.rx_core.specs.declared.types.Step.TheVariants as step
use Rattle.rx_typed.specs.Types.{Typ, integer, boolean, tuple_of, reference, named, shapes_listed, shapes_of, parts, sum_of_parts, Declarations, VariantDeclared, variants_declared}
use Rattle.rx_typed.specs.Tree.{own}
use Rattle.rx_facts_tables.specs.Places.{Frame, Spot, whole, fields, nowhere, Located, spot_parts, nth_field, nth_variant, struct_fields, field_of, variant_of, located, typed_spot, nth_variable, is_part, spans}
use Rattle.rx_facts_tables.specs.Wholes.{placed}
use Rattle.rx_facts_tables.specs.Initialised.{IsFixed}
use Rattle.rx_engine_initial.specs.Variables.{Sides, SameWay, LikePart, LikeVariable, type_at}
use Rattle.rx_engine_initial.proofs.Ways.{and_left, and_right, and_both, agree}
use Rattle.rx_engine_initial.proofs.SameParts.{same_part}

-- the same there, but for where it begins
record Shifted (a : ℕ) (k l : Located) : Type 0 where
  first : k.first ≡ a + l.first
  spot : k.spot ≡ l.spot

module _ (P : ℕ → ℕ) (a : ℕ) where
  field_shifted : (ts : List Typ) (i n m : ℕ) → n ≡ a + m → Shifted a (nth_field P ts i n) (nth_field P ts i m)
  field_shifted [] i n m e = record { first = e; spot = refl }
  field_shifted (t ∷ ts) zero n m e = record { first = e; spot = refl }
  field_shifted (t ∷ ts) (suc i) n m e = field_shifted ts i (n + parts P t) (m + parts P t) (omega (arith, e))

  variant_shifted : (ds : List VariantDeclared) (v n m : ℕ) → n ≡ a + m → Shifted a (nth_variant P ds v n) (nth_variant P ds v m)
  variant_shifted [] v n m e = record { first = e; spot = refl }
  variant_shifted (d ∷ ds) zero n m e = record { first = e; spot = refl }
  variant_shifted (d ∷ ds) (suc v) n m e = variant_shifted ds v (n + sum_of_parts P (shapes_of d.parts)) (m + sum_of_parts P (shapes_of d.parts)) (omega (arith, e))

  module _ (D : Declarations) where
    step_field : (i n m : ℕ) (s : Spot) → n ≡ a + m → Shifted a (field_of D P i n s) (field_of D P i m s)
    step_field i n m (whole (integer k)) e = record { first = e; spot = refl }
    step_field i n m (whole boolean) e = record { first = e; spot = refl }
    step_field i n m (whole (tuple_of ts)) e = field_shifted (shapes_listed ts) i n m e
    step_field i n m (whole (reference b t)) e = record { first = e; spot = refl }
    step_field i n m (whole (named k)) e = field_shifted (struct_fields (slice_get D k)) i n m e
    step_field i n m (fields ts) e = field_shifted ts i n m e
    step_field i n m nowhere e = record { first = e; spot = refl }

    step_variant : (v n m : ℕ) (s : Spot) → n ≡ a + m → Shifted a (variant_of D P v n s) (variant_of D P v m s)
    step_variant v n m (whole (integer k)) e = record { first = e; spot = refl }
    step_variant v n m (whole boolean) e = record { first = e; spot = refl }
    step_variant v n m (whole (tuple_of ts)) e = record { first = e; spot = refl }
    step_variant v n m (whole (reference b t)) e = record { first = e; spot = refl }
    step_variant v n m (whole (named k)) e = variant_shifted (variants_declared (slice_get D k)) v (suc n) (suc m) (omega (arith, e))
    step_variant v n m (fields ts) e = record { first = e; spot = refl }
    step_variant v n m nowhere e = record { first = e; spot = refl }

    all_shifted : (ss : List Step) (n m : ℕ) (s r : Spot) → n ≡ a + m → s ≡ r → Shifted a (located D P ss n s) (located D P ss m r)
    all_shifted [] n m s r e f = record { first = e; spot = f }
    all_shifted (step.Field i ∷ ss) n m s r e f = let z = step_field i n m s e in
        subst (λ q. Shifted a (located D P (step.Field i ∷ ss) n s) (located D P (step.Field i ∷ ss) m q)) f
        (all_shifted ss (field_of D P i n s).first (field_of D P i m s).first (field_of D P i n s).spot (field_of D P i m s).spot z.first z.spot)
    all_shifted (step.Variant v ∷ ss) n m s r e f = let z = step_variant v n m s e in
        subst (λ q. Shifted a (located D P (step.Variant v ∷ ss) n s) (located D P (step.Variant v ∷ ss) m q)) f
        (all_shifted ss (variant_of D P v n s).first (variant_of D P v m s).first (variant_of D P v n s).spot (variant_of D P v m s).spot z.first z.spot)
    all_shifted (step.Deref b ∷ ss) n m s r e f = record { first = e; spot = f }

spans_shifted : (P : ℕ → ℕ) (a : ℕ) (k l : Located) (i : ℕ) → Shifted a k l → spans P k (a + i) ≡ spans P l i
spans_shifted P a k l i s = agree (spans P k (a + i)) (spans P l i) (λ h. down h) (λ h. up h)
  where
    size : spot_parts P k.spot ≡ spot_parts P l.spot
    size = ap (spot_parts P) s.spot

    down : spans P k (a + i) ≡ true → spans P l i ≡ true
    down h = let p = leb-true k.first (a + i) (and_left (nat_le k.first (a + i)) (nat_lt (a + i) (k.first + spot_parts P k.spot)) h) in
        let q = ltb-true (a + i) (k.first + spot_parts P k.spot) (and_right (nat_le k.first (a + i)) (nat_lt (a + i) (k.first + spot_parts P k.spot)) h) in
        and_both (nat_le l.first i) (nat_lt i (l.first + spot_parts P l.spot)) (le-leb l.first i (omega (arith, p, s.first))) (lt-ltb i (l.first + spot_parts P l.spot) (omega (arith, q, s.first, size)))

    up : spans P l i ≡ true → spans P k (a + i) ≡ true
    up h = let p = leb-true l.first i (and_left (nat_le l.first i) (nat_lt i (l.first + spot_parts P l.spot)) h) in
        let q = ltb-true i (l.first + spot_parts P l.spot) (and_right (nat_le l.first i) (nat_lt i (l.first + spot_parts P l.spot)) h) in
        and_both (nat_le k.first (a + i)) (nat_lt (a + i) (k.first + spot_parts P k.spot)) (le-leb k.first (a + i) (omega (arith, p, s.first))) (lt-ltb (a + i) (k.first + spot_parts P k.spot) (omega (arith, q, s.first, size)))

spot_of : (P : ℕ → ℕ) (ts : List (Option Typ)) (x n : ℕ) → (nth_variable P ts x n).spot ≡ typed_spot (type_at ts x)
spot_of P [] x n = refl
spot_of P (t ∷ ts) zero n = refl
spot_of P (t ∷ ts) (suc x) n = spot_of P ts x (n + spot_parts P (typed_spot t))

-- a part of a place of a variable, counted from where the variable begins
from_begin : (F : Frame) (x i : ℕ) (ss : List Step) → is_part F (placed x ss) ((nth_variable F.sizes F.types x 0).first + i) ≡ spans F.sizes (located F.declared F.sizes ss 0 (typed_spot (type_at F.types x))) i
from_begin F x i ss = let l = nth_variable F.sizes F.types x 0 in
    spans_shifted F.sizes l.first (located F.declared F.sizes ss l.first l.spot) (located F.declared F.sizes ss 0 (typed_spot (type_at F.types x))) i
    (all_shifted F.sizes l.first F.declared ss l.first 0 l.spot (typed_spot (type_at F.types x)) (omega arith) (spot_of F.sizes F.types x 0))

module _ (S : Sides) (declared : S.frame.declared ≡ S.frame_there.declared) (sizes : S.frame.sizes ≡ S.frame_there.sizes) (x y : ℕ) (types : type_at S.frame.types x ≡ type_at S.frame_there.types y) where
  same_spans : (ss : List Step) (i : ℕ) → spans S.frame.sizes (located S.frame.declared S.frame.sizes ss 0 (typed_spot (type_at S.frame.types x))) i
      ≡ spans S.frame_there.sizes (located S.frame_there.declared S.frame_there.sizes ss 0 (typed_spot (type_at S.frame_there.types y))) i
  same_spans ss i = ap (λ D. spans S.frame.sizes (located D S.frame.sizes ss 0 (typed_spot (type_at S.frame.types x))) i) declared
      ∙ ap (λ P. spans P (located S.frame_there.declared P ss 0 (typed_spot (type_at S.frame.types x))) i) sizes
      ∙ ap (λ t. spans S.frame_there.sizes (located S.frame_there.declared S.frame_there.sizes ss 0 (typed_spot t)) i) types

  like_part : (i : ℕ) → LikePart S x y ((nth_variable S.frame.sizes S.frame.types x 0).first + i) ((nth_variable S.frame_there.sizes S.frame_there.types y 0).first + i)
  like_part i ss rs w = from_begin S.frame x i ss ∙ same_spans ss i ∙ sym (from_begin S.frame_there y i ss) ∙ same_part S.frame_there y ((nth_variable S.frame_there.sizes S.frame_there.types y 0).first + i) w

  pub like_variable : (IsFixed S.muts x → IsFixed S.muts_there y) → LikeVariable S x y
  like_variable f = record {
    parts = λ n h. by n (leb-true (nth_variable S.frame.sizes S.frame.types x 0).first n
        (and_left (nat_le (nth_variable S.frame.sizes S.frame.types x 0).first n) (nat_lt n ((nth_variable S.frame.sizes S.frame.types x 0).first + spot_parts S.frame.sizes (nth_variable S.frame.sizes S.frame.types x 0).spot)) h));
    fixed = f;
  }
    where
      rest : (f n : ℕ) → f ≤ n → f + (n - f) ≡ n
      rest f n h = omega (arith, h)

      by : (n : ℕ) → (nth_variable S.frame.sizes S.frame.types x 0).first ≤ n → (m : ℕ) × LikePart S x y n m
      by n h = let f = (nth_variable S.frame.sizes S.frame.types x 0).first in
          ((nth_variable S.frame_there.sizes S.frame_there.types y 0).first + (n - f), subst (λ k. LikePart S x y k ((nth_variable S.frame_there.sizes S.frame_there.types y 0).first + (n - f))) (rest f n h) (like_part (n - f)))
