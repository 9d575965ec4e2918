-- When the outline of a type, by other numbers, keeps the limits of types; and the types that are in a tuple or in a row.
use Rattle.std.proofs.lemmas.Bool.{and_from, le-leb}
use Rattle.std.proofs.Common.{◌≡◌, ℕ, zero, suc, ◌+◌, ◌≤◌, nat_le, max, Bool, ◌&&◌, List, [], ◌∷◌, refl, sym, ap, ◌∙◌, subst, arith}
use Rattle.std.specs.Prelude.{IsTrue}
use Rattle.rx_core.specs.declared.types.Kind.{Kind}
use Rattle.rx_tree.specs.Lists.{Every}
use Rattle.rx_typed.specs.Types.{integer, boolean, tuple_of, reference, named, no_shape, shape_and, Shape, Shapes, Typ, shapes_map, shapes_of, outline, levels, most_levels, at_least_one, parts, sum_of_parts, keeps_limits}
use Rattle.rx_engine_blocks.specs.Renumbering.{shape_at, Renumbering}
use Rattle.rx_engine_declared.proofs.Sizes.{parts_stay}
use Rattle.rx_engine_kept.proofs.SameLimits.{levels_stay}
use Rattle.rx_engine_standing.proofs.Lists.{both}

-- ---- outlines

mutual
  parts_outline : (P : ℕ → ℕ) (t : Typ) → parts P (outline t) ≡ parts P t
  parts_outline P (integer k) = refl
  parts_outline P boolean = refl
  parts_outline P (tuple_of ts) = ap at_least_one (sum_outline P ts)
  parts_outline P (reference m t) = ap suc (parts_outline P t)
  parts_outline P (named i) = refl

  sum_outline : (P : ℕ → ℕ) (ts : Shapes Kind) → sum_of_parts P (shapes_map (λ k. tt {0}) ts) ≡ sum_of_parts P ts
  sum_outline P no_shape = refl
  sum_outline P (shape_and t ts) = ap (λ n. n + sum_of_parts P (shapes_map (λ k. tt {0}) ts)) (parts_outline P t) ∙ ap (λ n. parts P t + n) (sum_outline P ts)

mutual
  levels_outline : (t : Typ) → levels (outline t) ≡ levels t
  levels_outline (integer k) = refl
  levels_outline boolean = refl
  levels_outline (tuple_of ts) = ap suc (most_outline ts)
  levels_outline (reference m t) = ap suc (levels_outline t)
  levels_outline (named i) = refl

  most_outline : (ts : Shapes Kind) → most_levels (shapes_map (λ k. tt {0}) ts) ≡ most_levels ts
  most_outline no_shape = refl
  most_outline (shape_and t ts) = ap (λ n. max n (most_levels (shapes_map (λ k. tt {0}) ts))) (levels_outline t) ∙ ap (λ n. max (levels t) n) (most_outline ts)

abbrev pub keeps_with : ℕ → ℕ → Bool
keeps_with n m = nat_le n 4096 && nat_le m 128

pub keeps_outline : (P : ℕ → ℕ) (t : Typ) → keeps_limits P (outline t) ≡ keeps_limits P t
keeps_outline P t = ap (λ n. keeps_with n (levels (outline t))) (parts_outline P t) ∙ ap (λ n. keeps_with (parts P t) n) (levels_outline t)

-- ---- in a tuple

abbrev pub Low : (ℕ → ℕ) → Typ → Type 0
Low Z t = (levels t ≤ 128) × (parts Z t ≤ 4096)

least : (n : ℕ) → n ≤ at_least_one n
least zero = omega arith
least (suc n) = omega arith

not_more : (a b c : ℕ) → max a b ≤ c → (a ≤ c) × (b ≤ c)
not_more a b c l = (omega (arith, l), omega (arith, l))

within_levels : (ts : List Typ) (n : ℕ) → most_levels (shapes_of ts) ≤ n → Every (λ (t : Typ). levels t ≤ n) ts
within_levels [] n l = tt
within_levels (t ∷ ts) n l = let a = not_more (levels t) (most_levels (shapes_of ts)) n l in (a.0, within_levels ts n a.1)

pub within_parts : (Z : ℕ → ℕ) (ts : List Typ) (n : ℕ) → sum_of_parts Z (shapes_of ts) ≤ n → Every (λ (t : Typ). parts Z t ≤ n) ts
within_parts Z [] n l = tt
within_parts Z (t ∷ ts) n l = (omega (arith, l), within_parts Z ts n (omega (arith, l)))

pub in_tuple : (Z : ℕ → ℕ) (ts : List Typ) → Low Z (tuple_of (shapes_of ts)) → Every (Low Z) ts
in_tuple Z ts l =
    let n = sum_of_parts Z (shapes_of ts) in let few = least n in
    both (λ (t : Typ). levels t ≤ 128) (λ (t : Typ). parts Z t ≤ 4096) (Low Z) (λ t a b. (a, b)) ts (within_levels ts 128 (omega (arith, l.0))) (within_parts Z ts 4096 (omega (arith, few, l.1)))

-- ---- of a program with fewer parts, by other numbers

least_less : (a b : ℕ) → a ≤ b → at_least_one a ≤ at_least_one b
least_less zero zero l = omega arith
least_less zero (suc b) l = omega arith
least_less (suc a) zero l = absurd (omega (arith, l))
least_less (suc a) (suc b) l = l

module _ (P Q : ℕ → ℕ) (less : (i : ℕ) → P i ≤ Q i) where
  mutual
    parts_less : (t : Shape Kind) → parts P t ≤ parts Q t
    parts_less (integer k) = omega arith
    parts_less boolean = omega arith
    parts_less (tuple_of ts) = least_less (sum_of_parts P ts) (sum_of_parts Q ts) (sum_less ts)
    parts_less (reference m t) = let l = parts_less t in omega (arith, l)
    parts_less (named i) = less i

    sum_less : (ts : Shapes Kind) → sum_of_parts P ts ≤ sum_of_parts Q ts
    sum_less no_shape = omega arith
    sum_less (shape_and t ts) = let l = parts_less t in let m = sum_less ts in omega (arith, l, m)

module _ (r : Renumbering) (W Z : ℕ → ℕ) (less : (i : ℕ) → W (r.items i) ≤ Z i) where
  pub low_keeps : (t : Typ) → Low Z t → IsTrue (keeps_limits W (outline (shape_at r t)))
  low_keeps t l =
      let here = parts_less (λ i. W (r.items i)) Z less t in
      let few : parts W (shape_at r t) ≤ 4096 = subst (λ (n : ℕ). n ≤ 4096) (sym (parts_stay r W t)) (omega (arith, here, l.1)) in
      let low : levels (shape_at r t) ≤ 128 = subst (λ (n : ℕ). n ≤ 128) (sym (levels_stay r t)) l.0 in
      keeps_outline W (shape_at r t) ∙ and_from (nat_le (parts W (shape_at r t)) 4096) (nat_le (levels (shape_at r t)) 128) (le-leb (parts W (shape_at r t)) 4096 few) (le-leb (levels (shape_at r t)) 128 low)
