-- Rows that are filled number by number, and lists of rows.
use Rattle.std.proofs.Common.{◌≡◌, ◌⊎◌, inl, inr, ℕ, ◌+◌, ◌*◌, ◌<◌, ◌≤◌, Bool, true, false, ◌&&◌, ◌||◌, List, [], ◌∷◌, ◌++◌, length, get_or, refl, sym, ap, subst, ◌∙◌, arith}
use Rattle.std.proofs.lemmas.Bool.{cases_eq, eq-eqb}
use Rattle.std.proofs.lemmas.List.{length_push, get_or_push, get_or_append_left}
use Rattle.rx_graph_bits.specs.Rows.{holds, words}
use Rattle.rx_region.specs.Solutions.{Sets, site, end}
use Rattle.rx_cert_tables.proofs.Tests.{or_none, and_none, differs}
use Rattle.rx_cert_sets.specs.Making.{Marked, Filled, IsPointRow, IsScopeRow, AllRows}

pub filled_none : (P : ℕ → Bool) (from : ℕ) (row : List ℕ) → Filled P from 0 row row
filled_none P from row = record { width = refl; inside = λ k h i. absurd (omega (arith, h)); outside = λ i h o. refl }

-- a number that is not the one that is marked
marked_other : (row new : List ℕ) (n : ℕ) (held : Bool) → Marked row new n held → (i : ℕ) → i < 64 * length row → (i ≡ n → ⊥) → holds new i ≡ holds row i
marked_other row new n held m i h d = m.holds_too i h ∙ ap (λ b. (held && b) || holds row i) (differs i n d) ∙ ap (λ b. b || holds row i) (and_none held)

marked_same : (row new : List ℕ) (n : ℕ) (held : Bool) → Marked row new n held → n < 64 * length row → holds new n ≡ (held || holds row n)
marked_same row new n held m h = m.holds_too n h ∙ ap (λ b. (held && b) || holds row n) (eq-eqb n n refl) ∙ ap (λ b. b || holds row n) (kept held) where
  kept : (b : Bool) → (b && true) ≡ b
  kept true = refl
  kept false = refl

pub filled_more : (P : ℕ → Bool) (from n m : ℕ) (old row new : List ℕ) (held : Bool) → m ≡ n + 1 → held ≡ P n → Filled P from n old row → Marked row new (from + n) held
    → Filled P from m old new
filled_more P from n m old row new held e h f s = record {
  width = s.width ∙ f.width;
  inside = λ k i j. within k i j (cases_eq k n);
  outside = λ i j o. marked_other row new (from + n) held s i (wide i j) (λ q. apart i q o) ∙ f.outside i j (further i o);
} where
  wide : (i : ℕ) → i < 64 * length old → i < 64 * length row
  wide i j = let w = f.width in omega (arith, j, w)

  apart : (i : ℕ) → i ≡ from + n → (i < from) ⊎ (from + m ≤ i) → ⊥
  apart i q (inl o) = omega (arith, q, o)
  apart i q (inr o) = omega (arith, q, o, e)

  further : (i : ℕ) → (i < from) ⊎ (from + m ≤ i) → (i < from) ⊎ (from + n ≤ i)
  further i (inl o) = inl o
  further i (inr o) = inr (omega (arith, o, e))

  within : (k : ℕ) → k < m → from + k < 64 * length old → (k ≡ n) ⊎ (k ≡ n → ⊥) → holds new (from + k) ≡ (P k || holds old (from + k))
  within k i j (inl q) = subst (λ x. holds new (from + x) ≡ (P x || holds old (from + x))) (sym q)
      (marked_same row new (from + n) held s (omega (arith, wide (from + k) j, q)) ∙ ap (λ b. b || holds row (from + n)) h
      ∙ ap (λ b. P n || b) (f.outside (from + n) (omega (arith, j, q)) (inr (omega arith))))
  within k i j (inr q) = marked_other row new (from + n) held s (from + k) (wide (from + k) j) (λ x. q (omega (arith, x))) ∙ f.inside k (omega (arith, i, e, q)) j

pub filled_all : (P : ℕ → Bool) (from n m : ℕ) (old new : List ℕ) → n ≡ m → Filled P from n old new → Filled P from m old new
filled_all P from n m old new e f = subst (λ x. Filled P from x old new) e f

-- ---- the row of a set, and of a scope

pub point_row : (R : Sets) (sites own n : ℕ) (empty row new : List ℕ) → length empty ≡ words (sites + own) → ((i : ℕ) → holds empty i ≡ false)
    → Filled (λ p. R n (site p)) 0 sites empty row → Filled (λ k. R n (end k)) sites own row new → IsPointRow R sites own n new
point_row R sites own n empty row new w none f g = record {
  site_held = λ p h. g.outside p (wide p h) (inl h) ∙ at_site p h;
  end_held = λ k h. g.inside k h (further k h) ∙ ap (λ b. R n (end k) || b) (f.outside (sites + k) (room k h) (inr (omega arith)) ∙ none (sites + k))
      ∙ or_none (R n (end k));
} where
  wide : (p : ℕ) → p < sites → p < 64 * length row
  wide p h = let v = f.width in omega (arith, h, w, v)

  further : (k : ℕ) → k < own → sites + k < 64 * length row
  further k h = let v = f.width in omega (arith, h, w, v)

  room : (k : ℕ) → k < own → sites + k < 64 * length empty
  room k h = omega (arith, h, w)

  from_zero : (p : ℕ) → 0 + p ≡ p
  from_zero p = omega arith

  at_site : (p : ℕ) → p < sites → holds row p ≡ R n (site p)
  at_site p h = ap (holds row) (sym (from_zero p)) ∙ f.inside p h (omega (arith, h, w)) ∙ ap (λ b. R n (site p) || b) (none (0 + p)) ∙ or_none (R n (site p))

pub scope_row : (S : ℕ → ℕ → Bool) (sites n : ℕ) (empty row : List ℕ) → length empty ≡ words sites → ((i : ℕ) → holds empty i ≡ false)
    → Filled (λ p. S n p) 0 sites empty row → IsScopeRow S sites n row
scope_row S sites n empty row w none f = record {
  site_held = λ p h. ap (holds row) (sym (from_zero p)) ∙ f.inside p h (omega (arith, h, w)) ∙ ap (λ b. S n p || b) (none (0 + p)) ∙ or_none (S n p);
} where
  from_zero : (p : ℕ) → 0 + p ≡ p
  from_zero p = omega arith

-- ---- a row more

pub no_rows : (Holds : ℕ → List ℕ → Type 0) → AllRows Holds 0 []
no_rows Holds = record { counted = refl; each = λ n h. absurd (omega (arith, h)) }

pub rows_more : (Holds : ℕ → List ℕ → Type 0) (k m : ℕ) (rows new : List (List ℕ)) (row : List ℕ) → m ≡ k + 1 → Holds k row → new ≡ rows ++ row ∷ [] → AllRows Holds k rows
    → AllRows Holds m new
rows_more Holds k m rows new row e h is a = subst (λ (rs : List (List ℕ)). AllRows Holds m rs) (sym is)
    (record { counted = length_push rows row ∙ count; each = λ n i. at n i (cases_eq n k) }) where
      count : length rows + 1 ≡ m
      count = let c = a.counted in omega (arith, c, e)

      at : (n : ℕ) → n < m → (n ≡ k) ⊎ (n ≡ k → ⊥) → Holds n (get_or (rows ++ row ∷ []) n [])
      at n i (inl q) = subst (λ x. Holds x (get_or (rows ++ row ∷ []) x [])) (sym q) (subst (λ (r : List ℕ). Holds k r) (sym (get_or_push rows row [] k a.counted)) h)
      at n i (inr q) = subst (λ (r : List ℕ). Holds n r) (sym (get_or_append_left rows (row ∷ []) [] n (within n i q))) (a.each n (below n i q))
        where
          below : (n : ℕ) → n < m → (n ≡ k → ⊥) → n < k
          below n i q = omega (arith, i, e, q)

          within : (n : ℕ) → n < m → (n ≡ k → ⊥) → n < length rows
          within n i q = let c = a.counted in omega (arith, i, e, q, c)

pub rows_all : (Holds : ℕ → List ℕ → Type 0) (k m : ℕ) (rows new : List (List ℕ)) → k ≡ m → new ≡ rows → AllRows Holds k rows → AllRows Holds m new
rows_all Holds k m rows new e is a = subst (λ (rs : List (List ℕ)). AllRows Holds m rs) (sym is) (subst (λ x. AllRows Holds x rows) e a)

-- the same from the first number on
pub filled_next : (P : ℕ → Bool) (n : ℕ) (old row new : List ℕ) (held : Bool) → held ≡ P n → Filled P 0 n old row → Marked row new n held → Filled P 0 (n + 1) old new
filled_next P n old row new held h f s = filled_more P 0 n (n + 1) old row new held refl h f (subst (λ x. Marked row new x held) (zeroth n) s) where
  zeroth : (n : ℕ) → n ≡ 0 + n
  zeroth n = omega arith
