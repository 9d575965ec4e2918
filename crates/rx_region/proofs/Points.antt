-- Points and their numbers.
use Rattle.std.proofs.Common.{◌≡◌, ◌⊎◌, inl, inr, ℕ, zero, suc, ◌+◌, ◌*◌, ◌-◌, ◌/◌, ◌%◌, ◌<◌, ◌≤◌, Bool, true, false, ◌&&◌, ◌==◌, if◌then◌else◌, List, [], ◌∷◌, length, get_or, refl, sym, ap, ◌∙◌, subst, arith, true≢false, nat_lt}
use Rattle.std.proofs.lemmas.Bool.{cases_lt, lt-ltb, ltb-true, le-ltb, ltb-false}
use Rattle.std.proofs.lemmas.Nat.Bits.{bit_at-zero}
use Rattle.std.specs.Int.{bit_at}
use Rattle.rx_graph_bits.specs.Rows.{holds}
use Rattle.rx_graph.specs.Tables.{at, Regular}
use Rattle.rx_graph.proofs.Spreading.{both_of}
use Rattle.rx_region.specs.Solutions.{Point, site, end}
use Rattle.rx_region.specs.Points.{number, point, has_point}

-- ---- what stands in a table is inside it

pub there : (T : List (List ℕ)) (l i : ℕ) → at T l i ≡ true → l < length T
there [] l i h = absurd (true≢false (sym h ∙ ap (λ b. b == 1) (bit_at-zero (i % 64))))
there (r ∷ T) zero i h = omega arith
there (r ∷ T) (suc l) i h = let rest = there T l i h in omega (arith, rest)

past : (ws : List ℕ) (k : ℕ) → length ws ≤ k → get_or ws k 0 ≡ 0
past [] k h = refl
past (w ∷ ws) zero h = absurd (omega (arith, h))
past (w ∷ ws) (suc k) h = past ws k (omega (arith, h))

pub holds_within : (ws : List ℕ) (i : ℕ) → holds ws i ≡ true → i < 64 * length ws
holds_within ws i h = go (cases_lt i (64 * length ws)) where
  go : (i < 64 * length ws) ⊎ (64 * length ws ≤ i) → i < 64 * length ws
  go (inl x) = x
  go (inr x) = absurd (true≢false (sym h ∙ ap (λ w. bit_at w (i % 64) == 1) (past ws (i / 64) (omega (arith, x))) ∙ ap (λ b. b == 1) (bit_at-zero (i % 64))))

pub within_words : (n w : ℕ) (T : List (List ℕ)) (l i : ℕ) → Regular n w T → at T l i ≡ true → i < 64 * w
within_words n w T l i h e = let t = there T l i e in subst (λ v. i < 64 * v) (h.width l (omega (arith, t, h.count))) (holds_within (get_or T l []) i e)

-- ---- points

pub at_point : (T : List (List ℕ)) (n l i : ℕ) → has_point T n l (point n i) ≡ at T l i
at_point T n l i = go (nat_lt i n) refl where
  go : (b : Bool) → nat_lt i n ≡ b → has_point T n l (if b then site i else end (i - n)) ≡ at T l i
  go true e = ap (λ c. c && at T l i) e
  go false e = ap (λ k. at T l k) (let f = ltb-false i n e in omega (arith, f))

-- the number of a site is below the number of sites
abbrev pub Inside : ℕ → Point → Type 0
Inside n (site p) = p < n
Inside n (end k) = Unit {0}

pub point_number : (n : ℕ) (x : Point) → Inside n x → point n (number n x) ≡ x
point_number n (site p) h = ap (λ b. if b then site p else end (p - n)) (lt-ltb p n h)
point_number n (end k) h = ap (λ b. if b then site (n + k) else end (n + k - n)) (le-ltb (n + k) n (omega arith)) ∙ ap end (omega arith)

pub point_inside : (T : List (List ℕ)) (n l : ℕ) (x : Point) → has_point T n l x ≡ true → Inside n x × (at T l (number n x) ≡ true)
point_inside T n l (site p) h = let b = both_of (nat_lt p n) (at T l p) h in (ltb-true p n b.0, b.1)
point_inside T n l (end k) h = (tt, h)

pub point_has : (T : List (List ℕ)) (n l : ℕ) (x : Point) → Inside n x → at T l (number n x) ≡ true → has_point T n l x ≡ true
point_has T n l (site p) i e = ap (λ b. b && at T l p) (lt-ltb p n i) ∙ e
point_has T n l (end k) i e = e
