-- Rounds that add to rows end: how much can be added to them.
use Rattle.std.proofs.Common.{◌≡◌, ℕ, zero, suc, ◌+◌, ◌*◌, ◌-◌, ◌<◌, ◌≤◌, Bool, List, [], ◌∷◌, length, get_or, if◌then◌else◌, subst, arith}
use Rattle.rx_graph_bits.specs.Rows.{Bounded}
use Rattle.rx_graph.specs.Tables.{total, Regular}

-- what stands in so many rows of so many words is at most this
abbrev pub most : ℕ → ℕ → ℕ
most w zero = 0
most w (suc n) = 18446744073709551615 * w + most w n

pub total_below : (w : ℕ) (T : List (List ℕ)) → ((p : ℕ) → p < length T → length (get_or T p []) ≡ w) → ((p : ℕ) → p < length T → Bounded (get_or T p []))
    → total T ≤ most w (length T)
total_below w [] a b = omega arith
total_below w (r ∷ T) a b =
    let first = b zero (omega arith) in let e = a zero (omega arith) in
    let rest = total_below w T (λ p h. a (suc p) (omega (arith, h))) (λ p h. b (suc p) (omega (arith, h))) in omega (arith, first, e, rest)

pub below_most : (w : ℕ) (A T : List (List ℕ)) → Regular (length A) w T → total T ≤ most w (length A)
below_most w A T h = subst (λ n. total T ≤ most w n) h.count
    (total_below w T (λ p x. h.width p (omega (arith, x, h.count))) (λ p x. h.bounded p (omega (arith, x, h.count))))

-- what is left: twice what may still be added, and one round
abbrev pub rounds_left : ℕ → ℕ → List (List ℕ) → Bool → ℕ
rounds_left w n T grown = 2 * (most w n - total T) + (if grown then 1 else 0)
