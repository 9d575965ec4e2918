-- Pairs that are listed a chunk of 64 shorter members after the other.
use Rattle.std.proofs.Common.{◌≡◌, ◌⊎◌, inl, inr, ℕ, zero, suc, ◌+◌, ◌-◌, ◌*◌, ◌/◌, ◌%◌, ◌<◌, ◌≤◌, Bool, true, false, ◌&&◌, not, ◌==◌, List, [], ◌++◌, get_or, refl, ap, sym, ◌∙◌, arith}
use Rattle.std.proofs.lemmas.Bool.{cases_eq, eqb-true}
use Rattle.std.proofs.lemmas.List.{append_assoc}
use Rattle.std.proofs.lemmas.Nat.Bits.{bit_at-zero}
use Rattle.std.specs.Int.{bit_at}
use Rattle.rx_core.specs.declared.types.Bound.{Bound}
use Rattle.rx_graph_bits.specs.Rows.{holds}
use Rattle.rx_graph.specs.Tables.{at}
use Rattle.rx_graph_closure.specs.Listing.{pair_if, pairs_of}

-- a word that is 0 holds none of its numbers
by_word : (ws : List ℕ) (i : ℕ) → get_or ws (i / 64) 0 ≡ 0 → holds ws i ≡ false
by_word ws i e = ap (λ w. bit_at w (i % 64) == 1) e ∙ ap (λ b. b == 1) (bit_at-zero (i % 64))

-- of 64 numbers one after the other all stand in two words
by_words : (ws : List ℕ) (n i : ℕ) → get_or ws (n / 64) 0 ≡ 0 → get_or ws ((n + 63) / 64) 0 ≡ 0 → n ≤ i → i < n + 64 → holds ws i ≡ false
by_words ws n i first last from below = go (cases_eq (i / 64) (n / 64)) where
  go : (i / 64 ≡ n / 64) ⊎ (i / 64 ≡ n / 64 → ⊥) → holds ws i ≡ false
  go (inl e) = by_word ws i (ap (λ k. get_or ws k 0) e ∙ first)
  go (inr d) = by_word ws i (ap (λ k. get_or ws k 0) (omega (arith, d, from, below)) ∙ last)

pub none_held : (rows : List (List ℕ)) (ws : List ℕ) (base l from first last : ℕ) → ws ≡ get_or rows l []
    → first ≡ get_or ws ((base + from) / 64) 0 → last ≡ get_or ws ((base + from + 63) / 64) 0 → first ≡ 0 → (last == 0) ≡ true
    → (j : ℕ) → j < 64 → at rows l (base + (from + j)) ≡ false
none_held rows ws base l from first last row one other e f j h = ap (λ r. holds r (base + (from + j))) (sym row)
    ∙ by_words ws (base + from) (base + (from + j)) (sym one ∙ e) (sym other ∙ eqb-true last 0 f) (omega arith) (omega (arith, h))

-- numbers of which the test holds of none add no pair
pub no_pairs : (f : ℕ → ℕ → Bool) (l k n : ℕ) → ((j : ℕ) → j < n → f l (k + j) ≡ false) → pairs_of f l k n ≡ []
no_pairs f l k zero none = refl
no_pairs f l k (suc n) none =
    ap (λ b. pair_if b l k ++ pairs_of f l (suc k) n) (ap (f l) (omega arith) ∙ none 0 (omega arith))
    ∙ no_pairs f l (suc k) n (λ j h. ap (f l) (omega arith) ∙ none (suc j) (omega (arith, h)))

-- those of one chunk, then those behind it
pub pairs_then : (f : ℕ → ℕ → Bool) (l k n m : ℕ) → pairs_of f l k (n + m) ≡ pairs_of f l k n ++ pairs_of f l (k + n) m
pairs_then f l k zero m = ap (λ x. pairs_of f l k x) (none m) ∙ ap (λ x. pairs_of f l x m) (same k) where
  none : (m : ℕ) → zero + m ≡ m
  none m = omega arith

  same : (k : ℕ) → k ≡ k + zero
  same k = omega arith
pairs_then f l k (suc n) m = ap (λ x. pairs_of f l k x) (one n m)
    ∙ ap (λ ps. pair_if (f l k) l k ++ ps) (pairs_then f l (suc k) n m ∙ ap (λ x. pairs_of f l (suc k) n ++ pairs_of f l x m) (next k n))
    ∙ sym (append_assoc (pair_if (f l k) l k) (pairs_of f l (suc k) n) (pairs_of f l (k + suc n) m))
  where
    one : (n m : ℕ) → suc n + m ≡ suc (n + m)
    one n m = omega arith

    next : (k n : ℕ) → suc k + n ≡ k + suc n
    next k n = omega arith

-- a chunk whose numbers are not held adds no pair
pub none_added : (rows others : List (List ℕ)) (base l from until : ℕ) → ((j : ℕ) → j < 64 → at rows l (base + (from + j)) ≡ false) → until ≤ from + 64
    → pairs_of (λ x k. at rows x (base + k) && not (at others x k)) l from (until - from) ≡ []
none_added rows others base l from until none within = no_pairs (λ x k. at rows x (base + k) && not (at others x k)) l from (until - from)
    (λ j h. ap (λ b. b && not (at others l (from + j))) (none j (omega (arith, h, within))))

-- one more chunk
pub chunk_more : (f : ℕ → ℕ → Bool) (l c n : ℕ) (old new X : List Bound) → c < n / 64
    → new ≡ old ++ pairs_of f l (c * 64) (c * 64 + 64 - c * 64) → old ++ pairs_of f l (c * 64) (n - c * 64) ≡ X
    → new ++ pairs_of f l ((c + 1) * 64) (n - (c + 1) * 64) ≡ X
chunk_more f l c n old new X less grows before =
    ap (λ qs. qs ++ rest) (grows ∙ ap (λ w. old ++ pairs_of f l (c * 64) w) width)
    ∙ append_assoc old (pairs_of f l (c * 64) 64) rest
    ∙ ap (λ k. old ++ (pairs_of f l (c * 64) 64 ++ pairs_of f l k (n - (c + 1) * 64))) next
    ∙ ap (λ ps. old ++ ps) (sym (pairs_then f l (c * 64) 64 (n - (c + 1) * 64)))
    ∙ ap (λ w. old ++ pairs_of f l (c * 64) w) whole ∙ before
  where
    rest : List Bound
    rest = pairs_of f l ((c + 1) * 64) (n - (c + 1) * 64)

    width : c * 64 + 64 - c * 64 ≡ 64
    width = omega arith

    next : (c + 1) * 64 ≡ c * 64 + 64
    next = omega arith

    whole : 64 + (n - (c + 1) * 64) ≡ n - c * 64
    whole = omega (arith, less)
