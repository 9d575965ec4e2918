-- Words and the numbers that they hold.
use Rattle.std.proofs.Common.{◌≡◌, ◌⊎◌, inl, inr, ℕ, zero, suc, ◌+◌, ◌-◌, ◌*◌, ◌/◌, ◌%◌, ◌^◌, ◌<◌, ◌≤◌, List, [], ◌∷◌, length, get_or, arith, refl, ap, sym, ◌∙◌, Bool, true, false, ◌||◌, ◌&&◌, not, ◌==◌, w64, max, subst, true≢false}
use Rattle.std.proofs.Math.ListN.{set}
use Rattle.std.proofs.lemmas.Bool.{cases_eq, cases_lt, eq-eqb, eqb-true, eqb-false}
use Rattle.std.proofs.lemmas.List.{get_or-set_same, get_or-set_other, length-set}
use Rattle.std.proofs.lemmas.Nat.{le_or_l}
use Rattle.std.proofs.lemmas.Nat.Bits.{bit_at_or, bit_at-lt, bit_at_set_same, bit_at_set_other, bit_at_clear_same, bit_at_clear_other}
use Rattle.std.specs.Prelude.{bit_and, bit_or}
use Rattle.std.specs.Int.{bit_at, bit_not}
use Rattle.rx_graph_bits.specs.Rows.{holds, rank, Bounded, Inserted, Removed, Joined}

-- ---- one number

different : (i n : ℕ) → (i ≡ n → ⊥) → (i == n) ≡ false
different i n h = go (i == n) refl where
  go : (b : Bool) → (i == n) ≡ b → b ≡ false
  go true e = absurd (h (eqb-true i n e))
  go false e = refl

-- a word is put in the place of another, in which only the bit of this number differs
module _ (ws : List ℕ) (n w : ℕ) (within : n < 64 * length ws) where
  elsewhere : (i : ℕ) → (i / 64 ≡ n / 64 → ⊥) → holds (set ws (n / 64) w) i ≡ holds ws i
  elsewhere i h = ap (λ x. bit_at x (i % 64) == 1) (get_or-set_other ws (n / 64) (i / 64) w 0 h)

  here : (i : ℕ) → i / 64 ≡ n / 64 → holds (set ws (n / 64) w) i ≡ (bit_at w (i % 64) == 1)
  here i h = ap (λ x. bit_at x (i % 64) == 1) (ap (λ k. get_or (set ws (n / 64) w) k 0) h ∙ get_or-set_same ws (n / 64) w 0 (omega (arith, within)))

  was : (i : ℕ) → i / 64 ≡ n / 64 → holds ws i ≡ (bit_at (get_or ws (n / 64) 0) (i % 64) == 1)
  was i h = ap (λ k. bit_at (get_or ws k 0) (i % 64) == 1) h

pub inserted : (ws : List ℕ) (n : ℕ) → n < 64 * length ws
    → Inserted ws (set ws (n / 64) (bit_or (get_or ws (n / 64) 0) (1 * 2 ^ (n % 64) % 2 ^ 64))) n
inserted ws n within = record { width = length-set ws (n / 64) _; holds = λ i h. each i } where
  w : ℕ
  w = bit_or (get_or ws (n / 64) 0) (1 * 2 ^ (n % 64) % 2 ^ 64)

  beside : (i : ℕ) → (i ≡ n → ⊥) → holds (set ws (n / 64) w) i ≡ holds ws i → holds (set ws (n / 64) w) i ≡ (i == n || holds ws i)
  beside i h e = e ∙ ap (λ b. b || holds ws i) (sym (different i n h))

  inside : (i : ℕ) → i / 64 ≡ n / 64 → (i % 64 ≡ n % 64) ⊎ (i % 64 ≡ n % 64 → ⊥) → holds (set ws (n / 64) w) i ≡ (i == n || holds ws i)
  inside i h (inl e) = here ws n w within i h ∙ ap (λ k. bit_at w k == 1) e
      ∙ ap (λ x. x == 1) (bit_at_set_same w64 (get_or ws (n / 64) 0) (n % 64) (omega arith))
      ∙ ap (λ b. b || holds ws i) (sym (eq-eqb i n (omega (arith, h, e))))
  inside i h (inr e) = beside i (λ x. e (ap (λ k. k % 64) x)) (here ws n w within i h
      ∙ ap (λ x. x == 1) (bit_at_set_other w64 (get_or ws (n / 64) 0) (n % 64) (omega arith) (i % 64) e) ∙ sym (was ws n w within i h))

  at : (i : ℕ) → (i / 64 ≡ n / 64) ⊎ (i / 64 ≡ n / 64 → ⊥) → holds (set ws (n / 64) w) i ≡ (i == n || holds ws i)
  at i (inl h) = inside i h (cases_eq (i % 64) (n % 64))
  at i (inr h) = beside i (λ x. h (ap (λ k. k / 64) x)) (elsewhere ws n w within i h)

  each : (i : ℕ) → holds (set ws (n / 64) w) i ≡ (i == n || holds ws i)
  each i = at i (cases_eq (i / 64) (n / 64))

pub removed : (ws : List ℕ) (n : ℕ) → n < 64 * length ws
    → Removed ws (set ws (n / 64) (bit_and (get_or ws (n / 64) 0) (bit_not w64 (1 * 2 ^ (n % 64) % 2 ^ 64)))) n
removed ws n within = record { width = length-set ws (n / 64) _; holds = λ i h. each i } where
  w : ℕ
  w = bit_and (get_or ws (n / 64) 0) (bit_not w64 (1 * 2 ^ (n % 64) % 2 ^ 64))

  beside : (i : ℕ) → (i ≡ n → ⊥) → holds (set ws (n / 64) w) i ≡ holds ws i → holds (set ws (n / 64) w) i ≡ (not (i == n) && holds ws i)
  beside i h e = e ∙ ap (λ b. not b && holds ws i) (sym (different i n h))

  inside : (i : ℕ) → i / 64 ≡ n / 64 → (i % 64 ≡ n % 64) ⊎ (i % 64 ≡ n % 64 → ⊥) → holds (set ws (n / 64) w) i ≡ (not (i == n) && holds ws i)
  inside i h (inl e) = here ws n w within i h ∙ ap (λ k. bit_at w k == 1) e
      ∙ ap (λ x. x == 1) (bit_at_clear_same w64 (get_or ws (n / 64) 0) (n % 64) (omega arith))
      ∙ ap (λ b. not b && holds ws i) (sym (eq-eqb i n (omega (arith, h, e))))
  inside i h (inr e) = beside i (λ x. e (ap (λ k. k % 64) x)) (here ws n w within i h
      ∙ ap (λ x. x == 1) (bit_at_clear_other w64 (get_or ws (n / 64) 0) (n % 64) (omega arith) (i % 64) (omega arith) e) ∙ sym (was ws n w within i h))

  at : (i : ℕ) → (i / 64 ≡ n / 64) ⊎ (i / 64 ≡ n / 64 → ⊥) → holds (set ws (n / 64) w) i ≡ (not (i == n) && holds ws i)
  at i (inl h) = inside i h (cases_eq (i % 64) (n % 64))
  at i (inr h) = beside i (λ x. h (ap (λ k. k / 64) x)) (elsewhere ws n w within i h)

  each : (i : ℕ) → holds (set ws (n / 64) w) i ≡ (not (i == n) && holds ws i)
  each i = at i (cases_eq (i / 64) (n / 64))

-- a number that the row has no bit for
pub not_inserted : (ws : List ℕ) (n : ℕ) → 64 * length ws ≤ n → Inserted ws ws n
not_inserted ws n h = record { width = refl; holds = λ i k. ap (λ b. b || holds ws i) (sym (different i n (λ e. omega (arith, h, k, e)))) }

pub not_removed : (ws : List ℕ) (n : ℕ) → 64 * length ws ≤ n → Removed ws ws n
not_removed ws n h = record { width = refl; holds = λ i k. ap (λ b. not b && holds ws i) (sym (different i n (λ e. omega (arith, h, k, e)))) }

-- ---- two rows

less : {a b : ℕ} → a ≤ b → (b ≡ a → ⊥) → a < b
less {a} {b} h d = omega (arith, h, d)

subst2 : (P : ℕ → ℕ → Type 0) {a c b d : ℕ} → a ≡ c → b ≡ d → P a b → P c d
subst2 P {a} {c} {b} {d} p q x = subst (λ y. P c y) q (subst (λ y. P y b) p x)

two : {A B C : Type 0} (f : A → B → C) {a c : A} {b d : B} → a ≡ c → b ≡ d → f a b ≡ f c d
two f {a} {c} {b} {d} p q = ap (λ x. f x b) p ∙ ap (λ y. f c y) q

one_of : (a b : ℕ) → a < 2 → b < 2 → (max a b == 1) ≡ (a == 1 || b == 1)
one_of zero zero h k = refl
one_of zero (suc zero) h k = refl
one_of (suc zero) zero h k = refl
one_of (suc zero) (suc zero) h k = refl
one_of (suc (suc a)) b h k = absurd (omega (arith, h))
one_of zero (suc (suc b)) h k = absurd (omega (arith, k))
one_of (suc zero) (suc (suc b)) h k = absurd (omega (arith, k))

pub or_holds : (old other new : List ℕ) (i : ℕ) → get_or new (i / 64) 0 ≡ bit_or (get_or old (i / 64) 0) (get_or other (i / 64) 0)
    → holds new i ≡ (holds old i || holds other i)
or_holds old other new i e = ap (λ w. bit_at w (i % 64) == 1) e
    ∙ ap (λ b. b == 1) (bit_at_or (get_or old (i / 64) 0) (get_or other (i / 64) 0) (i % 64))
    ∙ one_of _ _ (bit_at-lt (get_or old (i / 64) 0) (i % 64)) (bit_at-lt (get_or other (i / 64) 0) (i % 64))

-- what stands behind the last word
past : (ws : List ℕ) (k : ℕ) → length ws ≤ k → get_or ws k 0 ≡ 0
past [] k h = refl
past (w ∷ ws) zero h = absurd (omega (arith, h))
past (w ∷ ws) (suc k) h = past ws k (omega (arith, h))

pub same_words : (old new : List ℕ) → length new ≡ length old → ((k : ℕ) → k < length old → get_or new k 0 ≡ get_or old k 0) → new ≡ old
same_words [] [] e h = refl
same_words [] (w ∷ ws) e h = absurd (omega (arith, e))
same_words (v ∷ vs) [] e h = absurd (omega (arith, e))
same_words (v ∷ vs) (w ∷ ws) e h = two (λ x l. x ∷ l) (h zero (omega arith)) (same_words vs ws (omega (arith, e)) (λ k i. h (suc k) (omega (arith, i))))

ranks : (old new : List ℕ) → length new ≡ length old → ((k : ℕ) → k < length old → get_or old k 0 ≤ get_or new k 0) → rank old ≤ rank new
ranks [] [] e h = omega arith
ranks [] (w ∷ ws) e h = absurd (omega (arith, e))
ranks (v ∷ vs) [] e h = absurd (omega (arith, e))
ranks (v ∷ vs) (w ∷ ws) e h =
    let first = h zero (omega arith) in let rest = ranks vs ws (omega (arith, e)) (λ k i. h (suc k) (omega (arith, i))) in omega (arith, first, rest)

pub higher : (old new : List ℕ) (j : ℕ) → length new ≡ length old → ((k : ℕ) → k < length old → get_or old k 0 ≤ get_or new k 0)
    → j < length old → get_or old j 0 < get_or new j 0 → rank old < rank new
higher [] new j e h within more = absurd (omega (arith, within))
higher (v ∷ vs) [] j e h within more = absurd (omega (arith, e))
higher (v ∷ vs) (w ∷ ws) zero e h within more =
    let rest = ranks vs ws (omega (arith, e)) (λ k i. h (suc k) (omega (arith, i))) in omega (arith, more, rest)
higher (v ∷ vs) (w ∷ ws) (suc j) e h within more =
    let first = h zero (omega arith) in
    let rest = higher vs ws j (omega (arith, e)) (λ k i. h (suc k) (omega (arith, i))) (omega (arith, within)) more in omega (arith, first, rest)

-- each word of a row is joined with that of another
pub data Grown (old new : List ℕ) (n : ℕ) : Bool → Type 0 where
  as_it_was : ((k : ℕ) → k < n → get_or new k 0 ≡ get_or old k 0) → Grown old new n false
  by_word : (j : ℕ) → j < n → get_or old j 0 < get_or new j 0 → Grown old new n true

pub joined : (old other new : List ℕ) (grown : Bool) → length new ≡ length old → length other ≡ length old
    → ((k : ℕ) → k < length old → get_or new k 0 ≡ bit_or (get_or old k 0) (get_or other k 0)) → Grown old new (length old) grown
    → Joined old other new grown
joined old other new grown e f each how = record { width = e; holds = λ i. or_holds old other new i (at (i / 64)); same = same how; more = more how } where
  at_place : (k : ℕ) → (k < length old) ⊎ (length old ≤ k) → get_or new k 0 ≡ bit_or (get_or old k 0) (get_or other k 0)
  at_place k (inl h) = each k h
  at_place k (inr h) = past new k (omega (arith, e, h))
      ∙ sym (two bit_or (past old k h) (past other k (omega (arith, f, h))))

  at : (k : ℕ) → get_or new k 0 ≡ bit_or (get_or old k 0) (get_or other k 0)
  at k = at_place k (cases_lt k (length old))

  least : (k : ℕ) → k < length old → get_or old k 0 ≤ get_or new k 0
  least k h = subst (λ x. get_or old k 0 ≤ x) (sym (each k h)) (le_or_l (get_or old k 0) (get_or other k 0))

  same : {b : Bool} → Grown old new (length old) b → b ≡ false → new ≡ old
  same (as_it_was h) x = same_words old new e h
  same (by_word j i m) x = absurd (true≢false x)

  more : {b : Bool} → Grown old new (length old) b → b ≡ true → rank old < rank new
  more (as_it_was h) x = absurd (true≢false (sym x))
  more (by_word j i m) x = higher old new j e least i m

-- the first words are joined
pub record JoinedTo (old other now : List ℕ) (k : ℕ) (grown : Bool) : Type 0 where
  pub width : length now ≡ length old
  pub done : (j : ℕ) → j < k → get_or now j 0 ≡ bit_or (get_or old j 0) (get_or other j 0)
  pub left : (j : ℕ) → k ≤ j → get_or now j 0 ≡ get_or old j 0
  pub grows : Grown old now k grown

pub none_joined : (old other : List ℕ) → JoinedTo old other old 0 false
none_joined old other = record { width = refl; done = λ j h. absurd (omega (arith, h)); left = λ j h. refl; grows = as_it_was (λ k h. refl) }

pub join_next : (old other now : List ℕ) (k : ℕ) (grown : Bool) → length other ≡ length old → k < length old → JoinedTo old other now k grown
    → JoinedTo old other (set now k (bit_or (get_or now k 0) (get_or other k 0))) (k + 1)
    (grown || not (bit_or (get_or now k 0) (get_or other k 0) == get_or now k 0))
join_next old other now k grown e within h = record { width = length-set now k w ∙ h.width; done = λ j i. done j (cases_eq j k) i; left = left; grows = grows } where
  w : ℕ
  w = bit_or (get_or now k 0) (get_or other k 0)

  here : get_or (set now k (bit_or (get_or now k 0) (get_or other k 0))) k 0 ≡ bit_or (get_or old k 0) (get_or other k 0)
  here = get_or-set_same now k _ 0 (omega (arith, h.width, within)) ∙ ap (λ x. bit_or x (get_or other k 0)) (h.left k (omega arith))

  there : (j : ℕ) → (j ≡ k → ⊥) → get_or (set now k (bit_or (get_or now k 0) (get_or other k 0))) j 0 ≡ get_or now j 0
  there j d = get_or-set_other now k j _ 0 d

  done : (j : ℕ) → (j ≡ k) ⊎ (j ≡ k → ⊥) → j < k + 1 → get_or (set now k (bit_or (get_or now k 0) (get_or other k 0))) j 0 ≡ bit_or (get_or old j 0) (get_or other j 0)
  done j (inl d) i = subst (λ x. get_or (set now k (bit_or (get_or now k 0) (get_or other k 0))) x 0 ≡ bit_or (get_or old x 0) (get_or other x 0)) (sym d) here
  done j (inr d) i = there j d ∙ h.done j (omega (arith, i, d))

  left : (j : ℕ) → k + 1 ≤ j → get_or (set now k (bit_or (get_or now k 0) (get_or other k 0))) j 0 ≡ get_or old j 0
  left j i = there j (λ d. omega (arith, d, i)) ∙ h.left j (omega (arith, i))

  same_below : {b : Bool} → (b ≡ false) → Grown old now k b → (get_or (set now k (bit_or (get_or now k 0) (get_or other k 0))) k 0 ≡ get_or old k 0)
      → (j : ℕ) → (j ≡ k) ⊎ (j ≡ k → ⊥) → j < k + 1 → get_or (set now k (bit_or (get_or now k 0) (get_or other k 0))) j 0 ≡ get_or old j 0
  same_below x g y j (inl d) i = subst (λ z. get_or (set now k (bit_or (get_or now k 0) (get_or other k 0))) z 0 ≡ get_or old z 0) (sym d) y
  same_below x (as_it_was s) y j (inr d) i = there j d ∙ s j (omega (arith, i, d))
  same_below x (by_word j' i' m) y j (inr d) i = absurd (true≢false x)

  by_test : (b c : Bool) → Grown old now k b → (bit_or (get_or now k 0) (get_or other k 0) == get_or now k 0) ≡ c
      → Grown old (set now k (bit_or (get_or now k 0) (get_or other k 0))) (k + 1) (b || not c)
  by_test true c (by_word j i m) x = by_word j (omega (arith, i)) (subst (λ y. get_or old j 0 < y) (sym (there j (λ d. omega (arith, d, i)))) m)
  by_test false true g x = as_it_was (λ j. same_below refl g (get_or-set_same now k _ 0 (omega (arith, h.width, within)) ∙ eqb-true _ _ x ∙ h.left k (omega arith)) j (cases_eq j k))
  by_test false false g x = by_word k (omega arith) (subst2 (λ a b. a < b) (h.left k (omega arith)) (sym (get_or-set_same now k _ 0 (omega (arith, h.width, within))))
      (less (le_or_l (get_or now k 0) (get_or other k 0)) (eqb-false _ _ x)))

  grows : Grown old (set now k (bit_or (get_or now k 0) (get_or other k 0))) (k + 1) (grown || not (bit_or (get_or now k 0) (get_or other k 0) == get_or now k 0))
  grows = by_test grown _ h.grows refl

pub all_joined : (old other now : List ℕ) (k : ℕ) (grown : Bool) → length other ≡ length old → length old ≤ k → k ≤ length old → JoinedTo old other now k grown
    → Joined old other now grown
all_joined old other now k grown e past within h =
    let end : k ≡ length old = omega (arith, past, within) in
    joined old other now grown h.width e (λ j i. h.done j (omega (arith, i, end))) (subst (λ n. Grown old now n grown) end h.grows)

pub bounded : (ws : List ℕ) → ((i : ℕ) → get_or ws i 0 < 2 ^ 64) → Bounded ws
bounded [] h = omega arith
bounded (w ∷ ws) h = let first = h zero in let rest = bounded ws (λ i. h (suc i)) in omega (arith, first, rest)

-- ---- a word before a row

pub bounded_both : (w : ℕ) (ws : List ℕ) → w < 2 ^ 64 → ((i : ℕ) → get_or ws i 0 < 2 ^ 64) → Bounded (w ∷ ws)
bounded_both w ws h k = bounded (w ∷ ws) each where
  each : (i : ℕ) → get_or (w ∷ ws) i 0 < 2 ^ 64
  each zero = h
  each (suc i) = k i

in_first : (w : ℕ) (ws : List ℕ) (i : ℕ) → i < 64 → holds (w ∷ ws) i ≡ (bit_at w (i % 64) == 1)
in_first w ws i h = ap (λ k. bit_at (get_or (w ∷ ws) k 0) (i % 64) == 1) (zeroth i h) where
  zeroth : (i : ℕ) → i < 64 → i / 64 ≡ zero
  zeroth i h = omega (arith, h)

in_rest : (w : ℕ) (ws : List ℕ) (i : ℕ) → 64 ≤ i → holds (w ∷ ws) i ≡ holds ws (i - 64)
in_rest w ws i h = ap (λ k. bit_at (get_or (w ∷ ws) k 0) (i % 64) == 1) (next i h)
    ∙ ap (λ k. bit_at (get_or ws ((i - 64) / 64) 0) k == 1) (same i h) where
      next : (i : ℕ) → 64 ≤ i → i / 64 ≡ suc ((i - 64) / 64)
      next i h = omega (arith, h)

      same : (i : ℕ) → 64 ≤ i → i % 64 ≡ (i - 64) % 64
      same i h = omega (arith, h)

pub inserted_first : (w : ℕ) (ws : List ℕ) (n : ℕ) → n < 64 → Inserted (w ∷ ws) (bit_or w (1 * 2 ^ (n % 64) % 2 ^ 64) ∷ ws) n
inserted_first w ws n h =
    subst (λ k. Inserted (w ∷ ws) (set (w ∷ ws) k (bit_or (get_or (w ∷ ws) k 0) (1 * 2 ^ (n % 64) % 2 ^ 64))) n) (zeroth n h)
    (inserted (w ∷ ws) n (omega (arith, h))) where
      zeroth : (n : ℕ) → n < 64 → n / 64 ≡ zero
      zeroth n h = omega (arith, h)

pub removed_first : (w : ℕ) (ws : List ℕ) (n : ℕ) → n < 64 → Removed (w ∷ ws) (bit_and w (bit_not w64 (1 * 2 ^ (n % 64) % 2 ^ 64)) ∷ ws) n
removed_first w ws n h =
    subst (λ k. Removed (w ∷ ws) (set (w ∷ ws) k (bit_and (get_or (w ∷ ws) k 0) (bit_not w64 (1 * 2 ^ (n % 64) % 2 ^ 64)))) n) (zeroth n h)
    (removed (w ∷ ws) n (omega (arith, h))) where
      zeroth : (n : ℕ) → n < 64 → n / 64 ≡ zero
      zeroth n h = omega (arith, h)

behind_first : (i n : ℕ) → 64 ≤ i → 64 ≤ n → (i - 64 == n - 64) ≡ (i == n)
behind_first i n h k = go (cases_eq i n) where
  go : (i ≡ n) ⊎ (i ≡ n → ⊥) → (i - 64 == n - 64) ≡ (i == n)
  go (inl e) = eq-eqb (i - 64) (n - 64) (ap (λ x. x - 64) e) ∙ sym (eq-eqb i n e)
  go (inr d) = different (i - 64) (n - 64) (λ e. d (omega (arith, h, k, e))) ∙ sym (different i n d)

pub inserted_rest : (w : ℕ) (old new : List ℕ) (n : ℕ) → 64 ≤ n → Inserted old new (n - 64) → Inserted (w ∷ old) (w ∷ new) n
inserted_rest w old new n k x = record { width = ap suc x.width; holds = λ i h. at i h (cases_lt i 64) } where
  at : (i : ℕ) → i < 64 * length (w ∷ old) → (i < 64) ⊎ (64 ≤ i) → holds (w ∷ new) i ≡ (i == n || holds (w ∷ old) i)
  at i h (inl b) = in_first w new i b ∙ sym (in_first w old i b) ∙ ap (λ c. c || holds (w ∷ old) i) (sym (different i n (λ e. omega (arith, b, k, e))))
  at i h (inr b) = in_rest w new i b ∙ x.holds (i - 64) (omega (arith, h, b))
      ∙ two (λ c d. c || d) (behind_first i n b k) (sym (in_rest w old i b))

pub removed_rest : (w : ℕ) (old new : List ℕ) (n : ℕ) → 64 ≤ n → Removed old new (n - 64) → Removed (w ∷ old) (w ∷ new) n
removed_rest w old new n k x = record { width = ap suc x.width; holds = λ i h. at i h (cases_lt i 64) } where
  at : (i : ℕ) → i < 64 * length (w ∷ old) → (i < 64) ⊎ (64 ≤ i) → holds (w ∷ new) i ≡ (not (i == n) && holds (w ∷ old) i)
  at i h (inl b) = in_first w new i b ∙ sym (in_first w old i b) ∙ ap (λ c. not c && holds (w ∷ old) i) (sym (different i n (λ e. omega (arith, b, k, e))))
  at i h (inr b) = in_rest w new i b ∙ x.holds (i - 64) (omega (arith, h, b))
      ∙ two (λ c d. not c && d) (behind_first i n b k) (sym (in_rest w old i b))

pub joined_both : (w v : ℕ) (old other new : List ℕ) (more : Bool) → Joined old other new more
    → Joined (w ∷ old) (v ∷ other) (bit_or w v ∷ new) (not (bit_or w v == w) || more)
joined_both w v old other new more x = record { width = ap suc x.width; holds = λ i. at i (cases_lt i 64); same = same _ refl; more = grows _ refl } where
  at : (i : ℕ) → (i < 64) ⊎ (64 ≤ i) → holds (bit_or w v ∷ new) i ≡ (holds (w ∷ old) i || holds (v ∷ other) i)
  at i (inl b) = in_first (bit_or w v) new i b ∙ ap (λ c. c == 1) (bit_at_or w v (i % 64)) ∙ one_of _ _ (bit_at-lt w (i % 64)) (bit_at-lt v (i % 64))
      ∙ two (λ c d. c || d) (sym (in_first w old i b)) (sym (in_first v other i b))
  at i (inr b) = in_rest (bit_or w v) new i b ∙ x.holds (i - 64) ∙ two (λ c d. c || d) (sym (in_rest w old i b)) (sym (in_rest v other i b))

  same : (b : Bool) → (bit_or w v == w) ≡ b → (not b || more) ≡ false → bit_or w v ∷ new ≡ w ∷ old
  same true e f = two (λ y l. y ∷ l) (eqb-true _ _ e) (x.same f)
  same false e f = absurd (true≢false f)

  grows : (b : Bool) → (bit_or w v == w) ≡ b → (not b || more) ≡ true → rank (w ∷ old) < rank (bit_or w v ∷ new)
  grows true e f = let first = eqb-true _ _ e in let rest = x.more f in omega (arith, first, rest)
  grows false e f = let first = less (le_or_l w v) (eqb-false _ _ e) in let rest = least_rank _ refl in omega (arith, first, rest) where
    least_rank : (c : Bool) → more ≡ c → rank old ≤ rank new
    least_rank true d = let up = x.more d in omega (arith, up)
    least_rank false d = let up = ap rank (x.same d) in omega (arith, up)
