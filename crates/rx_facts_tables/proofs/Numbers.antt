-- Lists of numbers: those between two, and those at which something holds of a place.
use Rattle.std.proofs.Common.{◌≡◌, ◌⊎◌, inl, inr, ℕ, zero, suc, ◌+◌, ◌<◌, ◌≤◌, Bool, true, false, ◌||◌, ◌&&◌, ◌==◌, nat_le, nat_lt, List, [], ◌∷◌, ◌++◌, length, get_or, refl, ap, sym, ◌∙◌, subst, arith, true≢false}
use Rattle.std.proofs.lemmas.Bool.{cases_eq, cases_lt, leb-true, le-leb}
use Rattle.std.proofs.lemmas.Bool.Decides.{Decides-eqb, Decides-ltb}
use Rattle.rx_core.specs.declared.types.Place.{Place}
use Rattle.rx_graph.specs.Facts.{has}
use Rattle.rx_facts_tables.proofs.Turns.{has_more}
use Rattle.rx_facts_tables.specs.Tables.{picked, pushed_where}

not_true : (b : Bool) → (b ≡ true → ⊥) → b ≡ false
not_true true h = absurd (h refl)
not_true false h = refl

pub below : (n m : ℕ) → n < m → nat_lt n m ≡ true
below n m h = (Decides-ltb n m).1 h

pub not_below : (n m : ℕ) → m ≤ n → nat_lt n m ≡ false
not_below n m h = not_true (nat_lt n m) (λ x. let y = (Decides-ltb n m).0 x in omega (arith, y, h))

pub at_most : (n m : ℕ) → n ≤ m → nat_le n m ≡ true
at_most n m h = le-leb n m h

pub different : (n m : ℕ) → (n ≡ m → ⊥) → (n == m) ≡ false
different n m h = not_true (n == m) (λ e. h ((Decides-eqb n m).0 e))

and_false : (b : Bool) → (b && false) ≡ false
and_false true = refl
and_false false = refl

or_false : (b : Bool) → (b || false) ≡ b
or_false true = refl
or_false false = refl

-- the numbers from the first to the last, the last not included
abbrev pub Between : List ℕ → ℕ → ℕ → Type 0
Between all first last = (n : ℕ) → has all n ≡ (nat_le first n && nat_lt n last)

pub none_between : (first : ℕ) → Between [] first first
none_between first n = sym (by (cases_lt n first))
  where
    by : (n < first) ⊎ (first ≤ n) → (nat_le first n && nat_lt n first) ≡ false
    by (inl h) = ap (λ b. b && nat_lt n first) (not_true (nat_le first n) (λ x. let y = leb-true first n x in omega (arith, y, h)))
    by (inr h) = ap (λ b. nat_le first n && b) (not_below n first h) ∙ and_false (nat_le first n)

pub one_more_between : (all : List ℕ) (first last : ℕ) → first ≤ last → Between all first last → Between (all ++ last ∷ []) first (last + 1)
one_more_between all first last le h n = has_more all last n ∙ ap (λ b. b || (n == last)) (h n) ∙ by (cases_eq n last)
  where
    by : (n ≡ last) ⊎ (n ≡ last → ⊥) → ((nat_le first n && nat_lt n last) || (n == last)) ≡ (nat_le first n && nat_lt n (last + 1))
    by (inl e) = ap (λ b. (nat_le first n && nat_lt n last) || b) ((Decides-eqb n last).1 e) ∙ or_true (nat_le first n && nat_lt n last)
        ∙ sym (ap (λ b. b && nat_lt n (last + 1)) (at_most first n (omega (arith, le, e))) ∙ below n (last + 1) (omega (arith, e)))
      where
        or_true : (b : Bool) → (b || true) ≡ true
        or_true true = refl
        or_true false = refl
    by (inr d) = ap (λ b. (nat_le first n && nat_lt n last) || b) (different n last d) ∙ or_false (nat_le first n && nat_lt n last)
        ∙ ap (λ b. nat_le first n && b) (same (cases_lt n last))
      where
        same : (n < last) ⊎ (last ≤ n) → nat_lt n last ≡ nat_lt n (last + 1)
        same (inl h) = below n last h ∙ sym (below n (last + 1) (omega (arith, h)))
        same (inr h) = not_below n last h ∙ sym (not_below n (last + 1) (omega (arith, h, d)))

pub in_between : (first count n : ℕ) → (nat_le first n && nat_lt n (first + count)) ≡ true → (first ≤ n) × (n < first + count)
in_between first count n h = by (nat_le first n) (nat_lt n (first + count)) refl refl h
  where
    by : (a b : Bool) → nat_le first n ≡ a → nat_lt n (first + count) ≡ b → (a && b) ≡ true → (first ≤ n) × (n < first + count)
    by true true x y z = (leb-true first n x, (Decides-ltb n (first + count)).0 y)
    by true false x y z = absurd (true≢false (sym z))
    by false b x y z = absurd (true≢false (sym z))

pub is_between : (first count n : ℕ) → first ≤ n → n < first + count → (nat_le first n && nat_lt n (first + count)) ≡ true
is_between first count n h k = ap (λ b. b && nat_lt n (first + count)) (at_most first n h) ∙ below n (first + count) k

-- the numbers below this one of places of which something holds
abbrev pub Picked : List ℕ → (Place → Bool) → List Place → ℕ → Type 0
Picked all f W k = (i : ℕ) → has all i ≡ (nat_lt i k && picked f W i)

pub picked_there : (f : Place → Bool) (W : List Place) (k : ℕ) (q : Place) → k < length W → q ≡ get_or W k q → picked f W k ≡ f q
picked_there f [] k q h e = absurd (omega (arith, h))
picked_there f (r ∷ W) zero q h e = ap f (sym e)
picked_there f (r ∷ W) (suc k) q h e = picked_there f W k q (omega (arith, h)) e

pub picked_past : (f : Place → Bool) (W : List Place) (k : ℕ) → length W ≤ k → picked f W k ≡ false
picked_past f [] k h = refl
picked_past f (r ∷ W) zero h = absurd (omega (arith, h))
picked_past f (r ∷ W) (suc k) h = picked_past f W k (omega (arith, h))

pub none_picked : (f : Place → Bool) (W : List Place) → Picked [] f W 0
none_picked f W i = sym (ap (λ b. b && picked f W i) (not_below i 0 (omega arith)))

other_picked : (f : Place → Bool) (W : List Place) (k i : ℕ) → (i ≡ k → ⊥) → (nat_lt i k && picked f W i) ≡ (nat_lt i (k + 1) && picked f W i)
other_picked f W k i d = ap (λ b. b && picked f W i) (same (cases_lt i k))
  where
    same : (i < k) ⊎ (k ≤ i) → nat_lt i k ≡ nat_lt i (k + 1)
    same (inl h) = below i k h ∙ sym (below i (k + 1) (omega (arith, h)))
    same (inr h) = not_below i k h ∙ sym (not_below i (k + 1) (omega (arith, h, d)))

pub one_picked : (all : List ℕ) (f : Place → Bool) (W : List Place) (k : ℕ) (q : Place) → k < length W → q ≡ get_or W k q → f q ≡ true → Picked all f W k
    → Picked (all ++ k ∷ []) f W (k + 1)
one_picked all f W k q within is h before i = has_more all k i ∙ ap (λ b. b || (i == k)) (before i) ∙ by (cases_eq i k)
  where
    or_true : (b : Bool) → (b || true) ≡ true
    or_true true = refl
    or_true false = refl

    by : (i ≡ k) ⊎ (i ≡ k → ⊥) → ((nat_lt i k && picked f W i) || (i == k)) ≡ (nat_lt i (k + 1) && picked f W i)
    by (inl e) = ap (λ b. (nat_lt i k && picked f W i) || b) ((Decides-eqb i k).1 e) ∙ or_true (nat_lt i k && picked f W i)
        ∙ sym (ap (λ b. b && picked f W i) (below i (k + 1) (omega (arith, e))) ∙ ap (λ n. picked f W n) e ∙ picked_there f W k q within is ∙ h)
    by (inr d) = ap (λ b. (nat_lt i k && picked f W i) || b) (different i k d) ∙ or_false (nat_lt i k && picked f W i) ∙ other_picked f W k i d

pub none_more_picked : (all : List ℕ) (f : Place → Bool) (W : List Place) (k : ℕ) (q : Place) → k < length W → q ≡ get_or W k q → f q ≡ false → Picked all f W k
    → Picked all f W (k + 1)
none_more_picked all f W k q within is h before i = before i ∙ by (cases_eq i k)
  where
    by : (i ≡ k) ⊎ (i ≡ k → ⊥) → (nat_lt i k && picked f W i) ≡ (nat_lt i (k + 1) && picked f W i)
    by (inl e) = let z : picked f W i ≡ false = ap (λ n. picked f W n) e ∙ picked_there f W k q within is ∙ h in
        ap (λ b. nat_lt i k && b) z ∙ and_false (nat_lt i k) ∙ sym (ap (λ b. nat_lt i (k + 1) && b) z ∙ and_false (nat_lt i (k + 1)))
    by (inr d) = other_picked f W k i d

pub all_picked : (all : List ℕ) (f : Place → Bool) (W : List Place) (k : ℕ) → length W ≤ k → Picked all f W k → (i : ℕ) → has all i ≡ picked f W i
all_picked all f W k past before i = before i ∙ by (cases_lt i k)
  where
    by : (i < k) ⊎ (k ≤ i) → (nat_lt i k && picked f W i) ≡ picked f W i
    by (inl h) = ap (λ b. b && picked f W i) (below i k h)
    by (inr h) = let z = picked_past f W i (omega (arith, past, h)) in ap (λ b. nat_lt i k && b) z ∙ and_false (nat_lt i k) ∙ sym z

pub next_picked : (b : Bool) (all new : List ℕ) (f : Place → Bool) (W : List Place) (k : ℕ) (q : Place) → k < length W → q ≡ get_or W k q → b ≡ f q → new ≡ pushed_where b all k
    → Picked all f W k → Picked new f W (k + 1)
next_picked true all new f W k q within is h e before = subst (λ l. Picked l f W (k + 1)) (sym e) (one_picked all f W k q within is (sym h) before)
next_picked false all new f W k q within is h e before = subst (λ l. Picked l f W (k + 1)) (sym e) (none_more_picked all f W k q within is (sym h) before)
