-- Numbers are added to lists, one site after the other.
use Rattle.std.proofs.Common.{◌≡◌, ◌⊎◌, inl, inr, ℕ, zero, suc, ◌+◌, ◌<◌, ◌≤◌, Bool, true, false, ◌||◌, ◌&&◌, ◌==◌, nat_lt, List, [], ◌∷◌, ◌++◌, length, replicate, drop, get_or, set, refl, ap, sym, ◌∙◌, subst, arith, get_or-set_same, get_or-set_other, length-set, Result, Ok, Err, OnOk}
use Rattle.std.specs.declared.alloc.AllocError.{AllocError}
use Rattle.std.proofs.lemmas.List.{drop_more, get_or_past, length-replicate}
use Rattle.std.proofs.lemmas.Bool.{cases_eq, cases_lt}
use Rattle.std.proofs.lemmas.Bool.Decides.{Decides-eqb, Decides-ltb}
use Rattle.rx_graph.specs.Facts.{has, targets}
use Rattle.rx_facts_tables.specs.Turning.{Turned, Joined}

or_false : (b : Bool) → (b || false) ≡ b
or_false true = refl
or_false false = refl

and_false : (b : Bool) → (b && false) ≡ false
and_false true = refl
and_false false = refl

not_true : (b : Bool) → (b ≡ true → ⊥) → b ≡ false
not_true true h = absurd (h refl)
not_true false h = refl

pub has_more : (xs : List ℕ) (n p : ℕ) → has (xs ++ n ∷ []) p ≡ (has xs p || (p == n))
has_more [] n p = or_false (p == n)
has_more (x ∷ xs) n p = ap (λ b. p == x || b) (has_more xs n p) ∙ regroup (p == x) (has xs p) (p == n)
  where
    regroup : (a b c : Bool) → (a || (b || c)) ≡ ((a || b) || c)
    regroup true b c = refl
    regroup false b c = refl

none_joined : (T : List (List ℕ)) (n : ℕ) → Joined T T [] n
none_joined T n = record { count = refl; at = λ q p h. sym (ap (λ b. has (targets T q) p || b) (and_false (p == n)) ∙ or_false (has (targets T q) p)) }

different : (p q : ℕ) → (p ≡ q → ⊥) → (p == q) ≡ false
different p q h = not_true (p == q) (λ e. h ((Decides-eqb p q).0 e))

pub none_there : (T : List (List ℕ)) (at n : ℕ) → length T ≤ at → Joined T T (at ∷ []) n
none_there T at n past = record {
  count = refl;
  at = λ q p h. sym (
      ap (λ b. has (targets T q) p || (p == n && (b || false))) (different q at (λ e. omega (arith, e, h, past)))
      ∙ ap (λ b. has (targets T q) p || b) (and_false (p == n)) ∙ or_false (has (targets T q) p));
}

pub one_joined : (T : List (List ℕ)) (at n : ℕ) (new : List ℕ) → at < length T → new ≡ targets T at ++ n ∷ [] → Joined T (set T at new) (at ∷ []) n
one_joined T at n new within e = record { count = length-set T at new; at = λ q p h. by q p (cases_eq q at) }
  where
    by : (q p : ℕ) → (q ≡ at) ⊎ (q ≡ at → ⊥) → has (targets (set T at new) q) p ≡ (has (targets T q) p || (p == n && (q == at || false)))
    by q p (inl x) =
        ap (λ l. has l p) (ap (λ k. targets (set T at new) k) x ∙ get_or-set_same T at new [] within ∙ e) ∙ has_more (targets T at) n p
        ∙ ap (λ k. has (targets T k) p || (p == n)) (sym x)
        ∙ ap (λ b. has (targets T q) p || b) (sym (ap (λ b. p == n && (b || false)) ((Decides-eqb q at).1 x) ∙ and_true (p == n)))
      where
        and_true : (b : Bool) → (b && true) ≡ b
        and_true true = refl
        and_true false = refl
    by q p (inr x) =
        ap (λ l. has l p) (get_or-set_other T at q new [] x)
        ∙ sym (ap (λ b. has (targets T q) p || (p == n && (b || false))) (different q at x)
        ∙ ap (λ b. has (targets T q) p || b) (and_false (p == n)) ∙ or_false (has (targets T q) p))

joined_on : (A B C : List (List ℕ)) (x : ℕ) (xs : List ℕ) (n : ℕ) → Joined A B (x ∷ []) n → Joined B C xs n → Joined A C (x ∷ xs) n
joined_on A B C x xs n one more = record {
  count = more.count ∙ one.count;
  at = λ q p h. more.at q p (subst (λ k. q < k) (sym one.count) h) ∙ ap (λ b. b || (p == n && has xs q)) (one.at q p h)
      ∙ sorted (has (targets A q) p) (p == n) (q == x) (has xs q);
} where
  sorted : (a b c d : Bool) → ((a || (b && (c || false))) || (b && d)) ≡ (a || (b && (c || d)))
  sorted true b c d = refl
  sorted false true true d = refl
  sorted false true false d = refl
  sorted false false c d = refl

-- what is left to add
abbrev pub Joining : List (List ℕ) → List (List ℕ) → List ℕ → ℕ → ℕ → Type 0
Joining old now xs n k = (new : List (List ℕ)) → Joined now new (drop k xs) n → Joined old new xs n

pub joining_more : (old now next : List (List ℕ)) (xs : List ℕ) (n k : ℕ) → k < length xs → Joined now next (get_or xs k 0 ∷ []) n → Joining old now xs n k
    → Joining old next xs n (k + 1)
joining_more old now next xs n k h one before new more =
    before new (subst (λ l. Joined now new l n) (sym (drop_more xs k 0 h)) (joined_on now next new (get_or xs k 0) (drop (k + 1) xs) n one more))

none_left : (xs : List ℕ) (k : ℕ) → length xs ≤ k → drop k xs ≡ []
none_left [] zero h = refl
none_left [] (suc k) h = refl
none_left (x ∷ xs) zero h = absurd (omega (arith, h))
none_left (x ∷ xs) (suc k) h = none_left xs k (omega (arith, h))

pub joining_done : (old now : List (List ℕ)) (xs : List ℕ) (n k : ℕ) → length xs ≤ k → Joining old now xs n k → Joined old now xs n
joining_done old now xs n k h before = before now (subst (λ l. Joined now now l n) (sym (none_left xs k h)) (none_joined now n))

-- ---- the whole graph

below : (p k : ℕ) → p < k → nat_lt p k ≡ true
below p k h = (Decides-ltb p k).1 h

not_below : (p k : ℕ) → k ≤ p → nat_lt p k ≡ false
not_below p k h = not_true (nat_lt p k) (λ x. let y = (Decides-ltb p k).0 x in omega (arith, y, h))

-- the edges of the first sites are turned round
pub record TurnedTo (edges back : List (List ℕ)) (k : ℕ) : Type 0 where
  pub count : length back ≡ length edges
  pub turns : (p q : ℕ) → q < length edges → has (targets back q) p ≡ (nat_lt p k && has (targets edges p) q)

empty_at : (n q p : ℕ) → has (targets (replicate n []) q) p ≡ false
empty_at zero q p = refl
empty_at (suc n) zero p = refl
empty_at (suc n) (suc q) p = empty_at n q p

pub none_turned : (edges back : List (List ℕ)) → back ≡ replicate (length edges) [] → TurnedTo edges back 0
none_turned edges back e = record {
  count = ap (λ (l : List (List ℕ)). length l) e ∙ length-replicate (length edges) [];
  turns = λ p q h. ap (λ l. has (targets l q) p) e ∙ empty_at (length edges) q p
      ∙ sym (ap (λ b. b && has (targets edges p) q) (not_below p 0 (omega arith)));
}

pub one_turned : (edges back next : List (List ℕ)) (k : ℕ) → TurnedTo edges back k → Joined back next (targets edges k) k → TurnedTo edges next (k + 1)
one_turned edges back next k before one = record {
  count = one.count ∙ before.count;
  turns = λ p q h. one.at q p (subst (λ n. q < n) (sym before.count) h) ∙ ap (λ b. b || (p == k && has (targets edges k) q)) (before.turns p q h)
      ∙ by p q (cases_eq p k);
} where
  by : (p q : ℕ) → (p ≡ k) ⊎ (p ≡ k → ⊥)
      → ((nat_lt p k && has (targets edges p) q) || (p == k && has (targets edges k) q)) ≡ (nat_lt p (k + 1) && has (targets edges p) q)
  by p q (inl e) =
      ap (λ b. (b && has (targets edges p) q) || (p == k && has (targets edges k) q)) (not_below p k (omega (arith, e)))
      ∙ ap (λ b. b && has (targets edges k) q) ((Decides-eqb p k).1 e)
      ∙ sym (ap (λ b. b && has (targets edges p) q) (below p (k + 1) (omega (arith, e))) ∙ ap (λ m. has (targets edges m) q) e)
  by p q (inr d) =
      ap (λ b. (nat_lt p k && has (targets edges p) q) || (b && has (targets edges k) q)) (different p k d) ∙ or_false (nat_lt p k && has (targets edges p) q)
      ∙ ap (λ b. b && has (targets edges p) q) (same (cases_lt p k))
    where
      same : (p < k) ⊎ (k ≤ p) → nat_lt p k ≡ nat_lt p (k + 1)
      same (inl h) = below p k h ∙ sym (below p (k + 1) (omega (arith, h)))
      same (inr h) = not_below p k h ∙ sym (not_below p (k + 1) (omega (arith, h, d)))

pub all_turned : (edges back : List (List ℕ)) (k : ℕ) → length edges ≤ k → TurnedTo edges back k → Turned edges back
all_turned edges back k past h = record { count = h.count; turns = λ p q x. h.turns p q x ∙ by p q (cases_lt p k) }
  where
    by : (p q : ℕ) → (p < k) ⊎ (k ≤ p) → (nat_lt p k && has (targets edges p) q) ≡ has (targets edges p) q
    by p q (inl x) = ap (λ b. b && has (targets edges p) q) (below p k x)
    by p q (inr x) = ap (λ b. b && has (targets edges p) q) (not_below p k x)
        ∙ sym (ap (λ l. has l q) (get_or_past edges p [] (omega (arith, past, x))))

-- what `push` says of an element
pub added : (T : List (List ℕ)) (at n : ℕ) (d new : List ℕ) (r : Result (Unit {0}) AllocError) → at < length T
    → OnOk r (new ≡ get_or T at d ++ n ∷ []) → OnOk r (Joined T (set T at new) (at ∷ []) n)
added T at n d new (Ok u) within e = one_joined T at n new within (e ∙ ap (λ l. l ++ n ∷ []) (there T at d within))
  where
    there : (T : List (List ℕ)) (at : ℕ) (d : List ℕ) → at < length T → get_or T at d ≡ targets T at
    there [] at d h = absurd (omega (arith, h))
    there (r ∷ T) zero d h = refl
    there (r ∷ T) (suc at) d h = there T at d (omega (arith, h))
added T at n d new (Err e) within h = tt
