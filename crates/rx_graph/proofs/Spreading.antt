-- A row is joined to others.
use Rattle.std.proofs.Common.{◌≡◌, ◌⊎◌, inl, inr, ℕ, zero, suc, ◌+◌, ◌<◌, ◌≤◌, Bool, true, false, ◌&&◌, ◌||◌, ◌==◌, List, [], ◌∷◌, length, get_or, drop, refl, ap, sym, ◌∙◌, subst, arith, true≢false, slice_get, None, ◌%◌}
use Rattle.std.proofs.Math.ListN.{set}
use Rattle.std.proofs.lemmas.Bool.{cases_eq, eq-eqb, eqb-true}
use Rattle.std.proofs.lemmas.List.{drop_more, get_or-set_same, get_or-set_other, length-set, set-get_or}
use Rattle.std.proofs.lemmas.Option.{none-some}
use Rattle.std.proofs.lemmas.Nat.Bits.{bit_at-zero}
use Rattle.rx_graph_bits.specs.Rows.{holds, rank, Bounded, Joined}
use Rattle.rx_graph.specs.Facts.{has}
use Rattle.rx_graph.specs.Tables.{at, total, Regular, Spread}

-- ---- truth values

pub neither : (a b : Bool) → (a || b) ≡ false → (a ≡ false) × (b ≡ false)
neither true b h = absurd (true≢false h)
neither false b h = (refl, h)

pub one_of : (a b : Bool) → (a || b) ≡ true → (a ≡ true) ⊎ (b ≡ true)
one_of true b h = inl refl
one_of false b h = inr h

pub both_of : (a b : Bool) → (a && b) ≡ true → (a ≡ true) × (b ≡ true)
both_of true b h = (refl, h)
both_of false b h = absurd (true≢false (sym h))

pub other_way : (a b c : Bool) → ((a || b) || c) ≡ (a || (b || c))
other_way true b c = refl
other_way false b c = refl

pub or_true : (a : Bool) → (a || true) ≡ true
or_true true = refl
or_true false = refl

sorted : (a x xs r : Bool) → ((a || ((x || false) && r)) || (xs && r)) ≡ (a || ((x || xs) && r))
sorted true x xs r = refl
sorted false true true true = refl
sorted false true true false = refl
sorted false true false true = refl
sorted false true false false = refl
sorted false false xs r = refl

pub different : (i n : ℕ) → (i ≡ n → ⊥) → (i == n) ≡ false
different i n h = go (i == n) refl where
  go : (b : Bool) → (i == n) ≡ b → b ≡ false
  go true e = absurd (h (eqb-true i n e))
  go false e = refl

or_nothing : (a r : Bool) → a ≡ (a || (false && r))
or_nothing true r = refl
or_nothing false r = refl

-- ---- tables

pub total_set : (T : List (List ℕ)) (p : ℕ) (r : List ℕ) → p < length T → total (set T p r) + rank (get_or T p []) ≡ total T + rank r
total_set [] p r h = absurd (omega (arith, h))
total_set (t ∷ T) zero r h = omega arith
total_set (t ∷ T) (suc p) r h = let rest = total_set T p r (omega (arith, h)) in omega (arith, rest)

-- a row in the place of another
pub regular_set : (n w : ℕ) (T : List (List ℕ)) (q : ℕ) (r : List ℕ) → Regular n w T → q < n → length r ≡ w → Bounded r → Regular n w (set T q r)
regular_set n w T q r h within e b = record {
  count = length-set T q r ∙ h.count;
  width = λ p i. at_p (λ x. length x ≡ w) p (cases_eq p q) e (h.width p i);
  bounded = λ p i. at_p Bounded p (cases_eq p q) b (h.bounded p i);
} where
  at_p : (P : List ℕ → Type 0) (p : ℕ) → (p ≡ q) ⊎ (p ≡ q → ⊥) → P r → P (get_or T p []) → P (get_or (set T q r) p [])
  at_p P p (inl x) y z = subst (λ k. P (get_or (set T q r) k [])) (sym x) (subst P (sym (get_or-set_same T q r [] (omega (arith, within, h.count)))) y)
  at_p P p (inr x) y z = subst P (sym (get_or-set_other T q p r [] x)) z

-- what stands at a place that is there, whatever else would
pub same_there : (T : List (List ℕ)) (q : ℕ) (d : List ℕ) → q < length T → get_or T q d ≡ get_or T q []
same_there [] q d h = absurd (omega (arith, h))
same_there (r ∷ T) zero d h = refl
same_there (r ∷ T) (suc q) d h = same_there T q d (omega (arith, h))

-- nothing to join
pub no_spread : (w : ℕ) (T : List (List ℕ)) (r : List ℕ) → Regular (length T) w T → Spread w T T [] r false
no_spread w T r h = record { regular = h; at = λ p i k. or_nothing (at T p i) (holds r i); same = λ e. refl; more = λ e. absurd (true≢false (sym e)) }

pub none_there : (w : ℕ) (T : List (List ℕ)) (q : ℕ) (r : List ℕ) → Regular (length T) w T → length T ≤ q → Spread w T T (q ∷ []) r false
none_there w T q r h past = record {
  regular = h;
  at = λ p i k. or_nothing (at T p i) (holds r i) ∙ ap (λ b. at T p i || (b && holds r i)) (sym (ap (λ b. b || false) (different p q (λ e. omega (arith, e, k, past)))));
  same = λ e. refl;
  more = λ e. absurd (true≢false (sym e));
}

pub one_joined : (T : List (List ℕ)) (q : ℕ) (r s : List ℕ) (g : Bool) → Regular (length T) (length r) T → q < length T
    → Joined (get_or T q []) r s g → Bounded s → Spread (length r) T (set T q s) (q ∷ []) r g
one_joined T q r s g h within j b = record {
  regular = regular_set (length T) (length r) T q s h within (j.width ∙ h.width q within) b;
  at = λ p i k. at_p p i (cases_eq p q);
  same = λ e. ap (λ x. set T q x) (j.same e) ∙ set-get_or T q [];
  more = λ e. let m = j.more e in let t = total_set T q s within in omega (arith, m, t);
} where
  at_p : (p i : ℕ) → (p ≡ q) ⊎ (p ≡ q → ⊥) → at (set T q s) p i ≡ (at T p i || ((p == q || false) && holds r i))
  at_p p i (inl e) = ap (λ x. holds x i) (ap (λ k. get_or (set T q s) k []) e ∙ get_or-set_same T q s [] within) ∙ j.holds i
      ∙ ap (λ k. at T k i || holds r i) (sym e) ∙ ap (λ c. at T p i || ((c || false) && holds r i)) (sym (eq-eqb p q e))
  at_p p i (inr e) = ap (λ x. holds x i) (get_or-set_other T q p s [] e) ∙ or_nothing (at T p i) (holds r i)
      ∙ ap (λ c. at T p i || ((c || false) && holds r i)) (sym (different p q e))

-- one after the other
pub grew : {A B C : List (List ℕ)} (g h : Bool) → (g ≡ false → B ≡ A) → (g ≡ true → total A < total B) → (h ≡ false → C ≡ B) → (h ≡ true → total B < total C)
    → (g || h) ≡ true → total A < total C
grew true true s m t n e = let x = m refl in let y = n refl in omega (arith, x, y)
grew {A = A} {C = C} true false s m t n e = subst (λ x. total A < total x) (sym (t refl)) (m refl)
grew {A = A} {C = C} false true s m t n e = subst (λ x. total x < total C) (s refl) (n refl)
grew false false s m t n e = absurd (true≢false (sym e))

pub regular_after : (w : ℕ) (A B C : List (List ℕ)) → Regular (length A) w B → Regular (length B) w C → Regular (length A) w C
regular_after w A B C a b = subst (λ n. Regular n w C) a.count b

pub spread_on : (w : ℕ) (A B C : List (List ℕ)) (x : ℕ) (xs r : List ℕ) (g h : Bool) → Spread w A B (x ∷ []) r g → Spread w B C xs r h → Spread w A C (x ∷ xs) r (g || h)
spread_on w A B C x xs r g h one more = record {
  regular = regular_after w A B C one.regular more.regular;
  at = λ p i k. more.at p i (omega (arith, k, one.regular.count)) ∙ ap (λ c. c || (has xs p && holds r i)) (one.at p i k)
      ∙ sorted (at A p i) (p == x) (has xs p) (holds r i);
  same = λ e. let n = neither g h e in more.same n.1 ∙ one.same n.0;
  more = grew g h one.same one.more more.same more.more;
}

-- what is left to join
pub record Spreading (w : ℕ) (old now : List (List ℕ)) (xs r : List ℕ) (k : ℕ) (g : Bool) : Type 0 where
  pub regular : Regular (length old) w now
  pub rest : (new : List (List ℕ)) (h : Bool) → Spread w now new (drop k xs) r h → Spread w old new xs r (g || h)

pub begin_spread : (w : ℕ) (T : List (List ℕ)) (xs r : List ℕ) → Regular (length T) w T → Spreading w T T xs r 0 false
begin_spread w T xs r h = record { regular = h; rest = λ new h s. s }

pub more_spread : (w : ℕ) (old now next : List (List ℕ)) (xs r : List ℕ) (k : ℕ) (g j : Bool) → k < length xs → Spread w now next (get_or xs k 0 ∷ []) r j
    → Spreading w old now xs r k g → Spreading w old next xs r (k + 1) (g || j)
more_spread w old now next xs r k g j within one before = record {
  regular = regular_after w old now next before.regular one.regular;
  rest = λ new h s. subst (λ b. Spread w old new xs r b) (sym (other_way g j h))
      (before.rest new (j || h) (subst (λ l. Spread w now new l r (j || h)) (sym (drop_more xs k 0 within)) (spread_on w now next new (get_or xs k 0) (drop (k + 1) xs) r j h one s)));
}

none_left : (xs : List ℕ) (k : ℕ) → length xs ≤ k → drop k xs ≡ []
none_left [] zero h = refl
none_left [] (suc k) h = refl
none_left (x ∷ xs) zero h = absurd (omega (arith, h))
none_left (x ∷ xs) (suc k) h = none_left xs k (omega (arith, h))

or_false : (g : Bool) → (g || false) ≡ g
or_false true = refl
or_false false = refl

pub end_spread : (w : ℕ) (old now : List (List ℕ)) (xs r : List ℕ) (k : ℕ) (g : Bool) → length xs ≤ k → Spreading w old now xs r k g → Spread w old now xs r g
end_spread w old now xs r k g past before = subst (λ b. Spread w old now xs r b) (or_false g)
    (before.rest now false (subst (λ l. Spread w now now l r false) (sym (none_left xs k past)) (no_spread w now r (subst (λ n. Regular n w now) (sym before.regular.count) before.regular))))

-- a row that isn't there
pub no_row : (T : List (List ℕ)) (p i : ℕ) → slice_get T p ≡ None → at T p i ≡ false
no_row [] p i h = ap (λ b. b == 1) (bit_at-zero (i % 64))
no_row (r ∷ T) zero i h = absurd (none-some r (sym h))
no_row (r ∷ T) (suc p) i h = no_row T p i h
