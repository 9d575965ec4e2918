-- Rows that are joined along pairs, one after the other, and round after round.
use Rattle.std.proofs.Common.{◌≡◌, ◌⊎◌, inl, inr, ℕ, zero, suc, ◌+◌, ◌<◌, ◌≤◌, Bool, true, false, ◌||◌, ◌==◌, ◌%◌, List, [], ◌∷◌, length, get_or, slice_get, Option, Some, None, refl, ap, sym, ◌∙◌, subst, arith, true≢false}
use Rattle.std.proofs.Math.ListN.{set}
use Rattle.std.proofs.lemmas.Bool.{cases_eq}
use Rattle.std.proofs.lemmas.List.{get_or-set_same, get_or-set_other, set-get_or}
use Rattle.std.proofs.lemmas.Option.{none-some}
use Rattle.std.proofs.lemmas.Nat.Bits.{bit_at-zero}
use Rattle.rx_core.specs.declared.types.Bound.{Bound}
use Rattle.rx_graph_bits.specs.Rows.{holds, Bounded, Joined}
use Rattle.rx_graph.specs.Tables.{at, total, Regular}
use Rattle.rx_graph.proofs.Spreading.{neither, one_of, or_true, grew, total_set, regular_set, regular_after}
use Rattle.rx_graph.proofs.Rounds.{most, rounds_left, below_most}
use Rattle.rx_graph_closure.specs.Closing.{Has, Comes, longer, Within, Closed, Contains, Kept, Passed, Grown, Settled}
use Rattle.rx_graph_closure.specs.Closing as closing

-- ---- one pair

none_out : (T : List (List ℕ)) (l i : ℕ) → length T ≤ l → at T l i ≡ false
none_out [] l i h = ap (λ b. b == 1) (bit_at-zero (i % 64))
none_out (r ∷ T) zero i h = absurd (omega (arith, h))
none_out (r ∷ T) (suc l) i h = none_out T l i (omega (arith, h))

kept_so : (pairs : List Bound) (w : ℕ) (T : List (List ℕ)) → Regular (length T) w T → Kept pairs w T T
kept_so pairs w T h = record { regular = h; keeps = λ l i e. e; sound = λ base ok. ok }

unchanged : (pairs : List Bound) (w : ℕ) (D : Bound → Type 0) (T : List (List ℕ)) → Regular (length T) w T → ((b : Bound) → D b → Contains T b) → Grown pairs w D T T false
unchanged pairs w D T h holds = record { kept = kept_so pairs w T h; same = λ e. refl; holds = λ e. holds; more = λ e. absurd (true≢false (sym e)) }

-- a member has no row
pub long_out : (pairs : List Bound) (w : ℕ) (T : List (List ℕ)) (b : Bound) → Regular (length T) w T → length T ≤ b.long → Grown pairs w (λ c. c ≡ b) T T false
long_out pairs w T b h out = unchanged pairs w (λ c. c ≡ b) T h (λ c e. subst (λ d. Contains T d) (sym e) (λ within. absurd (omega (arith, within, out))))

pub short_out : (pairs : List Bound) (w : ℕ) (T : List (List ℕ)) (b : Bound) → Regular (length T) w T → length T ≤ b.short → Grown pairs w (λ c. c ≡ b) T T false
short_out pairs w T b h out = unchanged pairs w (λ c. c ≡ b) T h
    (λ c e. subst (λ d. Contains T d) (sym e) (λ within i x. absurd (true≢false (sym x ∙ none_out T b.short i out))))

there : (pairs : List Bound) (j : ℕ) (b : Bound) → slice_get pairs j ≡ Some b → j < length pairs
there [] j b h = absurd (none-some b h)
there (p ∷ ps) zero b h = omega arith
there (p ∷ ps) (suc j) b h = let rest = there ps j b h in omega (arith, rest)

pub no_pair : (pairs : List Bound) (w : ℕ) (T : List (List ℕ)) (j : ℕ) → Regular (length T) w T → length pairs ≤ j
    → Grown pairs w (λ b. slice_get pairs j ≡ Some b) T T false
no_pair pairs w T j h past = unchanged pairs w (λ b. slice_get pairs j ≡ Some b) T h (λ b e. absurd (let t = there pairs j b e in omega (arith, t, past)))

pub joined_pair : (pairs : List Bound) (w : ℕ) (T : List (List ℕ)) (b : Bound) (r s : List ℕ) (g : Bool) → Regular (length T) w T → b.long < length T
    → r ≡ get_or T b.short [] → Joined (get_or T b.long []) r s g → Bounded s → Has pairs b → Grown pairs w (λ c. c ≡ b) T (set T b.long s) g
joined_pair pairs w T b r s g h long is j bounded has = record {
  kept = record {
    regular = regular_set (length T) w T b.long s h long (j.width ∙ h.width b.long long) bounded;
    keeps = λ l i e. keeps l i (cases_eq l b.long) e;
    sound = λ base ok l i e. sound base ok l i (cases_eq l b.long) e;
  };
  same = same;
  holds = λ e c d. subst (λ x. Contains (set T b.long s) x) (sym d) (λ within i x. contains e i x);
  more = λ e. let m = j.more e in let t = total_set T b.long s long in omega (arith, m, t);
} where
  here : (i : ℕ) → at (set T b.long s) b.long i ≡ (at T b.long i || at T b.short i)
  here i = ap (λ x. holds x i) (get_or-set_same T b.long s [] long) ∙ j.holds i ∙ ap (λ x. at T b.long i || holds x i) is

  elsewhere : (l i : ℕ) → (l ≡ b.long → ⊥) → at (set T b.long s) l i ≡ at T l i
  elsewhere l i d = ap (λ x. holds x i) (get_or-set_other T b.long l s [] d)

  same : g ≡ false → set T b.long s ≡ T
  same e = ap (λ x. set T b.long x) (j.same e) ∙ set-get_or T b.long []

  contains : g ≡ false → (i : ℕ) → at (set T b.long s) b.short i ≡ true → at (set T b.long s) b.long i ≡ true
  contains e i x = here i ∙ ap (λ y. at T b.long i || y) (ap (λ U. at U b.short i) (sym (same e)) ∙ x) ∙ or_true (at T b.long i)

  keeps : (l i : ℕ) → (l ≡ b.long) ⊎ (l ≡ b.long → ⊥) → at T l i ≡ true → at (set T b.long s) l i ≡ true
  keeps l i (inl d) e = subst (λ k. at (set T b.long s) k i ≡ true) (sym d)
      (here i ∙ ap (λ a. a || at T b.short i) (ap (λ k. at T k i) (sym d) ∙ e))
  keeps l i (inr d) e = elsewhere l i d ∙ e

  from : (base : List (List ℕ)) → ((l i : ℕ) → at T l i ≡ true → Comes pairs base i l) → (i : ℕ)
      → (at T b.long i ≡ true) ⊎ (at T b.short i ≡ true) → Comes pairs base i b.long
  from base ok i (inl x) = ok b.long i x
  from base ok i (inr x) = longer b has (ok b.short i x)

  sound : (base : List (List ℕ)) → ((l i : ℕ) → at T l i ≡ true → Comes pairs base i l) → (l i : ℕ)
      → (l ≡ b.long) ⊎ (l ≡ b.long → ⊥) → at (set T b.long s) l i ≡ true → Comes pairs base i l
  sound base ok l i (inl d) e = subst (λ k. Comes pairs base i k) (sym d)
      (from base ok i (one_of (at T b.long i) (at T b.short i) (sym (here i) ∙ ap (λ k. at (set T b.long s) k i) (sym d) ∙ e)))
  sound base ok l i (inr d) e = ok l i (sym (elsewhere l i d) ∙ e)

some_same : (p b : Bound) → Some p ≡ Some b → p ≡ b
some_same p b e = ap (λ o. told o) e where
  told : Option Bound → Bound
  told (Some x) = x
  told None = p

pub fewer : (pairs : List Bound) (w : ℕ) (D E : Bound → Type 0) (A B : List (List ℕ)) (g : Bool) → ((b : Bound) → E b → D b) → Grown pairs w D A B g → Grown pairs w E A B g
fewer pairs w D E A B g f h = record { kept = h.kept; same = h.same; holds = λ e b x. h.holds e b (f b x); more = h.more }

at_place : (pairs : List Bound) (k : ℕ) (d : Bound) → k < length pairs → slice_get pairs k ≡ Some (get_or pairs k d)
at_place [] k d h = absurd (omega (arith, h))
at_place (p ∷ ps) zero d h = refl
at_place (p ∷ ps) (suc k) d h = at_place ps k d (omega (arith, h))

-- by its place
pub found : (pairs : List Bound) (j : ℕ) (p : Bound) → (j < length pairs) × ((d : Bound) → p ≡ get_or pairs j d) → slice_get pairs j ≡ Some p
found pairs j p h = at_place pairs j p h.0 ∙ ap (λ b. Some b) (sym (h.1 p))

pub joined_at : (pairs : List Bound) (w j : ℕ) (p : Bound) (A B : List (List ℕ)) (g : Bool) → slice_get pairs j ≡ Some p
    → Grown pairs w (λ b. b ≡ p) A B g → Grown pairs w (λ b. slice_get pairs j ≡ Some b) A B g
joined_at pairs w j p A B g at h = fewer pairs w (λ b. b ≡ p) (λ b. slice_get pairs j ≡ Some b) A B g (λ b e. sym (some_same p b (sym at ∙ e))) h

-- ---- one after the other

kept_then : (pairs : List Bound) (w : ℕ) (A B C : List (List ℕ)) → Kept pairs w A B → Kept pairs w B C → Kept pairs w A C
kept_then pairs w A B C one more = record {
  regular = regular_after w A B C one.regular more.regular;
  keeps = λ l i e. more.keeps l i (one.keeps l i e);
  sound = λ base ok. more.sound base (one.sound base ok);
}

not_less : (w : ℕ) (A B : List (List ℕ)) (g : Bool) → (g ≡ false → B ≡ A) → (g ≡ true → total A < total B) → total A ≤ total B
not_less w A B true same more = let m = more refl in omega (arith, m)
not_less w A B false same more = let e = ap (λ T. total T) (same refl) in omega (arith, e)

pub passed_none : (pairs : List Bound) (w : ℕ) (T : List (List ℕ)) → Regular (length T) w T → Passed pairs w T T
passed_none pairs w T h = record { kept = kept_so pairs w T h; more = omega arith }

pub passed_more : (pairs : List Bound) (w v : ℕ) (D : Bound → Type 0) (A B C : List (List ℕ)) (g : Bool) → v ≡ w → Passed pairs w A B → Grown pairs v D B C g → Passed pairs w A C
passed_more pairs w v D A B C g e one grown = let more = subst (λ u. Grown pairs u D B C g) e grown in record {
  kept = kept_then pairs w A B C one.kept more.kept;
  more = let m = one.more in let n = not_less w B C g more.same more.more in omega (arith, m, n);
}

-- those at the first places
abbrev pub Before : List Bound → ℕ → Bound → Type 0
Before pairs k b = (j : ℕ) × (j < k) × (slice_get pairs j ≡ Some b)

pub round_none : (pairs : List Bound) (w : ℕ) (T : List (List ℕ)) → Regular (length T) w T → Grown pairs w (Before pairs 0) T T false
round_none pairs w T h = unchanged pairs w (Before pairs 0) T h (λ b x. absurd (omega (arith, x.1)))

pub round_more : (pairs : List Bound) (w v k : ℕ) (A B C : List (List ℕ)) (g h : Bool) → v ≡ w → Grown pairs w (Before pairs k) A B g
    → Grown pairs v (λ b. slice_get pairs k ≡ Some b) B C h → Grown pairs w (Before pairs (k + 1)) A C (g || h)
round_more pairs w v k A B C g h e one grown = record {
  kept = kept_then pairs w A B C one.kept more.kept;
  same = λ e. let b = neither g h e in more.same b.1 ∙ one.same b.0;
  holds = λ e b x. let n = neither g h e in by_place n.0 n.1 b x.0 (cases_eq x.0 k) x.1 x.2;
  more = grew g h one.same one.more more.same more.more;
} where
  more : Grown pairs w (λ b. slice_get pairs k ≡ Some b) B C h
  more = subst (λ u. Grown pairs u (λ b. slice_get pairs k ≡ Some b) B C h) e grown

  by_place : g ≡ false → h ≡ false → (b : Bound) (j : ℕ) → (j ≡ k) ⊎ (j ≡ k → ⊥) → j < k + 1 → slice_get pairs j ≡ Some b → Contains C b
  by_place x y b j (inl e) i at = more.holds y b (subst (λ m. slice_get pairs m ≡ Some b) e at)
  by_place x y b j (inr e) i at = subst (λ T. Contains T b) (sym (more.same y)) (one.holds x b (j, omega (arith, i, e), at))

pub round_whole : (pairs : List Bound) (w k : ℕ) (A B : List (List ℕ)) (g : Bool) → length pairs ≤ k → Grown pairs w (Before pairs k) A B g → Grown pairs w (Has pairs) A B g
round_whole pairs w k A B g past h = fewer pairs w (Before pairs k) (Has pairs) A B g (λ b x. (x.0, (let t = there pairs x.0 b x.1 in omega (arith, t, past)), x.1)) h

-- ---- how many rows

pub record Counted (pairs : List Bound) (least k count : ℕ) : Type 0 where
  pub more : least ≤ count
  pub within : (b : Bound) → Before pairs k b → (b.long < count) × (b.short < count)

pub none_counted : (pairs : List Bound) (least : ℕ) → Counted pairs least 0 least
none_counted pairs least = record { more = omega arith; within = λ b x. absurd (omega (arith, x.1)) }

pub one_counted : (pairs : List Bound) (least k old new : ℕ) (d : Bound) → k < length pairs → old ≤ new → (get_or pairs k d).long < new → (get_or pairs k d).short < new
    → Counted pairs least k old → Counted pairs least (k + 1) new
one_counted pairs least k old new d inside more longer_less less h = record {
  more = let m = h.more in omega (arith, m, more);
  within = λ b x. by_place b x.0 (cases_eq x.0 k) x.1 x.2;
} where
  by_place : (b : Bound) (j : ℕ) → (j ≡ k) ⊎ (j ≡ k → ⊥) → j < k + 1 → slice_get pairs j ≡ Some b → (b.long < new) × (b.short < new)
  by_place b j (inl e) i x = subst (λ (c : Bound). (c.long < new) × (c.short < new)) (some_same (get_or pairs k d) b (sym (at_place pairs k d inside) ∙ sym (ap (λ m. slice_get pairs m) e) ∙ x)) (longer_less, less)
  by_place b j (inr e) i x = let w = h.within b (j, omega (arith, i, e), x) in let p = w.0 in let q = w.1 in (omega (arith, p, more), omega (arith, q, more))

pub all_counted : (pairs : List Bound) (least k count : ℕ) → length pairs ≤ k → Counted pairs least k count → Within pairs count
all_counted pairs least k count past h b x = h.within b (x.0, (let t = there pairs x.0 b x.1 in omega (arith, t, past)), x.1)

-- ---- rounds

pub record Going (pairs : List Bound) (w : ℕ) (old new : List (List ℕ)) (grown : Bool) : Type 0 where
  pub kept : Kept pairs w old new
  pub holds : grown ≡ false → (b : Bound) → Has pairs b → Contains new b

pub begin_rounds : (pairs : List Bound) (w : ℕ) (T : List (List ℕ)) → Regular (length T) w T → Going pairs w T T true
begin_rounds pairs w T h = record { kept = kept_so pairs w T h; holds = λ e. absurd (true≢false e) }

pub next_round : (pairs : List Bound) (w u v : ℕ) (A B P Q C : List (List ℕ)) (g h : Bool) → u ≡ w → v ≡ w → Going pairs w A B g → Passed pairs w B P → Passed pairs u P Q
    → Grown pairs v (Has pairs) Q C h → Going pairs w A C h
next_round pairs w u v A B P Q C g h e f one up down grown = record {
  kept = kept_then pairs w A B C one.kept (kept_then pairs w B P C up.kept
      (kept_then pairs w P Q C (subst (λ x. Kept pairs x P Q) e down.kept) (subst (λ x. Kept pairs x Q C) f grown.kept)));
  holds = grown.holds;
}

pub rounds_shrink : (w n : ℕ) (A B C D : List (List ℕ)) (h : Bool) → total A ≤ total B → total B ≤ total C → (h ≡ false → D ≡ C) → (h ≡ true → total C < total D)
    → total D ≤ most w n → rounds_left w n D h < rounds_left w n A true
rounds_shrink w n A B C D true x y same more within = let m = more refl in omega (arith, m, x, y, within)
rounds_shrink w n A B C D false x y same more within = let m = ap (λ T. total T) (same refl) in omega (arith, m, x, y, within)

pub rounds_end : (pairs : List Bound) (w : ℕ) (A B : List (List ℕ)) (g : Bool) → g ≡ false → Going pairs w A B g → Settled pairs w A B
rounds_end pairs w A B g e h = record { kept = h.kept; holds = h.holds e }

pub below : (pairs : List Bound) (w : ℕ) (A T : List (List ℕ)) → Kept pairs w A T → total T ≤ most w (length A)
below pairs w A T h = below_most w A T h.regular

-- ---- the whole

pub closed : (pairs : List Bound) (w v : ℕ) (A B : List (List ℕ)) → v ≡ w → Settled pairs v A B → Closed pairs w A B
closed pairs w v A B e h = record {
  regular = subst (λ u. Regular (length A) u B) e h.kept.regular;
  exact = λ within l i k. (λ x. h.kept.sound A (λ m j y. closing.here y) l i x, complete within i l k);
} where
  complete : Within pairs (length A) → (i l : ℕ) → l < length A → Comes pairs A i l → at B l i ≡ true
  complete within i l k (closing.here x) = h.kept.keeps l i x
  complete within i l k (closing.longer b has x) = h.holds b has (omega (arith, k, h.kept.regular.count)) i (complete within i b.short (within b has).1 x)
