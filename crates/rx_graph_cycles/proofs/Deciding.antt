-- Whether a node reaches another is decided by the nodes that a way may go through: with one more, there is a way as before, or
-- one to it and one from it (Warshall). So the first node that comes back to itself is found among those that lead somewhere.
use Rattle.std.proofs.Common.{◌≡◌, ◌⊎◌, ℕ, zero, suc, ◌<◌, ◌≤◌, ◌==◌, Bool, true, false, List, [], ◌∷◌, length, Option, Some, None, slice_index_or, inl, inr, ⊎_elim, arith, refl, sym, subst}
use Rattle.std.proofs.lemmas.Bool.Decides.{Decides-eqb}
use Rattle.rx_graph_cycles.specs.Reaches.{targets, IsIn, Reaches, edge, further, NoCycle, NoneBefore, FirstOnCycle}

-- the nodes between are below a number
data Through (edges : List (List ℕ)) (k : ℕ) : ℕ → ℕ → Type 0 where
  direct : {i j : ℕ} → IsIn (targets edges i) j → Through edges k i j
  by_way : {i m j : ℕ} → IsIn (targets edges i) m → m < k → Through edges k m j → Through edges k i j

wider : (edges : List (List ℕ)) (k i j : ℕ) → Through edges k i j → Through edges (suc k) i j
wider edges k i j (direct h) = direct h
wider edges k i j (by_way {m = m} h l w) = by_way h (omega (arith, l)) (wider edges k m j w)

joined : (edges : List (List ℕ)) (k i m j : ℕ) → Through edges k i m → m < k → Through edges k m j → Through edges k i j
joined edges k i m j (direct h) l w = by_way h l w
joined edges k i m j (by_way {m = n} h n_less v) l w = by_way h n_less (joined edges k n m j v l w)

same_or_not : (m k : ℕ) → (m ≡ k) ⊎ (m ≡ k → ⊥)
same_or_not m k = by (m == k) refl
  where
    by : (b : Bool) → (m == k) ≡ b → (m ≡ k) ⊎ (m ≡ k → ⊥)
    by true e = inl ((Decides-eqb m k).0 e)
    by false e = inr (λ q. let t = (Decides-eqb m k).1 q in cc)

not_last : (m k : ℕ) → m < suc k → (m ≡ k → ⊥) → m < k
not_last m k l n = ⊎_elim (λ q. q) (λ q. absurd (n q)) (nearly m k l)
  where
    nearly : (m k : ℕ) → m < suc k → (m < k) ⊎ (m ≡ k)
    nearly zero zero l = inr refl
    nearly zero (suc k) l = inl (omega arith)
    nearly (suc m) zero l = absurd (omega (arith, l))
    nearly (suc m) (suc k) l = ⊎_elim (λ q. inl (omega (arith, q))) (λ q. inr (omega (arith, q))) (nearly m k (omega (arith, l)))

-- one that goes through one more goes through it or not
parted : (edges : List (List ℕ)) (k i j : ℕ) → Through edges (suc k) i j → Through edges k i j ⊎ (Through edges k i k × Through edges k k j)
parted edges k i j (direct h) = inl (direct h)
parted edges k i j (by_way {m = m} h l w) = by (same_or_not m k) (parted edges k m j w)
  where
    by : (m ≡ k) ⊎ (m ≡ k → ⊥) → Through edges k m j ⊎ (Through edges k m k × Through edges k k j) → Through edges k i j ⊎ (Through edges k i k × Through edges k k j)
    by (inl q) (inl v) = inr (direct (subst (λ n. IsIn (targets edges i) n) q h), subst (λ n. Through edges k n j) q v)
    by (inl q) (inr v) = inr (direct (subst (λ n. IsIn (targets edges i) n) q h), v.1)
    by (inr n) (inl v) = inl (by_way h (not_last m k l n) v)
    by (inr n) (inr v) = inr (by_way h (not_last m k l n) v.0, v.1)

is_in : (ns : List ℕ) (j : ℕ) → IsIn ns j ⊎ (IsIn ns j → ⊥)
is_in [] j = inr (λ h. h)
is_in (n ∷ ns) j = by (same_or_not n j) (is_in ns j)
  where
    by : (n ≡ j) ⊎ (n ≡ j → ⊥) → IsIn ns j ⊎ (IsIn ns j → ⊥) → ((n ≡ j) ⊎ IsIn ns j) ⊎ (((n ≡ j) ⊎ IsIn ns j) → ⊥)
    by (inl e) r = inl (inl e)
    by (inr e) (inl r) = inl (inr r)
    by (inr e) (inr r) = inr (λ h. ⊎_elim e r h)

through : (edges : List (List ℕ)) (k i j : ℕ) → Through edges k i j ⊎ (Through edges k i j → ⊥)
through edges zero i j = by (is_in (targets edges i) j)
  where
    none : (IsIn (targets edges i) j → ⊥) → Through edges zero i j → ⊥
    none n (direct h) = n h
    none n (by_way h l w) = absurd (omega (arith, l))

    by : IsIn (targets edges i) j ⊎ (IsIn (targets edges i) j → ⊥) → Through edges zero i j ⊎ (Through edges zero i j → ⊥)
    by (inl h) = inl (direct h)
    by (inr n) = inr (none n)
through edges (suc k) i j = by (through edges k i j) (through edges k i k) (through edges k k j)
  where
    by : Through edges k i j ⊎ (Through edges k i j → ⊥) → Through edges k i k ⊎ (Through edges k i k → ⊥) → Through edges k k j ⊎ (Through edges k k j → ⊥)
        → Through edges (suc k) i j ⊎ (Through edges (suc k) i j → ⊥)
    by (inl w) a b = inl (wider edges k i j w)
    by (inr n) (inl a) (inl b) = inl (joined edges (suc k) i k j (wider edges k i k a) (omega arith) (wider edges k k j b))
    by (inr n) (inr a) b = inr (λ w. ⊎_elim n (λ p. a p.0) (parted edges k i j w))
    by (inr n) (inl a) (inr b) = inr (λ w. ⊎_elim n (λ p. b p.1) (parted edges k i j w))

-- ---- ways of the graph

leads_within : (edges : List (List ℕ)) (i j : ℕ) → IsIn (targets edges i) j → i < length edges
leads_within [] i j h = absurd h
leads_within (e ∷ edges) zero j h = omega arith
leads_within (e ∷ edges) (suc i) j h = let l = leads_within edges i j h in omega (arith, l)

reaches_within : (edges : List (List ℕ)) (i j : ℕ) → Reaches edges i j → i < length edges
reaches_within edges i j (edge h) = leads_within edges i j h
reaches_within edges i j (further {j = m} h r) = leads_within edges i m h

to_through : (edges : List (List ℕ)) (i j : ℕ) → Reaches edges i j → Through edges (length edges) i j
to_through edges i j (edge h) = direct h
to_through edges i j (further {j = m} h r) = by_way h (reaches_within edges m j r) (to_through edges m j r)

to_reaches : (edges : List (List ℕ)) (k i j : ℕ) → Through edges k i j → Reaches edges i j
to_reaches edges k i j (direct h) = edge h
to_reaches edges k i j (by_way {m = m} h l w) = further h (to_reaches edges k m j w)

abbrev First : List (List ℕ) → Type 0
First edges = (n : ℕ) × (Reaches edges n n × NoneBefore edges n)

first_below : (edges : List (List ℕ)) (k : ℕ) → NoneBefore edges k ⊎ First edges
first_below edges zero = inl (λ m l. absurd (omega (arith, l)))
first_below edges (suc k) = by (first_below edges k) (through edges (length edges) k k)
  where
    by : NoneBefore edges k ⊎ First edges → Through edges (length edges) k k ⊎ (Through edges (length edges) k k → ⊥) → NoneBefore edges (suc k) ⊎ First edges
    by (inr f) r = inr f
    by (inl n) (inl w) = inr (k, (to_reaches edges (length edges) k k w, n))
    by (inl n) (inr w) = inl (λ m l r. ⊎_elim (λ e. w (to_through edges k k (subst (λ i. Reaches edges i i) e r))) (λ e. n m (not_last m k l e) r) (same_or_not m k))

pub first_on_cycle : (edges : List (List ℕ)) → (o : Option ℕ) × FirstOnCycle edges o
first_on_cycle edges = by (first_below edges (length edges))
  where
    by : NoneBefore edges (length edges) ⊎ First edges → (o : Option ℕ) × FirstOnCycle edges o
    by (inl n) = (None, λ m r. n m (reaches_within edges m m r) r)
    by (inr f) = (Some f.0, f.1)

pub on_cycle_within : (edges : List (List ℕ)) (n : ℕ) → Reaches edges n n → n < length edges
on_cycle_within edges n r = reaches_within edges n n r

-- the first is one
pub one_first : (edges : List (List ℕ)) (n m : ℕ) → FirstOnCycle edges (Some n) → FirstOnCycle edges (Some m) → n ≡ m
one_first edges n m a b = by (below n m)
  where
    below : (n m : ℕ) → (n < m) ⊎ ((m < n) ⊎ (n ≡ m))
    below zero zero = inr (inr refl)
    below zero (suc m) = inl (omega arith)
    below (suc n) zero = inr (inl (omega arith))
    below (suc n) (suc m) = ⊎_elim (λ q. inl (omega (arith, q))) (λ r. ⊎_elim (λ q. inr (inl (omega (arith, q)))) (λ q. inr (inr (omega (arith, q)))) r) (below n m)

    by : (n < m) ⊎ ((m < n) ⊎ (n ≡ m)) → n ≡ m
    by (inl l) = absurd (b.1 n l a.0)
    by (inr (inl l)) = absurd (a.1 m l b.0)
    by (inr (inr e)) = e
