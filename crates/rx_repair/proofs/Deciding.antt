-- What is decided: whether a pair follows from others, by induction on these: a way along them either doesn't need the first, or
-- comes to it once and leaves it once. And whether one of finitely many numbers does something.
use Rattle.std.proofs.Common.{◌≡◌, ◌≢◌, ◌⊎◌, inl, inr, ℕ, zero, suc, ◌<◌, List, [], ◌∷◌, ◌++◌, refl, sym, ap, subst, arith}
use Rattle.rx_core.specs.declared.types.Bound.{Bound}
use Rattle.rx_graph_cycles.specs.Reaches.{IsIn}
use Rattle.rx_region_outlives.specs.Implied.{HasPair}
use Rattle.rx_region_outlives.specs.Related.{outlives}
use Rattle.rx_region_outlives.proofs.ImpliedLemmas.{has_behind}
use Rattle.rx_region.specs.Tables.{Follows, itself, by}

abbrev pub Decided : Type 0 → Type 0
Decided A = A ⊎ (A → ⊥)

pub same_or : (l k : ℕ) → (l ≡ k) ⊎ (l ≢ k)
same_or zero zero = inl refl
same_or zero (suc k) = inr (λ e. omega (arith, e))
same_or (suc l) zero = inr (λ e. omega (arith, e))
same_or (suc l) (suc k) = elim (same_or l k) [ inl e ↦ inl (ap suc e) | inr n ↦ inr (λ e. n (omega (arith, e))) ]

-- ---- what follows along pairs

pub follows_more : (ps qs : List Bound) → ((l k : ℕ) → HasPair ps l k → HasPair qs l k) → (l k : ℕ) → Follows ps l k → Follows qs l k
follows_more ps qs more l k itself = itself
follows_more ps qs more l k (by m pair rest) = by m (more l m pair) (follows_more ps qs more m k rest)

pub follows_behind : (ps qs : List Bound) (l k : ℕ) → Follows qs l k → Follows (ps ++ qs) l k
follows_behind ps qs l k = follows_more qs (ps ++ qs) (λ x y. has_behind ps qs x y) l k

pub joined : (ps : List Bound) (l m k : ℕ) → Follows ps l m → Follows ps m k → Follows ps l k
joined ps l m k itself rest = rest
joined ps l m k (by n pair more) rest = by n pair (joined ps n m k more rest)

-- by ways without the first pair, or by a way to it and a way from it
record Through (ps : List Bound) (b : Bound) (l k : ℕ) : Type 0 where
  to : Follows ps l b.long
  from : Follows ps b.short k

step : (b : Bound) (ps : List Bound) (l m k : ℕ) → (b ≡ outlives l m) ⊎ HasPair ps l m → Follows ps m k ⊎ Through ps b m k → Follows ps l k ⊎ Through ps b l k
step b ps l m k (inl e) (inl rest) = inr (record { to = subst (Follows ps l) (sym (ap (λ (c : Bound). c.long) e)) itself; from = subst (λ n. Follows ps n k) (sym (ap (λ (c : Bound). c.short) e)) rest })
step b ps l m k (inl e) (inr t) = inr (record { to = subst (Follows ps l) (sym (ap (λ (c : Bound). c.long) e)) itself; from = t.from })
step b ps l m k (inr pair) (inl rest) = inl (by m pair rest)
step b ps l m k (inr pair) (inr t) = inr (record { to = by m pair t.to; from = t.from })

split : (b : Bound) (ps : List Bound) (l k : ℕ) → Follows (b ∷ ps) l k → Follows ps l k ⊎ Through ps b l k
split b ps l k itself = inl itself
split b ps l k (by m pair rest) = step b ps l m k pair (split b ps m k rest)

later : (b : Bound) (ps : List Bound) (l k : ℕ) → Follows ps l k → Follows (b ∷ ps) l k
later b ps = follows_more ps (b ∷ ps) (λ x y h. inr h)

none_follow : (l k : ℕ) → l ≢ k → Follows [] l k → ⊥
none_follow l k n itself = n refl
none_follow l k n (by m pair rest) = pair

pub follows_or : (ps : List Bound) (l k : ℕ) → Decided (Follows ps l k)
follows_or [] l k = elim (same_or l k) [ inl e ↦ inl (subst (Follows [] l) e itself) | inr n ↦ inr (none_follow l k n) ]
follows_or (b ∷ ps) l k = decided (follows_or ps l k) (follows_or ps l b.long) (follows_or ps b.short k) where
  decided : Decided (Follows ps l k) → Decided (Follows ps l b.long) → Decided (Follows ps b.short k) → Decided (Follows (b ∷ ps) l k)
  decided (inl w) to from = inl (later b ps l k w)
  decided (inr n) (inl w) (inl v) = inl (joined (b ∷ ps) l b.long k (later b ps l b.long w) (by b.short (inl refl) (later b ps b.short k v)))
  decided (inr n) (inr m) from = inr (λ h. elim (split b ps l k h) [ inl w ↦ n w | inr t ↦ m t.to ])
  decided (inr n) (inl w) (inr m) = inr (λ h. elim (split b ps l k h) [ inl v ↦ n v | inr t ↦ m t.from ])

-- ---- one of the numbers below another, or of a list

pub record Below (P : ℕ → Type 0) (n : ℕ) : Type 0 where
  pub number : ℕ
  pub below : number < n
  pub holds : P number

pub any_below : (P : ℕ → Type 0) → ((i : ℕ) → Decided (P i)) → (n : ℕ) → Decided (Below P n)
any_below P each zero = inr (λ b. let w = b.below in omega (arith, w))
any_below P each (suc n) = one (each n) (any_below P each n) where
  one : Decided (P n) → Decided (Below P n) → Decided (Below P (suc n))
  one (inl h) more = inl (record { number = n; below = omega arith; holds = h })
  one (inr never) (inl b) = let w = b.below in inl (record { number = b.number; below = omega (arith, w); holds = b.holds })
  one (inr never) (inr none) = inr (λ b. let w = b.below in elim (same_or b.number n) [
    | inl e ↦ never (subst P e b.holds)
    | inr ne ↦ none (record { number = b.number; below = omega (arith, w, ne); holds = b.holds })
  ])

pub record Within (P : ℕ → Type 0) (ls : List ℕ) : Type 0 where
  pub number : ℕ
  pub among : IsIn ls number
  pub holds : P number

pub any_within : (P : ℕ → Type 0) → ((i : ℕ) → Decided (P i)) → (ls : List ℕ) → Decided (Within P ls)
any_within P each [] = inr (λ b. b.among)
any_within P each (l ∷ ls) = one (each l) (any_within P each ls) where
  missed : (P l → ⊥) → (Within P ls → ⊥) → (i : ℕ) → P i → (l ≡ i) ⊎ IsIn ls i → ⊥
  missed never none i h (inl e) = never (subst P (sym e) h)
  missed never none i h (inr w) = none (record { number = i; among = w; holds = h })

  one : Decided (P l) → Decided (Within P ls) → Decided (Within P (l ∷ ls))
  one (inl h) more = inl (record { number = l; among = inl refl; holds = h })
  one (inr never) (inl b) = inl (record { number = b.number; among = inr b.among; holds = b.holds })
  one (inr never) (inr none) = inr (λ b. missed never none b.number b.holds b.among)
