-- The variables of a cursor whose types are known were told.
use Rattle.std.proofs.Common.{◌≡◌, ℕ, zero, suc, ◌+◌, ◌≤◌, ◌<◌, IsTrue, List, [], ◌∷◌, ◌++◌, length, get_or, map, take, drop, slice_set, refl, ap, ◌⊎◌, inl, inr, ⊎_elim, arith}
use Rattle.rx_typed.specs.declared.nodes.Declaration.{Declaration}
use Rattle.rx_typed.specs.Naming.{Cursor, is_known, not_declared, as_known, known_among}
use Rattle.rx_typeck_solver.specs.declared.facts.Subject.TheVariants as subject
use Rattle.rx_typeck_solver.specs.declared.facts.Demand.{Demand}
use Rattle.rx_typeck_typed.proofs.Reach.{Sure, Reach}

abbrev pub KnownAt : List Declaration → ℕ → Type 0
KnownAt vs x = IsTrue (is_known (get_or vs x not_declared).stage)

pub record Agrees (c : Cursor) (ds : List Demand) : Type 0 where
  pub is : (x : ℕ) → KnownAt c.variables x → Sure ds (subject.Variable x)
  pub counts : c.declared ≡ length c.variables

pub agrees_then : {c : Cursor} {ds ds' : List Demand} → Reach ds ds' → Agrees c ds → Agrees c ds'
agrees_then r a = record { is = λ x k. r.keeps _ (a.is x k); counts = a.counts }

-- ---- one variable more

pub known_behind : (vs : List Declaration) (d : Declaration) (x : ℕ) → KnownAt (vs ++ d ∷ []) x → KnownAt vs x ⊎ ((x ≡ length vs) × IsTrue (is_known d.stage))
known_behind [] d zero k = inr (refl, k)
known_behind [] d (suc x) k = inl k
known_behind (v ∷ vs) d zero k = inl k
known_behind (v ∷ vs) d (suc x) k = ⊎_elim (λ h. inl h) (λ h. inr (ap suc h.0, h.1)) (known_behind vs d x k)

-- ---- a variable's stage

pub known_set : (vs : List Declaration) (y : ℕ) (d : Declaration) (x : ℕ) → KnownAt (slice_set vs y d) x → ((x ≡ y) × IsTrue (is_known d.stage)) ⊎ (KnownAt vs x × (x ≡ y → ⊥))
known_set [] zero d x k = absurd (cc)
known_set [] (suc y) d x k = absurd (cc)
known_set (v ∷ vs) zero d zero k = inl (refl, k)
known_set (v ∷ vs) zero d (suc x) k = inr (k, λ e. omega arith)
known_set (v ∷ vs) (suc y) d zero k = inr (k, λ e. omega arith)
known_set (v ∷ vs) (suc y) d (suc x) k = ⊎_elim (λ h. inl (ap suc h.0, h.1)) (λ h. inr (h.0, λ e. h.1 (omega arith))) (known_set vs y d x k)

-- ---- variables from a number to another

first_known : (k : ℕ) (vs : List Declaration) (x : ℕ) → KnownAt (map as_known (take k vs) ++ drop k vs) x → KnownAt vs x ⊎ (x < k)
first_known zero vs x h = inl h
first_known (suc k) [] x h = inl h
first_known (suc k) (v ∷ vs) zero h = inr (omega arith)
first_known (suc k) (v ∷ vs) (suc x) h = ⊎_elim (λ a. inl a) (λ l. inr (omega arith)) (first_known k vs x h)

pub known_within : (i k : ℕ) (vs : List Declaration) (x : ℕ) → KnownAt (known_among i k vs) x → KnownAt vs x ⊎ ((i ≤ x) × (x < i + k))
known_within zero k vs x h = from (first_known k vs x h)
  where
    from : KnownAt vs x ⊎ (x < k) → KnownAt vs x ⊎ ((0 ≤ x) × (x < 0 + k))
    from (inl a) = inl a
    from (inr l) = inr (omega arith, omega arith)
known_within (suc i) zero [] x h = inl h
known_within (suc i) (suc k) [] x h = inl h
known_within (suc i) k (v ∷ vs) zero h = inl h
known_within (suc i) k (v ∷ vs) (suc x) h = ⊎_elim (λ a. inl a) (λ l. inr (omega arith, omega arith)) (known_within i k vs x h)

pub known_length : (i k : ℕ) (vs : List Declaration) → length (known_among i k vs) ≡ length vs
known_length zero k vs = first_length k vs
  where
    first_length : (k : ℕ) (vs : List Declaration) → length (map as_known (take k vs) ++ drop k vs) ≡ length vs
    first_length zero vs = refl
    first_length (suc k) [] = refl
    first_length (suc k) (v ∷ vs) = ap suc (first_length k vs)
known_length (suc i) zero [] = refl
known_length (suc i) (suc k) [] = refl
known_length (suc i) k (v ∷ vs) = ap suc (known_length i k vs)
