-- In an ordered list of demands that are met, what a fact reads was told before it; and a literal's node is read, or told, by the
-- demand that asks for its kind.
use Rattle.std.proofs.Common.{◌≡◌, ◌⊎◌, inl, inr, ⊎_elim, ℕ, Bool, true, false, ◌||◌, nat_eq, IsTrue, List, [], ◌∷◌, refl, ap, sym, subst, true≢false}
use Rattle.std.proofs.lemmas.Bool.{eqb-true}
use Rattle.rx_typeck_solver.specs.declared.facts.Subject.{Subject}
use Rattle.rx_typeck_solver.specs.declared.facts.Subject.TheVariants as subject
use Rattle.rx_typeck_solver.specs.declared.facts.Fact.{Fact}
use Rattle.rx_typeck_solver.specs.declared.facts.Fact.TheVariants as fact
use Rattle.rx_typeck_solver.specs.declared.facts.Demand.{Demand}
use Rattle.rx_typeck_solver.specs.Facts.{Assignment, KnownItems, Meets, MeetsAll, MeetsEach}
use Rattle.rx_typeck_solver.specs.Valid.{Task, Tells, TellsAny, Told, IsIn, Typed}
use Rattle.rx_typeck_solver.specs.Solver.{same_subject}
use Rattle.rx_typeck_solver.specs.Ordered.{Knowing, nothing, learns, learns_all, Ready, Ordered, asks_integer, AsksInteger, Orderly}
use Rattle.rx_typeck_solver.proofs.Base.{same_subject_true}

either : (a b : Bool) → (a || b) ≡ true → (a ≡ true) ⊎ (b ≡ true)
either true b h = inl refl
either false b h = inr h

module _ (D : KnownItems) (A : Assignment) where
  -- ---- what is known behind facts was known before, or is told by them

  known_more : (x y : Subject) (b : Bool) → IsTrue (same_subject x y || b) → IsTrue b ⊎ (x ≡ y)
  known_more x y b h = ⊎_elim (λ e. inr (same_subject_true x y e)) (λ k. inl k) (either (same_subject x y) b h)

  known_fact : (K : Knowing) (f : Fact) (x : Subject) → Meets D A f → IsTrue (learns K f x) → IsTrue (K x) ⊎ Tells f x
  known_fact K (fact.Equals y o xs ps) x m h = known_more x y (K x) h
  known_fact K (fact.Integer n s) x m h = known_more x (subject.Node n) (K x) h
  known_fact K (fact.IntegerBehind n s) x m h = inl h
  known_fact K (fact.Passes t xs ps qs) x m h = inl h
  known_fact K fact.Never x m h = absurd m

  with_first : (K : Knowing) (f : Fact) (fs : List Fact) (x : Subject) → Meets D A f → IsTrue (learns K f x) ⊎ TellsAny fs x → IsTrue (K x) ⊎ TellsAny (f ∷ fs) x
  with_first K f fs x m (inl k) = ⊎_elim (λ j. inl j) (λ t. inr (inl t)) (known_fact K f x m k)
  with_first K f fs x m (inr t) = inr (inr t)

  known_facts : (K : Knowing) (fs : List Fact) (x : Subject) → MeetsAll D A fs → IsTrue (learns_all K fs x) → IsTrue (K x) ⊎ TellsAny fs x
  known_facts K [] x m h = inl h
  known_facts K (f ∷ fs) x m h = with_first K f fs x m.0 (known_facts (learns K f) fs x m.1 h)

  -- ---- a node that is asked to be an integer

  integer_told : (k : ℕ) (K : Knowing) (n : ℕ) (fs : List Fact) → MeetsAll D A fs → Ready k K fs → IsTrue (asks_integer n fs) → IsTrue (K (subject.Node n)) ⊎ TellsAny fs (subject.Node n)
  integer_told k K n [] m r h = absurd (true≢false (sym h))
  integer_told k K n (fact.Integer j s ∷ fs) m r h = by (either (nat_eq j n) (asks_integer n fs) h) (λ i. integer_told k (learns K (fact.Integer j s)) n fs m.1 r.1 i)
    where
      by : (nat_eq j n ≡ true) ⊎ IsTrue (asks_integer n fs) → (IsTrue (asks_integer n fs) → IsTrue (learns K (fact.Integer j s) (subject.Node n)) ⊎ TellsAny fs (subject.Node n))
          → IsTrue (K (subject.Node n)) ⊎ TellsAny (fact.Integer j s ∷ fs) (subject.Node n)
      by (inl e) rest = inr (inl (ap (λ i. subject.Node i) (sym (eqb-true j n e))))
      by (inr i) rest = with_first K (fact.Integer j s) fs (subject.Node n) m.0 (rest i)
  integer_told k K n (fact.IntegerBehind j s ∷ fs) m r h = by (either (nat_eq j n) (asks_integer n fs) h) (λ i. integer_told k K n fs m.1 r.1 i)
    where
      by : (nat_eq j n ≡ true) ⊎ IsTrue (asks_integer n fs) → (IsTrue (asks_integer n fs) → IsTrue (K (subject.Node n)) ⊎ TellsAny fs (subject.Node n))
          → IsTrue (K (subject.Node n)) ⊎ TellsAny (fact.IntegerBehind j s ∷ fs) (subject.Node n)
      by (inl e) rest = inl (subst (λ i. IsTrue (K (subject.Node i))) (eqb-true j n e) r.0)
      by (inr i) rest = with_first K (fact.IntegerBehind j s) fs (subject.Node n) m.0 (rest i)
  integer_told k K n (fact.Equals y o xs ps ∷ fs) m r h =
      with_first K (fact.Equals y o xs ps) fs (subject.Node n) m.0 (integer_told k (learns K (fact.Equals y o xs ps)) n fs m.1 r.1 h)
  integer_told k K n (fact.Passes t xs ps qs ∷ fs) m r h = with_first K (fact.Passes t xs ps qs) fs (subject.Node n) m.0 (integer_told k K n fs m.1 r.1 h)
  integer_told k K n (fact.Never ∷ fs) m r h = absurd m.0

  asked_told : (K : Knowing) (ds : List Demand) (n : ℕ) → MeetsEach D A ds → Ordered K ds → AsksInteger ds n → IsTrue (K (subject.Node n)) ⊎ Told ds (subject.Node n)
  asked_told K [] n m o h = absurd h
  asked_told K (d ∷ ds) n m o (inl h) = ⊎_elim (λ k. inl k) (λ t. inr (inl t)) (integer_told d.node K n d.facts m.0 o.0 h.1)
  asked_told K (d ∷ ds) n m o (inr h) = by (asked_told (learns_all K d.facts) ds n m.1 o.1 h)
    where
      by : IsTrue (learns_all K d.facts (subject.Node n)) ⊎ Told ds (subject.Node n) → IsTrue (K (subject.Node n)) ⊎ Told (d ∷ ds) (subject.Node n)
      by (inl k) = ⊎_elim (λ j. inl j) (λ t. inr (inl t)) (known_facts K d.facts (subject.Node n) m.0 k)
      by (inr t) = inr (inr t)

-- each literal of a task whose demands can be met has its type told
pub literal_told : (D : KnownItems) (task : Task) → Orderly task → (A : Assignment) → Typed D task A → (n : ℕ) → IsIn n task.literals → Told task.demands (subject.Node n)
literal_told D task o A typed n l = ⊎_elim (λ k. absurd (true≢false (sym k))) (λ t. t) (asked_told D A nothing task.demands n typed o.ordered (o.literals n l))
