-- Where all demands can be met the solver finds a state. If each literal and each class is fine in it the assignment is valid; else a
-- literal, or the node of a class, is unclear.
use Rattle.std.proofs.Common.{◌≡◌, ◌⊎◌, inl, inr, ⊎_elim, ℕ, Bool, true, false, nat_eq, IsTrue, List, [], ◌∷◌, Option, Some, None, refl, ap, sym, ◌∙◌, subst}
use Rattle.std.proofs.lemmas.Bool.{eqb-true, eqb-false}
use Rattle.rx_core.specs.declared.types.Span.{Span}
use Rattle.rx_typed.specs.Types.{integer}
use Rattle.rx_typeck_solver.specs.declared.facts.Subject.TheVariants as subject
use Rattle.rx_typeck_solver.specs.declared.facts.Demand.{Demand}
use Rattle.rx_typeck_solver.specs.Facts.{Assignment, KnownItems}
use Rattle.rx_typeck_solver.specs.Valid.{Task, Told, IsIn, Typed, Open, Valid, IsUnclear, Asked}
use Rattle.rx_typeck_solver.specs.Solver.{Leaf, Fixed, KindOf, Term, State, empty, Found, Found_all, Failed, Lacking, solve, literal_fine, class_fine, Root, answer}
use Rattle.rx_typeck_solver.specs.Ordered.{Orderly}
use Rattle.rx_typeck_solver.proofs.Order.{AskedAt}
use Rattle.rx_typeck_solver.proofs.Final.{failed_breaks, not_lacking, asks_asked, root_asked, answer_valid, unclear_class, unclear_literal}
use Rattle.rx_typeck_unclear_laws.proofs.Telling.{literal_told}

-- ---- each of a list, or one that is not

all_or_one : (f : ℕ → Bool) (ns : List ℕ) → ((n : ℕ) → IsIn n ns → IsTrue (f n)) ⊎ ((n : ℕ) × IsIn n ns × (f n ≡ false))
all_or_one f [] = inl (λ n i. absurd i)
all_or_one f (m ∷ ns) = by (f m) refl (all_or_one f ns)
  where
    by : (b : Bool) → f m ≡ b → ((n : ℕ) → IsIn n ns → IsTrue (f n)) ⊎ ((n : ℕ) × IsIn n ns × (f n ≡ false))
        → ((n : ℕ) → IsIn n (m ∷ ns) → IsTrue (f n)) ⊎ ((n : ℕ) × IsIn n (m ∷ ns) × (f n ≡ false))
    by false e r = inr (m, inl refl, e)
    by true e (inr r) = inr (r.0, inr r.1, r.2)
    by true e (inl r) = inl (λ n i. ⊎_elim (λ q. ap f q ∙ e) (λ j. r n j) i)

-- ---- nodes that stand for their class

leaf_root : (a : Leaf) (n : ℕ) → (Some (integer a) ≡ Some (integer (KindOf n))) ⊎ (Some (integer a) ≡ Some (integer (KindOf n)) → ⊥)
leaf_root (Fixed k) n = inr (λ e. cc)
leaf_root (KindOf m) n = by (nat_eq m n) refl
  where
    by : (b : Bool) → nat_eq m n ≡ b → (Some (integer (KindOf m)) ≡ Some (integer (KindOf n))) ⊎ (Some (integer (KindOf m)) ≡ Some (integer (KindOf n)) → ⊥)
    by true e = inl (ap (λ k. Some (integer (KindOf k))) (eqb-true m n e))
    by false e = inr (λ h. eqb-false m n e (cc))

is_root : (o : Option Term) (n : ℕ) → (o ≡ Some (integer (KindOf n))) ⊎ (o ≡ Some (integer (KindOf n)) → ⊥)
is_root None n = inr (λ e. cc)
is_root (Some (integer a)) n = leaf_root a n
is_root (Some _) n = inr (λ e. cc)

abbrev nodes_of : List Demand → List ℕ
nodes_of [] = []
nodes_of (d ∷ ds) = d.node ∷ nodes_of ds

asked_node : (n : ℕ) (s : Span) (ds : List Demand) → Asked ds n s → IsIn n (nodes_of ds)
asked_node n s [] a = absurd a
asked_node n s (d ∷ ds) (inl a) = inl (sym a.0)
asked_node n s (d ∷ ds) (inr a) = inr (asked_node n s ds a)

abbrev Fine : State → List ℕ → ℕ → Type 0
Fine st ls n = Root st.shapes n → IsTrue (class_fine st ls (st.rep n))

abbrev Coarse : State → List ℕ → ℕ → Type 0
Coarse st ls n = Root st.shapes n × (class_fine st ls (st.rep n) ≡ false)

one_root : (st : State) (ls : List ℕ) (n : ℕ) → Fine st ls n ⊎ Coarse st ls n
one_root st ls n = by (class_fine st ls (st.rep n)) refl (is_root (st.shapes (subject.Node n)) n)
  where
    by : (b : Bool) → class_fine st ls (st.rep n) ≡ b → Root st.shapes n ⊎ (Root st.shapes n → ⊥) → Fine st ls n ⊎ Coarse st ls n
    by true e r = inl (λ _. e)
    by false e (inl r) = inr (r, e)
    by false e (inr h) = inl (λ r. absurd (h r))

roots : (st : State) (ls ns : List ℕ) → ((n : ℕ) → IsIn n ns → Fine st ls n) ⊎ ((n : ℕ) × Coarse st ls n)
roots st ls [] = inl (λ n i. absurd i)
roots st ls (m ∷ ns) = by (one_root st ls m) (roots st ls ns)
  where
    by : Fine st ls m ⊎ Coarse st ls m → ((n : ℕ) → IsIn n ns → Fine st ls n) ⊎ ((n : ℕ) × Coarse st ls n) → ((n : ℕ) → IsIn n (m ∷ ns) → Fine st ls n) ⊎ ((n : ℕ) × Coarse st ls n)
    by (inr c) r = inr (m, c)
    by (inl f) (inr c) = inr c
    by (inl f) (inl r) = inl (λ n i. ⊎_elim (λ e. subst (λ k. Fine st ls k) (sym e) f) (λ j. r n j) i)

-- ---- a task

abbrev Found_there : KnownItems → Task → Type 0
Found_there K task = (m : ℕ) × (at : Span) × IsUnclear K task m × Asked task.demands m at

pub open_told : (K : KnownItems) (task : Task) → Orderly task → (n : ℕ) → Open K task n → Told task.demands (subject.Node n)
open_told K task o n w = literal_told K task o w.one w.typed_one n w.literal

pub some_unclear : (K : KnownItems) (task : Task) → Orderly task → (A : Assignment) → Typed K task A → ((V : Assignment) → Valid K task V → ⊥) → Found_there K task
some_unclear K task o A t v = by (solve K task.demands empty) refl
  where
    found : (m : ℕ) → AskedAt task.demands m → IsUnclear K task m → Found_there K task
    found m a u = (m, a.0, u, a.1)

    ended : (st : State) → solve K task.demands empty ≡ Found_all st
        → ((m : ℕ) → IsIn m task.literals → IsTrue (literal_fine st (st.shapes (subject.Node m)))) ⊎ ((m : ℕ) × IsIn m task.literals × (literal_fine st (st.shapes (subject.Node m)) ≡ false))
        → ((m : ℕ) → IsIn m (nodes_of task.demands) → Fine st task.literals m) ⊎ ((m : ℕ) × Coarse st task.literals m) → Found_there K task
    ended st e (inr l) c = found l.0 (asks_asked l.0 task.demands (o.literals l.0 l.1)) (unclear_literal K task st o e l.0 l.1 l.2)
    ended st e (inl l) (inr c) = found c.0 (root_asked K task st o e c.0 c.1.0) (unclear_class K task st o e l c.0 c.1.0 c.1.1)
    ended st e (inl l) (inl f) =
        absurd (v (answer st) (answer_valid K task st o e l (λ m r. let a = root_asked K task st o e m r in f m (asked_node m a.0 task.demands a.1) r)))

    by : (r : Found) → solve K task.demands empty ≡ r → Found_there K task
    by (Found_all st) e = ended st e (all_or_one (λ m. literal_fine st (st.shapes (subject.Node m))) task.literals) (roots st task.literals (nodes_of task.demands))
    by (Failed d) e = absurd ((failed_breaks K task d e).2 A t)
    by Lacking e = absurd (not_lacking K task o e)
