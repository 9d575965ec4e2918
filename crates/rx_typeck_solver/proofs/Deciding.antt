-- A task in order has a valid assignment, or a node at which a rule is broken or it isn't clear which type is meant: by what
-- the solver finds, whose open literals and classes are each fine or not.
use Rattle.std.proofs.Common.{◌≡◌, ◌⊎◌, ℕ, Bool, true, false, nat_eq, IsTrue, List, [], ◌∷◌, map, Option, Some, None, inl, inr, ⊎_elim, refl, sym, ap, subst, ◌∙◌}
use Rattle.std.proofs.lemmas.Bool.{eqb-true, eqb-false}
use Rattle.rx_core.specs.declared.types.Span.{Span}
use Rattle.rx_typed.specs.Types.{integer, unit_shape}
use Rattle.rx_typeck_solver.specs.declared.facts.Broken.{Broken}
use Rattle.rx_typeck_solver.specs.declared.facts.Broken.TheVariants as broken
use Rattle.rx_typeck_solver.specs.declared.facts.Rule.{Rule}
use Rattle.rx_typeck_solver.specs.declared.facts.Subject.TheVariants as subject
use Rattle.rx_typeck_solver.specs.declared.facts.Subject.{Subject}
use Rattle.rx_typeck_solver.specs.declared.facts.Demand.{Demand}
use Rattle.rx_typeck_solver.specs.Facts.{Assignment, KnownItems}
use Rattle.rx_typeck_solver.specs.Valid.{Task, Told, IsIn, Valid, Breaks, IsUnclear, Asked}
use Rattle.rx_typeck_solver.specs.Solver.{Leaf, Fixed, KindOf, Term, State, empty, Found, Found_all, Failed, Lacking, solve, literal_fine, class_fine, Root, pick, filled_or, answer}
use Rattle.rx_typeck_solver.specs.Ordered.{Orderly}
use Rattle.rx_typeck_solver.proofs.Order.{AskedAt}
use Rattle.rx_typeck_solver.proofs.Final.{failed_breaks, not_lacking, asks_asked, root_asked, known_told, answer_valid, unclear_class, unclear_literal}

-- a node of a task without a valid assignment
pub record Faulty (K : KnownItems) (task : Task) : Type 0 where
  pub none : (A : Assignment) → Valid K task A → ⊥
  pub node : ℕ
  pub at : Span
  pub rule : Broken
  pub asked : Asked task.demands node at
  pub breaks : Breaks K task node rule ⊎ ((rule ≡ broken.Mismatch Rule.Unclear) × IsUnclear K task node)

unclear : (K : KnownItems) (task : Task) (n : ℕ) → AskedAt task.demands n → IsUnclear K task n → Faulty K task
unclear K task n a u = record { none = u.not_valid; node = n; at = a.0; rule = broken.Mismatch Rule.Unclear; asked = a.1; breaks = inr (refl, u) }

-- ---- each of a list, or one that is not

abbrev All : (ℕ → Bool) → List ℕ → Type 0
All f ns = (n : ℕ) → IsIn n ns → IsTrue (f n)

all_or_one : (f : ℕ → Bool) (ns : List ℕ) → All f ns ⊎ ((n : ℕ) × IsIn n ns × (f n ≡ false))
all_or_one f [] = inl (λ n i. absurd i)
all_or_one f (m ∷ ns) = by (f m) refl (all_or_one f ns)
  where
    by : (b : Bool) → f m ≡ b → All f ns ⊎ ((n : ℕ) × IsIn n ns × (f n ≡ false)) → All f (m ∷ ns) ⊎ ((n : ℕ) × IsIn n (m ∷ ns) × (f n ≡ false))
    by false e r = inr (m, inl refl, e)
    by true e (inr r) = inr (r.0, inr r.1, r.2)
    by true e (inl r) = inl (λ n i. ⊎_elim (λ q. ap f q ∙ e) (λ j. r n j) i)

-- ---- roots

leaf_root : (a : Leaf) (n : ℕ) → (Some (integer a) ≡ Some (integer (KindOf n))) ⊎ (Some (integer a) ≡ Some (integer (KindOf n)) → ⊥)
leaf_root (Fixed k) n = inr (λ e. cc)
leaf_root (KindOf m) n = by (nat_eq m n) refl
  where
    by : (b : Bool) → nat_eq m n ≡ b → (Some (integer (KindOf m)) ≡ Some (integer (KindOf n))) ⊎ (Some (integer (KindOf m)) ≡ Some (integer (KindOf n)) → ⊥)
    by true e = inl (ap (λ k. Some (integer (KindOf k))) (eqb-true m n e))
    by false e = inr (λ h. eqb-false m n e (cc))

is_root : (o : Option Term) (n : ℕ) → (o ≡ Some (integer (KindOf n))) ⊎ (o ≡ Some (integer (KindOf n)) → ⊥)
is_root None n = inr (λ e. cc)
is_root (Some (integer a)) n = leaf_root a n
is_root (Some _) n = inr (λ e. cc)

abbrev nodes_of : List Demand → List ℕ
nodes_of [] = []
nodes_of (d ∷ ds) = d.node ∷ nodes_of ds

asked_node : (n : ℕ) (s : Span) (ds : List Demand) → Asked ds n s → IsIn n (nodes_of ds)
asked_node n s [] a = absurd a
asked_node n s (d ∷ ds) (inl a) = inl (sym a.0)
asked_node n s (d ∷ ds) (inr a) = inr (asked_node n s ds a)

-- of some nodes, all roots are fine, or one is not
abbrev Fine : State → List ℕ → ℕ → Type 0
Fine st ls n = Root st.shapes n → IsTrue (class_fine st ls (st.rep n))

abbrev Coarse : State → List ℕ → ℕ → Type 0
Coarse st ls n = Root st.shapes n × (class_fine st ls (st.rep n) ≡ false)

one_root : (st : State) (ls : List ℕ) (n : ℕ) → Fine st ls n ⊎ Coarse st ls n
one_root st ls n = by (class_fine st ls (st.rep n)) refl (is_root (st.shapes (subject.Node n)) n)
  where
    by : (b : Bool) → class_fine st ls (st.rep n) ≡ b → Root st.shapes n ⊎ (Root st.shapes n → ⊥) → Fine st ls n ⊎ Coarse st ls n
    by true e r = inl (λ _. e)
    by false e (inl r) = inr (r, e)
    by false e (inr h) = inl (λ r. absurd (h r))

roots : (st : State) (ls ns : List ℕ) → ((n : ℕ) → IsIn n ns → Fine st ls n) ⊎ ((n : ℕ) × Coarse st ls n)
roots st ls [] = inl (λ n i. absurd i)
roots st ls (m ∷ ns) = by (one_root st ls m) (roots st ls ns)
  where
    by : Fine st ls m ⊎ Coarse st ls m → ((n : ℕ) → IsIn n ns → Fine st ls n) ⊎ ((n : ℕ) × Coarse st ls n) → ((n : ℕ) → IsIn n (m ∷ ns) → Fine st ls n) ⊎ ((n : ℕ) × Coarse st ls n)
    by (inr c) r = inr (m, c)
    by (inl f) (inr c) = inr c
    by (inl f) (inl r) = inl (λ n i. ⊎_elim (λ e. subst (λ k. Fine st ls k) (sym e) f) (λ j. r n j) i)

-- ---- a task

-- where the rules give no type, that of the assignment is the unit
abbrev pub Untold : Task → Assignment → Type 0
Untold task A = (x : Subject) → (Told task.demands x → ⊥) → A x ≡ unit_shape

untold_unit : (K : KnownItems) (task : Task) (st : State) (o : Orderly task) (e : solve K task.demands empty ≡ Found_all st) → Untold task (answer st)
untold_unit K task st o e x n = by (st.shapes x) refl
  where
    by : (t : Option Term) → st.shapes x ≡ t → answer st x ≡ unit_shape
    by None h = ap (filled_or (λ c. pick (st.set (st.rep c)))) h
    by (Some t) h = absurd (n (known_told K task st o e x (t, h)))

pub valid_or_not : (K : KnownItems) (task : Task) → Orderly task → ((A : Assignment) × (Valid K task A × Untold task A)) ⊎ Faulty K task
valid_or_not K task o = by (solve K task.demands empty) refl
  where
    ended : (st : State) → solve K task.demands empty ≡ Found_all st
        → All (λ n. literal_fine st (st.shapes (subject.Node n))) task.literals ⊎ ((n : ℕ) × IsIn n task.literals × (literal_fine st (st.shapes (subject.Node n)) ≡ false))
        → ((n : ℕ) → IsIn n (nodes_of task.demands) → Fine st task.literals n) ⊎ ((n : ℕ) × Coarse st task.literals n)
        → ((A : Assignment) × (Valid K task A × Untold task A)) ⊎ Faulty K task
    ended st e (inr l) c = inr (unclear K task l.0 (asks_asked l.0 task.demands (o.literals l.0 l.1)) (unclear_literal K task st o e l.0 l.1 l.2))
    ended st e (inl l) (inr c) = inr (unclear K task c.0 (root_asked K task st o e c.0 c.1.0) (unclear_class K task st o e l c.0 c.1.0 c.1.1))
    ended st e (inl l) (inl f) =
        inl (answer st, (answer_valid K task st o e l (λ n r. let a = root_asked K task st o e n r in f n (asked_node n a.0 task.demands a.1) r), untold_unit K task st o e))

    by : (r : Found) → solve K task.demands empty ≡ r → ((A : Assignment) × (Valid K task A × Untold task A)) ⊎ Faulty K task
    by (Found_all st) e = ended st e (all_or_one (λ n. literal_fine st (st.shapes (subject.Node n))) task.literals) (roots st task.literals (nodes_of task.demands))
    by (Failed d) e =
        let b = failed_breaks K task d e in
        inr (record { none = λ A v. b.2 A v.prefers.typed; node = d.node; at = d.span; rule = d.broken; asked = b.1; breaks = inl b.0 })
    by Lacking e = absurd (not_lacking K task o e)
