-- Two assignments of an orderly task have the same outlines, and can be joined: where one has i32, that, else the other's kind.
use Rattle.std.proofs.Common.{◌≡◌, ℕ, Bool, true, false, ◌||◌, IsTrue, List, [], ◌∷◌, Option, Some, None, nat_eq, refl, sym, ap, ◌∙◌, subst, inl, inr, ◌⊎◌, ⊎_elim, eqb-true}
use Rattle.rx_core.specs.declared.types.Kind.{Kind}
use Rattle.rx_typed.specs.Types.{integer, outline, peeled, unit_shape}
use Rattle.rx_typeck_solver.specs.declared.facts.Subject.{Subject}
use Rattle.rx_typeck_solver.specs.declared.facts.Subject.TheVariants as subject
use Rattle.rx_typeck_solver.specs.declared.facts.Fact.{Fact}
use Rattle.rx_typeck_solver.specs.declared.facts.Fact.TheVariants as fact
use Rattle.rx_typeck_solver.specs.declared.facts.Demand.{Demand}
use Rattle.rx_typeck_solver.specs.Facts.{Assignment, KnownItems, has, MeetsAll, MeetsEach}
use Rattle.rx_typeck_solver.specs.Valid.{Task, Told, IsIn, Typed, HasKind}
use Rattle.rx_typeck_solver.specs.Solver.{Leaf, Fixed, KindOf, Term, State, Root, Found, empty, filled_or, chosen, Found_all, Failed, Lacking, solve}
use Rattle.rx_typeck_solver.specs.Ordered.{asks_integer, AsksInteger, Orderly}
use Rattle.rx_typeck_solver.proofs.Natural.{peeled_map, outline_map}
use Rattle.rx_typeck_solver.proofs.Base.{kind_of, kind_at, leaf_kind, filled, RootedLeaf, Rooted, rooted_peeled, Stands, Adds}
use Rattle.rx_typeck_solver.proofs.EachFact.{solve_step, IsFound}
use Rattle.rx_typeck_solver.proofs.Final.{failed_breaks, not_lacking, told_known}
use Rattle.rx_typeck_solver.proofs.Choice.{empty_good, empty_stands, Chooses, chosen_stands, kind_root}

-- ---- a literal has a kind

pub asks_fact : (D : KnownItems) (A : Assignment) (n : ℕ) (fs : List Fact) → IsTrue (asks_integer n fs) → MeetsAll D A fs → (k : Kind) × (peeled (A (subject.Node n)) ≡ integer k)
asks_fact D A n [] h m = cc
asks_fact D A n (fact.Integer j s ∷ fs) h m = go (nat_eq j n) refl h (λ i. asks_fact D A n fs i m.1)
  where
    go : (b : Bool) → nat_eq j n ≡ b → IsTrue (b || asks_integer n fs) → (IsTrue (asks_integer n fs) → (k : Kind) × (peeled (A (subject.Node n)) ≡ integer k)) → (k : Kind) × (peeled (A (subject.Node n)) ≡ integer k)
    go true e h r = (m.0.0, ap (λ i. peeled (A (subject.Node i))) (sym (eqb-true j n e)) ∙ ap peeled m.0.1)
    go false e h r = r h
asks_fact D A n (fact.IntegerBehind j s ∷ fs) h m = go (nat_eq j n) refl h (λ i. asks_fact D A n fs i m.1)
  where
    go : (b : Bool) → nat_eq j n ≡ b → IsTrue (b || asks_integer n fs) → (IsTrue (asks_integer n fs) → (k : Kind) × (peeled (A (subject.Node n)) ≡ integer k)) → (k : Kind) × (peeled (A (subject.Node n)) ≡ integer k)
    go true e h r = (m.0.0, ap (λ i. peeled (A (subject.Node i))) (sym (eqb-true j n e)) ∙ m.0.1)
    go false e h r = r h
asks_fact D A n (_ ∷ fs) h m = asks_fact D A n fs h m.1

pub asks_met : (D : KnownItems) (A : Assignment) (n : ℕ) (ds : List Demand) → AsksInteger ds n → MeetsEach D A ds → (k : Kind) × (peeled (A (subject.Node n)) ≡ integer k)
asks_met D A n [] h m = absurd h
asks_met D A n (d ∷ ds) (inl h) m = asks_fact D A n d.facts h.1 m.0
asks_met D A n (d ∷ ds) (inr h) m = asks_met D A n ds h m.1

-- ---- kinds

pub kind_same : (k l : Kind) → (k ≡ l) ⊎ (k ≡ l → ⊥)
kind_same Kind.U8 Kind.U8 = inl refl
kind_same Kind.U32 Kind.U32 = inl refl
kind_same Kind.U64 Kind.U64 = inl refl
kind_same Kind.I32 Kind.I32 = inl refl
kind_same Kind.I64 Kind.I64 = inl refl
kind_same _ _ = inr (λ e. cc)

-- i32, where the first is that, else the second
abbrev pub i32_or : Kind → Kind → Kind
i32_or Kind.I32 l = Kind.I32
i32_or _ l = l

or_is : (k l : Kind) → ((k ≡ Kind.I32) × (i32_or k l ≡ Kind.I32)) ⊎ ((k ≡ Kind.I32 → ⊥) × (i32_or k l ≡ l))
or_is Kind.I32 l = inl (refl, refl)
or_is _ l = inr (λ e. cc, refl)

-- ---- the state that the solver finds stands for all typed assignments

module _ (D : KnownItems) (task : Task) (o : Orderly task) where
  -- and one that is joined with i32
  pub record Joined (A B : Assignment) : Type 0 where
    pub join : Assignment
    pub typed : Typed D task join
    pub first : (n : ℕ) → IsIn n task.literals → HasKind D task A n Kind.I32 → HasKind D task join n Kind.I32
    pub second : (n : ℕ) → IsIn n task.literals → HasKind D task A n Kind.I32 ⊎ (peeled (join (subject.Node n)) ≡ peeled (B (subject.Node n)))

  module _ (st : State) (end : solve D task.demands empty ≡ Found_all st) where
    abbrev pub adds : Adds empty st (λ A. MeetsEach D A task.demands)
    adds = subst (λ r. IsFound D empty task.demands r) end (solve_step D task.demands empty empty_good)

    pub stands_typed : (A : Assignment) → Stands A st → Typed D task A
    stands_typed A s = (adds.sound A s).1

    pub typed_stands : (A : Assignment) → Typed D task A → Stands A st
    typed_stands A t = adds.complete A (empty_stands A) t

    outlined : (A B : Assignment) → Typed D task A → Typed D task B → (x : Subject) → Told task.demands x → outline (A x) ≡ outline (B x)
    outlined A B a b x t =
        let k = told_known D task st o end x t in
        let e : outline (A x) ≡ outline k.0 = ap outline ((typed_stands A a).shapes x k.0 k.1) ∙ outline_map (leaf_kind A) k.0 in
        let f : outline (B x) ≡ outline k.0 = ap outline ((typed_stands B b).shapes x k.0 k.1) ∙ outline_map (leaf_kind B) k.0 in
        e ∙ sym f

    module _ (A B : Assignment) (sa : Stands A st) (sb : Stands B st) where
      abbrev χ : ℕ → Kind
      χ u = i32_or (kind_at A u) (kind_at B u)

      abbrev both : Assignment
      both = chosen st χ

      one_of : (P : Kind → Type 0) (k l : Kind) → P k → P l → P (i32_or k l)
      one_of P k l p q = ⊎_elim (λ e. subst P (e.0 ∙ sym e.1) p) (λ e. subst P (sym e.1) q) (or_is k l)

      chooses : Chooses st χ
      chooses = record {
        within = λ u ru. one_of (λ k. IsTrue (has (st.set (st.rep u)) k)) (kind_at A (st.rep u)) (kind_at B (st.rep u))
            (subst (λ k. IsTrue (has (st.set (st.rep u)) k)) (sa.alike u ru) (sa.within u ru))
            (subst (λ k. IsTrue (has (st.set (st.rep u)) k)) (sb.alike u ru) (sb.within u ru));
      }

      stands : Stands both st
      stands = chosen_stands st χ adds.good chooses

      both_kind : (u : ℕ) → Root st.shapes u → kind_at both u ≡ i32_or (kind_at A u) (kind_at B u)
      both_kind u ru = kind_root st χ u ru ∙ ap (λ k. i32_or k (kind_at B (st.rep u))) (sym (sa.alike u ru)) ∙ ap (i32_or (kind_at A u)) (sym (sb.alike u ru))

      abbrev LeafOf : ℕ → Type 0
      LeafOf n = (t : Term) × (a : Leaf) × (st.shapes (subject.Node n) ≡ Some t) × (peeled t ≡ integer a)

      integer_leaf : (t : Term) (k : Kind) → filled A t ≡ integer k → (a : Leaf) × (t ≡ integer a)
      integer_leaf (integer a) k e = (a, refl)
      integer_leaf _ k e = cc

      -- the answer gives the unit to what has no shape, which is no integer
      literal_leaf : (n : ℕ) → IsIn n task.literals → LeafOf n
      literal_leaf n h = go (st.shapes (subject.Node n)) refl
        where
          is : (k : Kind) × (peeled (both (subject.Node n)) ≡ integer k)
          is = asks_met D both n task.demands (o.literals n h) (stands_typed both stands)

          isa : (k : Kind) × (peeled (A (subject.Node n)) ≡ integer k)
          isa = asks_met D A n task.demands (o.literals n h) (stands_typed A sa)

          go : (p : Option Term) → st.shapes (subject.Node n) ≡ p → LeafOf n
          go None e = let q : peeled (both (subject.Node n)) ≡ unit_shape = ap (λ p. peeled (filled_or (λ c. χ (st.rep c)) p)) e in let r : unit_shape ≡ integer is.0 = sym q ∙ is.1 in absurd (cc)
          go (Some t) e = let p = integer_leaf (peeled t) isa.0 (sym (ap peeled (sa.shapes (subject.Node n) t e) ∙ peeled_map (leaf_kind A) t) ∙ isa.1) in (t, p.0, e, p.1)

      leaf_type : (C : Assignment) (n : ℕ) (p : LeafOf n) → Stands C st → peeled (C (subject.Node n)) ≡ integer (leaf_kind C p.1)
      leaf_type C n p s = ap peeled (s.shapes (subject.Node n) p.0 p.2) ∙ peeled_map (leaf_kind C) p.0 ∙ ap (filled C) p.3

      leaf_rooted : (n : ℕ) (p : LeafOf n) → RootedLeaf st.shapes p.1
      leaf_rooted n p = subst (λ t. Rooted st.shapes t) p.3 (rooted_peeled st.shapes p.0 (adds.good.rooted (subject.Node n) p.0 p.2))

      leaf_first : (a : Leaf) → RootedLeaf st.shapes a → leaf_kind A a ≡ Kind.I32 → leaf_kind both a ≡ Kind.I32
      leaf_first (Fixed k) r e = e
      leaf_first (KindOf u) r e = both_kind u r ∙ ap (λ k. i32_or k (kind_at B u)) e

      leaf_second : (a : Leaf) → RootedLeaf st.shapes a → (leaf_kind A a ≡ Kind.I32) ⊎ (leaf_kind both a ≡ leaf_kind B a)
      leaf_second (Fixed k) r = inr refl
      leaf_second (KindOf u) r = ⊎_elim (λ e. inl e.0) (λ e. inr (both_kind u r ∙ e.1)) (or_is (kind_at A u) (kind_at B u))

      joined_at : Joined A B
      joined_at = record {
        join = both;
        typed = stands_typed both stands;
        first = λ n i e. let l = literal_leaf n i in leaf_type both n l stands ∙ ap integer (leaf_first l.1 (leaf_rooted n l) (ap kind_of (sym (leaf_type A n l sa) ∙ e)));
        second = λ n i. let l = literal_leaf n i in ⊎_elim (λ e. inl (leaf_type A n l sa ∙ ap integer e))
            (λ e. inr (leaf_type both n l stands ∙ ap integer e ∙ sym (leaf_type B n l sb))) (leaf_second l.1 (leaf_rooted n l));
      }

  -- the solver finds a state, since something is typed
  pub finds : {P : Type 0} → (A : Assignment) → Typed D task A → ((st : State) → solve D task.demands empty ≡ Found_all st → P) → P
  finds {P} A t f = go (solve D task.demands empty) refl
    where
      go : (r : Found) → solve D task.demands empty ≡ r → P
      go (Found_all st) e = f st e
      go (Failed d) e = absurd ((failed_breaks D task d e).2 A t)
      go Lacking e = absurd (not_lacking D task o e)

  pub same_outlines : (A B : Assignment) → Typed D task A → Typed D task B → (x : Subject) → Told task.demands x → outline (A x) ≡ outline (B x)
  same_outlines A B a b x t = finds A a (λ st e. outlined st e A B a b x t)

  pub joined : (A B : Assignment) → Typed D task A → Typed D task B → Joined A B
  joined A B a b = finds A a (λ st e. joined_at st e A B (typed_stands st e A a) (typed_stands st e B b))
