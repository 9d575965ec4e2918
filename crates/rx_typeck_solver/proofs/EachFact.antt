-- Each fact is added exactly, and so are whole lists of demands.
use Rattle.std.proofs.Common.{◌≡◌, ℕ, Bool, IsTrue, List, [], ◌∷◌, ◌++◌, map, Option, Some, None, refl, sym, ap, ◌∙◌, subst}
use Rattle.std.specs.Prelude.{option_map}
use Rattle.rx_typed.specs.Types.{Shape, integer, shape_map, outline, peeled}
use Rattle.rx_typeck_solver.specs.declared.facts.Kinds.{Kinds}
use Rattle.rx_typeck_solver.specs.declared.facts.Subject.{Subject}
use Rattle.rx_typeck_solver.specs.declared.facts.Subject.TheVariants as subject
use Rattle.rx_typeck_solver.specs.declared.facts.Passing.{Passing}
use Rattle.rx_typeck_solver.specs.declared.facts.Op.{Op}
use Rattle.rx_typeck_solver.specs.declared.facts.Test.{Test}
use Rattle.rx_typeck_solver.specs.declared.facts.Fact.{Fact}
use Rattle.rx_typeck_solver.specs.declared.facts.Fact.TheVariants as fact
use Rattle.rx_typeck_solver.specs.declared.facts.Demand.{Demand}
use Rattle.rx_typeck_solver.specs.Facts.{Assignment, KnownItems, has, AnInteger, made, gone_through, passed, types_at, outlines_at, holds, Meets, MeetsAll, MeetsEach}
use Rattle.rx_typeck_solver.specs.Solver.{Leaf, Fixed, KindOf, Term, State, Step, Go, No, Stuck, learn, leaf_in, integer_in, integer_at, behind_at, listed, terms_at, gone_at, passed_at, equal_to, equals, passes, take, take_all, Found, Found_all, Failed, Lacking, next, solve}
use Rattle.rx_typeck_solver.proofs.Natural.{outlines_map, peeled_map, gone_map, made_map}
use Rattle.rx_typeck_solver.proofs.Base.{kind_of, leaf_kind, filled, Table, RootedLeaf, Rooted, AllRooted, RootLeaf, its_leaf, rooted_of, to_all_rooted, rooted_peeled, Good, Stands, Adds, IsStep}
use Rattle.rx_typeck_solver.proofs.Steps.{stay, another, go_step, after_step, after_both, restrict_step, put_step, fresh_step, unify_step}

-- a type made of rooted ones is rooted
pub made_rooted : (D : KnownItems) (o : Op) (tab : Table) (ts : List Term) (ms : List Bool) (t : Term) → AllRooted tab ts → made Fixed D.items o ts ms ≡ Some t → Rooted tab t
made_rooted D o tab ts ms t r e =
    let p = to_all_rooted tab ts r in
    let n = made_map (its_leaf tab) (λ k. (Fixed k, tt)) Fixed (λ k. refl) D.items o p.0 ms in
    go (made (λ k. (Fixed k, tt)) D.items o p.0 ms) (sym n ∙ ap (λ us. made Fixed D.items o us ms) p.1 ∙ e)
  where
    go : (m : Option (Shape (RootLeaf tab))) → option_map (shape_map (its_leaf tab)) m ≡ Some t → Rooted tab t
    go None h = cc
    go (Some u) h = let q : shape_map (its_leaf tab) u ≡ t = cc in subst (λ t. Rooted tab t) q (rooted_of tab u)

-- what was read, as the assignments have it
read_types : (A : Assignment) (st : State) (xs : List Subject) (ts : List Term) → Stands A st → terms_at st.shapes xs ≡ Some ts → types_at A xs ≡ map (filled A) ts
read_types A st [] ts s e = let h : [] ≡ ts = cc in rw (sym h) refl
read_types A st (x ∷ xs) ts s e = go (st.shapes x) (terms_at st.shapes xs) refl refl e (λ us f. read_types A st xs us s f)
  where
    go : (o : Option Term) (p : Option (List Term)) → st.shapes x ≡ o → terms_at st.shapes xs ≡ p → listed o p ≡ Some ts → ((us : List Term) → terms_at st.shapes xs ≡ Some us → types_at A xs ≡ map (filled A) us) → types_at A (x ∷ xs) ≡ map (filled A) ts
    go (Some t) (Some us) a b h k = let q : t ∷ us ≡ ts = cc in ap (λ z. z ∷ types_at A xs) (s.shapes x t a) ∙ ap (λ zs. filled A t ∷ zs) (k us b) ∙ ap (map (filled A)) q
    go (Some t) None a b h k = cc
    go None p a b h k = cc

read_outlines : (A : Assignment) (xs : List Subject) → outlines_at A xs ≡ map outline (types_at A xs)
read_outlines A [] = refl
read_outlines A (x ∷ xs) = ap (λ us. outline (A x) ∷ us) (read_outlines A xs)

read_passed : (A : Assignment) (st : State) (ps : List Passing) (ms : List Bool) → Stands A st → passed_at st.shapes ps ≡ Some ms → passed A ps ≡ ms
read_passed A st [] ms s e = cc
read_passed A st (p ∷ ps) ms s e = go (st.shapes (subject.Node p.node)) (passed_at st.shapes ps) refl refl e (λ ns f. read_passed A st ps ns s f)
  where
    go : (o : Option Term) (q : Option (List Bool)) → st.shapes (subject.Node p.node) ≡ o → passed_at st.shapes ps ≡ q → gone_at o p.all q ≡ Some ms → ((ns : List Bool) → passed_at st.shapes ps ≡ Some ns → passed A ps ≡ ns) → passed A (p ∷ ps) ≡ ms
    go (Some t) (Some ns) a b h k = let q : gone_through p.all t ++ ns ≡ ms = cc in
        ap (λ z. gone_through p.all z ++ passed A ps) (s.shapes (subject.Node p.node) t a) ∙ ap (λ z. z ++ passed A ps) (gone_map (leaf_kind A) p.all t) ∙ ap (λ z. gone_through p.all t ++ z) (k ns b) ∙ q
    go (Some t) None a b h k = cc
    go None q a b h k = cc

pub read_rooted : (st : State) (xs : List Subject) (ts : List Term) → Good st → terms_at st.shapes xs ≡ Some ts → AllRooted st.shapes ts
read_rooted st [] ts g e = let h : [] ≡ ts = cc in subst (λ us. AllRooted st.shapes us) h tt
read_rooted st (x ∷ xs) ts g e = go (st.shapes x) (terms_at st.shapes xs) refl refl e (λ us f. read_rooted st xs us g f)
  where
    go : (o : Option Term) (p : Option (List Term)) → st.shapes x ≡ o → terms_at st.shapes xs ≡ p → listed o p ≡ Some ts → ((us : List Term) → terms_at st.shapes xs ≡ Some us → AllRooted st.shapes us) → AllRooted st.shapes ts
    go (Some t) (Some us) a b h k = let q : t ∷ us ≡ ts = cc in subst (λ us. AllRooted st.shapes us) q (g.rooted x t a, k us b)
    go (Some t) None a b h k = cc
    go None p a b h k = cc

module _ (D : KnownItems) (st : State) (g : Good st) where
  learn_step : (x : Subject) (t : Term) → Rooted st.shapes t → (o : Option Term) → st.shapes x ≡ o → IsStep st (λ A. A x ≡ filled A t) (learn o x t st)
  learn_step x t rt None e = put_step st x t g e rt
  learn_step x t rt (Some a) e = another st _ _ _ (λ A s. (λ h. s.shapes x a e ∙ h, λ h. sym (s.shapes x a e) ∙ h)) (unify_step st a t g (g.rooted x a e) rt)

  leaf_in_step : (a : Leaf) (s : Kinds) → RootedLeaf st.shapes a → IsStep st (λ A. IsTrue (has s (leaf_kind A a))) (leaf_in a s st)
  leaf_in_step (Fixed k) s r = go_step st _ _ g (λ A z. (λ h. h, λ h. h))
  leaf_in_step (KindOf n) s r = restrict_step st n s g r

  integer_in_step : (t : Term) (s : Kinds) → Rooted st.shapes t → IsStep st (λ A. AnInteger s (filled A t)) (integer_in t s st)
  integer_in_step (integer a) s r = another st _ _ _ (λ A z. (λ h. (leaf_kind A a, refl, h), λ h. subst (λ k. IsTrue (has s k)) (sym (ap kind_of h.1)) h.2)) (leaf_in_step a s r)
  integer_in_step _ s r = λ A h m. let q = m.1 in absurd (cc)

  integer_step : (n : ℕ) (s : Kinds) (o : Option Term) → st.shapes (subject.Node n) ≡ o → IsStep st (λ A. AnInteger s (A (subject.Node n))) (integer_at o n s st)
  integer_step n s None e = fresh_step st n s g e
  integer_step n s (Some t) e = another st _ _ _ (λ A z. (λ h. subst (λ u. AnInteger s u) (sym (z.shapes _ t e)) h, λ h. subst (λ u. AnInteger s u) (z.shapes _ t e) h)) (integer_in_step t s (g.rooted _ t e))

  behind_step : (n : ℕ) (s : Kinds) (o : Option Term) → st.shapes (subject.Node n) ≡ o → IsStep st (λ A. AnInteger s (peeled (A (subject.Node n)))) (behind_at o s st)
  behind_step n s None e = tt
  behind_step n s (Some t) e = another st _ _ _ (λ A z.
      let q : filled A (peeled t) ≡ peeled (A (subject.Node n)) = sym (ap peeled (z.shapes _ t e) ∙ peeled_map (leaf_kind A) t) in
      (λ h. subst (λ u. AnInteger s u) q h, λ h. subst (λ u. AnInteger s u) (sym q) h)) (integer_in_step (peeled t) s (rooted_peeled st.shapes t (g.rooted _ t e)))

  equals_step : (x : Subject) (o : Op) (xs : List Subject) (ps : List Passing) (ts : Option (List Term)) (ms : Option (List Bool)) → terms_at st.shapes xs ≡ ts → passed_at st.shapes ps ≡ ms → IsStep st (λ A. made (λ k. k) D.items o (types_at A xs) (passed A ps) ≡ Some (A x)) (equals D o x ts ms st)
  equals_step x o xs ps (Some ts) (Some ms) e f = go (made Fixed D.items o ts ms) refl
    where
      is : (A : Assignment) → Stands A st → made (λ k. k) D.items o (types_at A xs) (passed A ps) ≡ option_map (shape_map (leaf_kind A)) (made Fixed D.items o ts ms)
      is A s = ap (λ us. made (λ k. k) D.items o us (passed A ps)) (read_types A st xs ts s e) ∙ ap (λ ns. made (λ k. k) D.items o (map (filled A) ts) ns) (read_passed A st ps ms s f) ∙ made_map (leaf_kind A) Fixed (λ k. k) (λ k. refl) D.items o ts ms

      go : (m : Option Term) → made Fixed D.items o ts ms ≡ m → IsStep st (λ A. made (λ k. k) D.items o (types_at A xs) (passed A ps) ≡ Some (A x)) (equal_to m x st)
      go None n = λ A s h. let q : None ≡ Some (A x) = sym (is A s ∙ ap (option_map (shape_map (leaf_kind A))) n) ∙ h in cc
      go (Some t) n = another st (λ A. A x ≡ filled A t) _ _ (λ A s.
          let q : made (λ k. k) D.items o (types_at A xs) (passed A ps) ≡ Some (filled A t) = is A s ∙ ap (option_map (shape_map (leaf_kind A))) n in
          (λ h. q ∙ ap Some (sym h), λ h. let r : Some (filled A t) ≡ Some (A x) = sym q ∙ h in cc)) (learn_step x t (made_rooted D o st.shapes ts ms t (read_rooted st xs ts g e) n) (st.shapes x) refl)
  equals_step x o xs ps (Some ts) None e f = tt
  equals_step x o xs ps None ms e f = tt

  passes_step : (t : Test) (xs : List Subject) (ps qs : List Passing) (ts : Option (List Term)) (ms ns : Option (List Bool)) → terms_at st.shapes xs ≡ ts → passed_at st.shapes ps ≡ ms → passed_at st.shapes qs ≡ ns → IsStep st (λ A. IsTrue (holds D t (outlines_at A xs) (passed A ps) (passed A qs))) (passes D t ts ms ns st)
  passes_step t xs ps qs (Some ts) (Some ms) (Some ns) e f h = go_step st _ _ g (λ A s.
      let a : outlines_at A xs ≡ map outline ts = read_outlines A xs ∙ ap (map outline) (read_types A st xs ts s e) ∙ outlines_map (leaf_kind A) ts in
      let q : holds D t (outlines_at A xs) (passed A ps) (passed A qs) ≡ holds D t (map outline ts) ms ns =
      ap (λ us. holds D t us (passed A ps) (passed A qs)) a ∙ ap (λ z. holds D t (map outline ts) z (passed A qs)) (read_passed A st ps ms s f) ∙ ap (λ z. holds D t (map outline ts) ms z) (read_passed A st qs ns s h) in
      (λ k. q ∙ k, λ k. sym q ∙ k))
  passes_step t xs ps qs (Some ts) (Some ms) None e f h = tt
  passes_step t xs ps qs (Some ts) None ns e f h = tt
  passes_step t xs ps qs None ms ns e f h = tt

  pub take_step : (f : Fact) → IsStep st (λ A. Meets D A f) (take D f st)
  unfolding take
  take_step (fact.Equals x o xs ps) = equals_step x o xs ps (terms_at st.shapes xs) (passed_at st.shapes ps) refl refl
  take_step (fact.Integer n s) = integer_step n s (st.shapes (subject.Node n)) refl
  take_step (fact.IntegerBehind n s) = behind_step n s (st.shapes (subject.Node n)) refl
  take_step (fact.Passes t xs ps qs) = passes_step t xs ps qs (terms_at st.shapes xs) (passed_at st.shapes ps) (passed_at st.shapes qs) refl refl refl
  take_step fact.Never = λ A s m. m

pub take_all_step : (D : KnownItems) (fs : List Fact) (st : State) → Good st → IsStep st (λ A. MeetsAll D A fs) (take_all D fs st)
take_all_step D [] st g = stay st (λ A. Unit {0}) g (λ A _. tt)
take_all_step D (f ∷ fs) st g = after_step st (λ A. Meets D A f) (λ A. MeetsAll D A fs) (take D f st) (λ s. take_all D fs s) (take_step D st g f) (λ st1 a. take_all_step D fs st1 a.good)

-- where a list of demands fails
pub record FailsAt (D : KnownItems) (st : State) (ds : List Demand) (d : Demand) : Type 0 where
  pub before : List Demand
  pub later : List Demand
  pub state : State
  pub split : ds ≡ before ++ d ∷ later
  pub adds : Adds st state (λ A. MeetsEach D A before)
  pub fails : (A : Assignment) → Stands A state → MeetsAll D A d.facts → ⊥

abbrev pub IsFound : KnownItems → State → List Demand → Found → Type 0
IsFound D st ds (Found_all st') = Adds st st' (λ A. MeetsEach D A ds)
IsFound D st ds (Failed d) = FailsAt D st ds d
IsFound D st ds Lacking = Unit {0}

pub solve_step : (D : KnownItems) (ds : List Demand) (st : State) → Good st → IsFound D st ds (solve D ds st)
solve_step D [] st g = stay st (λ A. Unit {0}) g (λ A _. tt)
solve_step D (d ∷ ds) st g = go (take_all D d.facts st) (take_all_step D d.facts st g) (λ st1 g1. solve_step D ds st1 g1)
  where
    both : (st1 st2 : State) → (M N : Assignment → Type 0) → Adds st st1 M → Adds st1 st2 N → Adds st st2 (λ A. M A × N A)
    both st1 st2 M N a b = after_both st st1 st2 M N a b

    rest : (st1 : State) → Adds st st1 (λ A. MeetsAll D A d.facts) → (r : Found) → IsFound D st1 ds r → IsFound D st (d ∷ ds) r
    rest st1 a (Found_all st2) b = both st1 st2 _ _ a b
    rest st1 a (Failed e) b = record { before = d ∷ b.before; later = b.later; state = b.state; split = ap (λ l. d ∷ l) b.split; adds = both st1 b.state _ _ a b.adds; fails = b.fails }
    rest st1 a Lacking b = tt

    go : (r : Step) → IsStep st (λ A. MeetsAll D A d.facts) r → ((st1 : State) → Good st1 → IsFound D st1 ds (solve D ds st1)) → IsFound D st (d ∷ ds) (next r d (λ s. solve D ds s))
    go (Go st1) a h = rest st1 a (solve D ds st1) (h st1 a.good)
    go No a h = record { before = []; later = ds; state = st; split = refl; adds = stay st (λ A. Unit {0}) g (λ A _. tt); fails = a }
    go Stuck a h = tt
