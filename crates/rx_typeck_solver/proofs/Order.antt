-- The solver never lacks a type where the demands are in order, and has a type for what they tell, and for nothing else.
use Rattle.std.proofs.Common.{◌≡◌, ℕ, Bool, true, false, ◌||◌, IsTrue, List, [], ◌∷◌, ◌++◌, map, Option, Some, None, nat_eq, refl, sym, ap, ◌∙◌, subst, ◌⊎◌, inl, inr, ⊎_elim, eqb-true}
use Rattle.rx_core.specs.declared.types.Span.{Span}
use Rattle.rx_typed.specs.Types.{Shapes, integer, boolean, tuple_of, reference, named, no_shape, shape_and, outline, peeled}
use Rattle.rx_typeck_solver.specs.declared.facts.Kinds.{Kinds}
use Rattle.rx_typeck_solver.specs.declared.facts.Subject.{Subject}
use Rattle.rx_typeck_solver.specs.declared.facts.Subject.TheVariants as subject
use Rattle.rx_typeck_solver.specs.declared.facts.Passing.{Passing}
use Rattle.rx_typeck_solver.specs.declared.facts.Op.{Op}
use Rattle.rx_typeck_solver.specs.declared.facts.Fact.{Fact}
use Rattle.rx_typeck_solver.specs.declared.facts.Fact.TheVariants as fact
use Rattle.rx_typeck_solver.specs.declared.facts.Demand.{Demand}
use Rattle.rx_typeck_solver.specs.Facts.{KnownItems, made, gone_through, holds, Meets, MeetsAll}
use Rattle.rx_typeck_solver.specs.Valid.{Tells, TellsAny, Told, Asked}
use Rattle.rx_typeck_solver.specs.Solver.{some_kind, Leaf, Fixed, KindOf, Term, State, upd, same_subject, updated, Root, Step, Go, No, Stuck, so, go_if, unify_leaf, unify, unify_each, learn, integer_in, integer_at, terms_at, passed_at, equal_to, equals, take, take_all, Found, Found_all, Failed, Lacking, next, solve}
use Rattle.rx_typeck_solver.specs.Ordered.{Knowing, more, all_known, all_passed, ready, learns, learns_all, Ready, knows, Ordered}
use Rattle.rx_typeck_solver.proofs.Base.{and_both, same_subject_true, updated_at, updated_other, decide_subject, node_same, Table, Rooted, IsKnown, Good, IsStep}
use Rattle.rx_typeck_solver.proofs.EachFact.{made_rooted, read_rooted, take_step, take_all_step}

abbrev pub Covers : Knowing → Table → Type 0
Covers K tab = (x : Subject) → IsTrue (K x) → IsKnown tab x

-- what a step changes: T is told, F are the nodes that get an open integer type
pub record After (K : Knowing) (T : Subject → Type 0) (F : ℕ → Type 0) (st st' : State) : Type 0 where
  pub covers : Covers K st'.shapes
  pub kept : (x : Subject) → IsKnown st.shapes x → IsKnown st'.shapes x
  pub told : (x : Subject) → T x → IsKnown st'.shapes x
  pub other : (x : Subject) → IsKnown st'.shapes x → IsKnown st.shapes x ⊎ T x
  pub roots : (n : ℕ) → Root st'.shapes n → Root st.shapes n ⊎ F n

abbrev pub AfterStep : Knowing → (Subject → Type 0) → (ℕ → Type 0) → State → Step → Type 0
AfterStep K T F st (Go st') = After K T F st st'
AfterStep K T F st No = Unit {0}
AfterStep K T F st Stuck = ⊥

after_then : (K L : Knowing) (T U : Subject → Type 0) (F G : ℕ → Type 0) (st st1 st2 : State) → After K T F st st1 → After L U G st1 st2 → After L (λ x. T x ⊎ U x) (λ n. F n ⊎ G n) st st2
after_then K L T U F G st st1 st2 a b = record {
  covers = b.covers;
  kept = λ x k. b.kept x (a.kept x k);
  told = λ x t. ⊎_elim (λ h. b.kept x (a.told x h)) (λ h. b.told x h) t;
  other = λ x k. ⊎_elim (λ h. ⊎_elim (λ i. inl i) (λ i. inr (inl i)) (a.other x h)) (λ h. inr (inr h)) (b.other x k);
  roots = λ n r. ⊎_elim (λ h. ⊎_elim (λ i. inl i) (λ i. inr (inl i)) (a.roots n h)) (λ h. inr (inr h)) (b.roots n r);
}

after_as : (K : Knowing) (T : Subject → Type 0) (F G : ℕ → Type 0) (st : State) (r : Step) → ((n : ℕ) → F n → G n) → AfterStep K T F st r → AfterStep K T G st r
after_as K T F G st (Go st') h a = record { covers = a.covers; kept = a.kept; told = a.told; other = a.other; roots = λ n r. ⊎_elim (λ i. inl i) (λ i. inr (h n i)) (a.roots n r) }
after_as K T F G st No h a = tt
after_as K T F G st Stuck h a = a

-- ---- steps that leave the shapes as they are

abbrev Same : State → Step → Type 0
Same st (Go st') = st'.shapes ≡ st.shapes
Same st No = Unit {0}
Same st Stuck = ⊥

if_same : (st st' : State) (b : Bool) → st'.shapes ≡ st.shapes → Same st (go_if b st')
if_same st st' true e = e
if_same st st' false e = tt

so_same : (st : State) (r : Step) (f : State → Step) → Same st r → ((s : State) → Same s (f s)) → Same st (so r f)
so_same st (Go s) f a h = go (f s) (h s)
  where
    go : (r : Step) → Same s r → Same st r
    go (Go t) b = b ∙ a
    go No b = tt
    go Stuck b = b
so_same st No f a h = tt
so_same st Stuck f a h = a

leaf_same : (st : State) (a b : Leaf) → Same st (unify_leaf a b st)
leaf_same st (Fixed k) (Fixed l) = if_same st st _ refl
leaf_same st (Fixed k) (KindOf m) = if_same st _ _ refl
leaf_same st (KindOf n) (Fixed l) = if_same st _ _ refl
leaf_same st (KindOf n) (KindOf m) = if_same st _ _ refl

mutual
  unify_same : (a b : Term) (st : State) → Same st (unify a b st)
  unify_same (integer a) (integer b) st = leaf_same st a b
  unify_same boolean boolean st = refl
  unify_same (tuple_of ts) (tuple_of us) st = each_same ts us st
  unify_same (reference true a) (reference true b) st = unify_same a b st
  unify_same (reference false a) (reference false b) st = unify_same a b st
  unify_same (named i) (named j) st = if_same st st _ refl
  unify_same _ _ st = tt

  each_same : (ts us : Shapes Leaf) (st : State) → Same st (unify_each ts us st)
  each_same no_shape no_shape st = refl
  each_same (shape_and t ts) (shape_and u us) st = so_same st (unify t u st) (λ s. unify_each ts us s) (unify_same t u st) (λ s. each_same ts us s)
  each_same _ _ st = tt

integer_same : (t : Term) (s : Kinds) (st : State) → Same st (integer_in t s st)
integer_same (integer (Fixed k)) s st = if_same st st _ refl
integer_same (integer (KindOf n)) s st = if_same st _ _ refl
integer_same _ s st = tt

-- ---- one fact

either_true : (a b : Bool) → IsTrue (a || b) → IsTrue a ⊎ IsTrue b
either_true true b h = inl refl
either_true false b h = inr h

module _ (D : KnownItems) (st : State) (K : Knowing) (c : Covers K st.shapes) where
  after_same : (L : Knowing) (T : Subject → Type 0) (F : ℕ → Type 0) (r : Step) → Same st r → ((x : Subject) → T x → IsKnown st.shapes x) → ((x : Subject) → IsTrue (L x) → IsTrue (K x) ⊎ T x) → AfterStep L T F st r
  after_same L T F (Go st') e t l = record {
    covers = λ x h. up x (⊎_elim (λ k. c x k) (λ k. t x k) (l x h));
    kept = up;
    told = λ x h. up x (t x h);
    other = λ x k. inl (subst (λ tab. IsKnown tab x) e k);
    roots = λ n r. inl (subst (λ tab. Root tab n) e r);
  }
    where
      up : (x : Subject) → IsKnown st.shapes x → IsKnown st'.shapes x
      up x k = subst (λ tab. IsKnown tab x) (sym e) k
  after_same L T F No e t l = tt
  after_same L T F Stuck e t l = e

  read_some : (xs : List Subject) → IsTrue (all_known K xs) → (ts : List Term) × (terms_at st.shapes xs ≡ Some ts)
  read_some [] h = ([], refl)
  read_some (x ∷ xs) h = let q = (and_both _ _).0 h in let p = c x q.0 in let r = read_some xs q.1 in (p.0 ∷ r.0, rw (p.1, r.1) refl)

  passed_some : (ps : List Passing) → IsTrue (all_passed K ps) → (ms : List Bool) × (passed_at st.shapes ps ≡ Some ms)
  passed_some [] h = ([], refl)
  passed_some (p ∷ ps) h = let q = (and_both _ _).0 h in let a = c (subject.Node p.node) q.0 in let r = passed_some ps q.1 in (gone_through p.all a.0 ++ r.0, rw (a.1, r.1) refl)

  -- a subject that gets this shape
  module _ (x : Subject) (t : Term) (none : st.shapes x ≡ None) where
    up : (y : Subject) → IsKnown st.shapes y → IsKnown (updated x (Some t) st.shapes) y
    up y k = (k.0, updated_other x (Some t) st.shapes y (λ e. let h : st.shapes x ≡ Some k.0 = subst (λ z. st.shapes z ≡ Some k.0) e k.1 in cc) ∙ k.1)

    here : (y : Subject) → y ≡ x → IsKnown (updated x (Some t) st.shapes) y
    here y e = (t, updated_at x (Some t) st.shapes y e)

    put_covers : Covers (more x K) (updated x (Some t) st.shapes)
    put_covers y h = ⊎_elim (λ e. here y (same_subject_true y x e)) (λ k. up y (c y k)) (either_true (same_subject y x) (K y) h)

    put_other : (y : Subject) → IsKnown (updated x (Some t) st.shapes) y → IsKnown st.shapes y ⊎ (y ≡ x)
    put_other y k = ⊎_elim (λ e. inr e) (λ n. inl (k.0, sym (updated_other x (Some t) st.shapes y n) ∙ k.1)) (decide_subject y x)

    put_roots : (n : ℕ) → Root (updated x (Some t) st.shapes) n → Root st.shapes n ⊎ ((subject.Node n ≡ x) × (t ≡ integer (KindOf n)))
    put_roots n r = ⊎_elim (λ e. inr (e, let h : Some t ≡ Some (integer (KindOf n)) = sym (updated_at x (Some t) st.shapes (subject.Node n) e) ∙ r in cc)) (λ k. inl (sym (updated_other x (Some t) st.shapes (subject.Node n) k) ∙ r)) (decide_subject (subject.Node n) x)

  more_told : (x y : Subject) → IsTrue (more x K y) → IsTrue (K y) ⊎ (y ≡ x)
  more_told x y h = ⊎_elim (λ e. inr (same_subject_true y x e)) (λ k. inl k) (either_true (same_subject y x) (K y) h)

  learn_after : (n : ℕ) (x : Subject) (t : Term) (o : Option Term) → Rooted st.shapes t → st.shapes x ≡ o → AfterStep (more x K) (λ y. y ≡ x) (λ m. m ≡ n) st (learn o x t st)
  learn_after n x t None rt e = record {
    covers = put_covers x t e;
    kept = up x t e;
    told = here x t e;
    other = put_other x t e;
    roots = λ m r. ⊎_elim (λ h. inl h) (λ h. inl (subst (λ u. Rooted st.shapes u) h.1 rt)) (put_roots x t e m r);
  }
  learn_after n x t (Some a) rt e = after_same (more x K) (λ y. y ≡ x) (λ m. m ≡ n) (unify a t st) (unify_same a t st) (λ y h. (a, ap st.shapes h ∙ e)) (more_told x)

  equals_after : Good st → (n : ℕ) (x : Subject) (o : Op) (xs : List Subject) (ps : List Passing) (ts : List Term) (ms : List Bool) → terms_at st.shapes xs ≡ Some ts → AfterStep (more x K) (λ y. y ≡ x) (λ m. m ≡ n) st (equals D o x (Some ts) (Some ms) st)
  equals_after g n x o xs ps ts ms e = go (made Fixed D.items o ts ms) refl
    where
      go : (m : Option Term) → made Fixed D.items o ts ms ≡ m → AfterStep (more x K) (λ y. y ≡ x) (λ m. m ≡ n) st (equal_to m x st)
      go None h = tt
      go (Some t) h = learn_after n x t (st.shapes x) (made_rooted D o st.shapes ts ms t (read_rooted st xs ts g e) h) refl

  integer_after : (n m : ℕ) (s : Kinds) (o : Option Term) → st.shapes (subject.Node m) ≡ o → IsTrue (nat_eq m n || K (subject.Node m)) → AfterStep (more (subject.Node m) K) (λ y. y ≡ subject.Node m) (λ k. k ≡ n) st (integer_at o m s st)
  integer_after n m s None e h = go (some_kind s)
    where
      own : m ≡ n
      own = ⊎_elim (λ q. eqb-true m n q) (λ k. let p = c (subject.Node m) k in let q = p.1 in absurd (cc)) (either_true (nat_eq m n) (K (subject.Node m)) h)

      go : (b : Bool) → AfterStep (more (subject.Node m) K) (λ y. y ≡ subject.Node m) (λ k. k ≡ n) st (go_if b (record { shapes = updated (subject.Node m) (Some (integer (KindOf m))) st.shapes; rep = st.rep; set = upd m s st.set }))
      go true = record {
        covers = put_covers (subject.Node m) (integer (KindOf m)) e;
        kept = up (subject.Node m) (integer (KindOf m)) e;
        told = here (subject.Node m) (integer (KindOf m)) e;
        other = put_other (subject.Node m) (integer (KindOf m)) e;
        roots = λ k r. ⊎_elim (λ i. inl i) (λ i. inr (node_same k m i.0 ∙ own)) (put_roots (subject.Node m) (integer (KindOf m)) e k r);
      }
      go false = tt
  integer_after n m s (Some t) e h = after_same (more (subject.Node m) K) (λ y. y ≡ subject.Node m) (λ k. k ≡ n) (integer_in t s st) (integer_same t s st) (λ y h. (t, ap st.shapes h ∙ e)) (more_told (subject.Node m))

  plain_after : (F : ℕ → Type 0) (r : Step) → Same st r → AfterStep K (λ y. ⊥) F st r
  plain_after F r e = after_same K (λ y. ⊥) F r e (λ y h. absurd h) (λ y h. inl h)

  pub fact_after : Good st → (n : ℕ) (f : Fact) → IsTrue (ready n K f) → AfterStep (learns K f) (λ y. Tells f y) (λ m. m ≡ n) st (take D f st)
  unfolding take
  fact_after g n (fact.Equals x o xs ps) h =
      let q = (and_both _ _).0 h in let a = read_some xs q.0 in let b = passed_some ps q.1 in
      rw (a.1, b.1) (equals_after g n x o xs ps a.0 b.0 a.1)
  fact_after g n (fact.Integer m s) h = integer_after n m s (st.shapes (subject.Node m)) refl h
  fact_after g n (fact.IntegerBehind m s) h = let p = c (subject.Node m) h in rw p.1 (plain_after (λ m. m ≡ n) (integer_in (peeled p.0) s st) (integer_same (peeled p.0) s st))
  fact_after g n (fact.Passes t xs ps qs) h =
      let q = (and_both _ _).0 h in let r = (and_both _ _).0 q.0 in let a = read_some xs r.0 in let b = passed_some ps r.1 in let d = passed_some qs q.1 in
      rw (a.1, b.1, d.1) (plain_after (λ m. m ≡ n) (go_if (holds D t (map outline a.0) b.0 d.0) st) (if_same st st _ refl))
  fact_after g n fact.Never h = tt

-- ---- whole lists

after_done : (K : Knowing) (F : ℕ → Type 0) (st : State) → Covers K st.shapes → After K (λ x. ⊥) F st st
after_done K F st c = record { covers = c; kept = λ x k. k; told = λ x h. absurd h; other = λ x k. inl k; roots = λ n r. inl r }

pub facts_after : (D : KnownItems) (n : ℕ) (K : Knowing) (fs : List Fact) (st : State) → Good st → Covers K st.shapes → Ready n K fs → AfterStep (learns_all K fs) (TellsAny fs) (λ m. m ≡ n) st (take_all D fs st)
facts_after D n K [] st g c r = after_done K (λ m. m ≡ n) st c
facts_after D n K (f ∷ fs) st g c r = go (take D f st) (take_step D st g f) (fact_after D st K c g n f r.0) (λ st1 g1 c1. facts_after D n (learns K f) fs st1 g1 c1 r.1)
  where
    then_all : (st1 : State) → After (learns K f) (λ y. Tells f y) (λ m. m ≡ n) st st1 → (r : Step) → AfterStep (learns_all (learns K f) fs) (TellsAny fs) (λ m. m ≡ n) st1 r → AfterStep (learns_all (learns K f) fs) (TellsAny (f ∷ fs)) (λ m. m ≡ n) st r
    then_all st1 a (Go st2) b = after_as (learns_all (learns K f) fs) (TellsAny (f ∷ fs)) (λ m. (m ≡ n) ⊎ (m ≡ n)) (λ m. m ≡ n) st (Go st2) (λ m h. ⊎_elim (λ e. e) (λ e. e) h)
        (after_then (learns K f) (learns_all (learns K f) fs) (λ y. Tells f y) (TellsAny fs) (λ m. m ≡ n) (λ m. m ≡ n) st st1 st2 a b)
    then_all st1 a No b = tt
    then_all st1 a Stuck b = b

    go : (r : Step) → IsStep st (λ A. Meets D A f) r → AfterStep (learns K f) (λ y. Tells f y) (λ m. m ≡ n) st r → ((st1 : State) → Good st1 → Covers (learns K f) st1.shapes → AfterStep (learns_all (learns K f) fs) (TellsAny fs) (λ m. m ≡ n) st1 (take_all D fs st1)) → AfterStep (learns_all (learns K f) fs) (TellsAny (f ∷ fs)) (λ m. m ≡ n) st (so r (λ s. take_all D fs s))
    go (Go st1) a b h = then_all st1 b (take_all D fs st1) (h st1 a.good b.covers)
    go No a b h = tt
    go Stuck a b h = b

-- a demand stands at the node
abbrev pub AskedAt : List Demand → ℕ → Type 0
AskedAt ds n = (s : Span) × Asked ds n s

abbrev pub AfterAll : Knowing → State → List Demand → Found → Type 0
AfterAll K st ds (Found_all st') = After K (Told ds) (AskedAt ds) st st'
AfterAll K st ds (Failed d) = Unit {0}
AfterAll K st ds Lacking = ⊥

pub solve_after : (D : KnownItems) (K : Knowing) (ds : List Demand) (st : State) → Good st → Covers K st.shapes → Ordered K ds → AfterAll (knows K ds) st ds (solve D ds st)
solve_after D K [] st g c r = after_done K (AskedAt []) st c
solve_after D K (d ∷ ds) st g c r = go (take_all D d.facts st) (take_all_step D d.facts st g) (facts_after D d.node K d.facts st g c r.0) (λ st1 g1 c1. solve_after D (learns_all K d.facts) ds st1 g1 c1 r.1)
  where
    here : (m : ℕ) → (m ≡ d.node) ⊎ AskedAt ds m → AskedAt (d ∷ ds) m
    here m (inl e) = (d.span, inl (sym e, refl))
    here m (inr p) = (p.0, inr p.1)

    then_all : (st1 : State) → After (learns_all K d.facts) (TellsAny d.facts) (λ m. m ≡ d.node) st st1 → (r : Found) → AfterAll (knows K (d ∷ ds)) st1 ds r → AfterAll (knows K (d ∷ ds)) st (d ∷ ds) r
    then_all st1 a (Found_all st2) b = after_as (knows K (d ∷ ds)) (Told (d ∷ ds)) (λ m. (m ≡ d.node) ⊎ AskedAt ds m) (AskedAt (d ∷ ds)) st (Go st2) here
        (after_then (learns_all K d.facts) (knows K (d ∷ ds)) (TellsAny d.facts) (Told ds) (λ m. m ≡ d.node) (AskedAt ds) st st1 st2 a b)
    then_all st1 a (Failed e) b = tt
    then_all st1 a Lacking b = b

    go : (r : Step) → IsStep st (λ A. MeetsAll D A d.facts) r → AfterStep (learns_all K d.facts) (TellsAny d.facts) (λ m. m ≡ d.node) st r → ((st1 : State) → Good st1 → Covers (learns_all K d.facts) st1.shapes → AfterAll (knows K (d ∷ ds)) st1 ds (solve D ds st1)) → AfterAll (knows K (d ∷ ds)) st (d ∷ ds) (next r d (λ s. solve D ds s))
    go (Go st1) a b h = then_all st1 b (solve D ds st1) (h st1 a.good b.covers)
    go No a b h = tt
    go Stuck a b h = b
