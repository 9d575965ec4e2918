-- What is found is the valid assignment, or there is none.
use Rattle.std.proofs.Common.{◌≡◌, ℕ, Bool, true, false, ◌||◌, IsTrue, List, [], ◌∷◌, ◌++◌, Option, Some, None, nat_eq, refl, sym, ap, ◌∙◌, subst, ◌↔◌, inl, inr, ⊎_elim, arith, eqb-true, eq-eqb}
use Rattle.rx_core.specs.declared.types.Kind.{Kind}
use Rattle.rx_typed.specs.Types.{Shapes, integer, boolean, tuple_of, reference, named, no_shape, shape_and, shapes_map, peeled, unit_shape}
use Rattle.rx_typeck_solver.specs.declared.facts.Subject.{Subject}
use Rattle.rx_typeck_solver.specs.declared.facts.Subject.TheVariants as subject
use Rattle.rx_typeck_solver.specs.declared.facts.Fact.{Fact}
use Rattle.rx_typeck_solver.specs.declared.facts.Fact.TheVariants as fact
use Rattle.rx_typeck_solver.specs.declared.facts.Demand.{Demand}
use Rattle.rx_typeck_solver.specs.Facts.{Assignment, KnownItems, has, MeetsAll, MeetsEach}
use Rattle.rx_typeck_solver.specs.Valid.{Task, Told, IsIn, Typed, Open, PrefersI32, Valid, MeetsChosen, MeetsOne, Breaks, IsUnclear, Asked}
use Rattle.rx_typeck_solver.specs.Solver.{Leaf, Fixed, KindOf, Term, State, Root, pick, single, answer, empty, filled_or, Found_all, Failed, Lacking, solve, open_fine, term_fine, literal_fine, leaf_is_of, term_is_of, literal_is_of, has_literal, class_fine}
use Rattle.rx_typeck_solver.specs.Ordered.{nothing, knows, asks_integer, AsksInteger, Orderly}
use Rattle.rx_typeck_solver.proofs.Natural.{peeled_map}
use Rattle.rx_typeck_solver.proofs.Base.{kind_of, kind_at, leaf_kind, filled, RootedLeaf, Rooted, RootedEach, rooted_peeled, IsKnown, Good, Stands, Adds}
use Rattle.rx_typeck_solver.proofs.Steps.{one_kind}
use Rattle.rx_typeck_solver.proofs.EachFact.{solve_step, FailsAt, IsFound}
use Rattle.rx_typeck_solver.proofs.Order.{Covers, After, AfterAll, AskedAt, solve_after}
use Rattle.rx_typeck_solver.proofs.Choice.{answer_stands, empty_good, empty_stands, switched, switched_stands, switched_kind, switched_other, kind_root, single_same, double_other}

-- ---- a refusal

meets_first : (D : KnownItems) (A : Assignment) (xs ys : List Demand) → MeetsEach D A (xs ++ ys) → MeetsEach D A xs × MeetsEach D A ys
meets_first D A [] ys h = (tt, h)
meets_first D A (x ∷ xs) ys h = let p = meets_first D A xs ys h.1 in ((h.0, p.0), p.1)

-- a flag for each of these
flags : List Demand → List Bool
flags [] = []
flags (d ∷ ds) = true ∷ flags ds

chosen_is : (D : KnownItems) (task : Task) (A : Assignment) (xs ys : List Demand) → MeetsChosen D task (flags xs) A (xs ++ ys) ↔ MeetsEach D A xs
unfolding flags
chosen_is D task A [] ys = (λ h. tt, λ h. tt)
chosen_is D task A (x ∷ xs) ys = let p = chosen_is D task A xs ys in (λ h. (h.0, p.0 h.1), λ h. (h.0, p.1 h.1))

one_is : (D : KnownItems) (task : Task) (A : Assignment) (d : Demand) (xs ys : List Demand) → MeetsOne D task d.node d.broken A (xs ++ d ∷ ys) → MeetsAll D A d.facts
one_is D task A d [] ys h = h.0 refl refl
one_is D task A d (x ∷ xs) ys h = one_is D task A d xs ys h.1

asked_in : (d : Demand) (xs ys : List Demand) → Asked (xs ++ d ∷ ys) d.node d.span
asked_in d [] ys = inl (refl, refl)
asked_in d (x ∷ xs) ys = inr (asked_in d xs ys)

failing_breaks : (D : KnownItems) (task : Task) (d : Demand) → FailsAt D empty task.demands d → Breaks D task d.node d.broken × Asked task.demands d.node d.span × ((A : Assignment) → Typed D task A → ⊥)
failing_breaks D task d h = (breaks, subst (λ l. Asked l d.node d.span) (sym h.split) (asked_in d h.before h.later), none)
  where
    breaks : Breaks D task d.node d.broken
    breaks = record {
      chosen = flags h.before;
      some = answer h.state;
      met = subst (λ l. MeetsChosen D task (flags h.before) (answer h.state) l) (sym h.split) ((chosen_is D task (answer h.state) h.before (d ∷ h.later)).1 (h.adds.sound (answer h.state) (answer_stands h.state h.adds.good)).1);
      none = λ A m o. h.fails A (h.adds.complete A (empty_stands A) ((chosen_is D task A h.before (d ∷ h.later)).0 (subst (λ l. MeetsChosen D task (flags h.before) A l) h.split m))) (one_is D task A d h.before h.later (subst (λ l. MeetsOne D task d.node d.broken A l) h.split o));
    }

    none : (A : Assignment) → Typed D task A → ⊥
    none A t = let p = meets_first D A h.before (d ∷ h.later) (subst (λ l. MeetsEach D A l) h.split t) in h.fails A (h.adds.complete A (empty_stands A) p.0) p.1.0

pub failed_breaks : (D : KnownItems) (task : Task) (d : Demand) → solve D task.demands empty ≡ Failed d → Breaks D task d.node d.broken × Asked task.demands d.node d.span × ((A : Assignment) → Typed D task A → ⊥)
failed_breaks D task d e = failing_breaks D task d (subst (λ r. IsFound D empty task.demands r) e (solve_step D task.demands empty empty_good))

nothing_covers : Covers nothing empty.shapes
nothing_covers x h = absurd (cc)

pub not_lacking : (D : KnownItems) (task : Task) → Orderly task → solve D task.demands empty ≡ Lacking → ⊥
not_lacking D task o e = subst (λ r. AfterAll (knows nothing task.demands) empty task.demands r) e (solve_after D nothing task.demands empty empty_good nothing_covers o.ordered)

-- ---- literals

asks_fact : (D : KnownItems) (A : Assignment) (n : ℕ) (fs : List Fact) → IsTrue (asks_integer n fs) → MeetsAll D A fs → (k : Kind) × (peeled (A (subject.Node n)) ≡ integer k)
asks_fact D A n [] h m = cc
asks_fact D A n (fact.Integer j s ∷ fs) h m = go (nat_eq j n) refl h (λ i. asks_fact D A n fs i m.1)
  where
    go : (b : Bool) → nat_eq j n ≡ b → IsTrue (b || asks_integer n fs) → (IsTrue (asks_integer n fs) → (k : Kind) × (peeled (A (subject.Node n)) ≡ integer k)) → (k : Kind) × (peeled (A (subject.Node n)) ≡ integer k)
    go true e h r = (m.0.0, ap (λ i. peeled (A (subject.Node i))) (sym (eqb-true j n e)) ∙ ap peeled m.0.1)
    go false e h r = r h
asks_fact D A n (fact.IntegerBehind j s ∷ fs) h m = go (nat_eq j n) refl h (λ i. asks_fact D A n fs i m.1)
  where
    go : (b : Bool) → nat_eq j n ≡ b → IsTrue (b || asks_integer n fs) → (IsTrue (asks_integer n fs) → (k : Kind) × (peeled (A (subject.Node n)) ≡ integer k)) → (k : Kind) × (peeled (A (subject.Node n)) ≡ integer k)
    go true e h r = (m.0.0, ap (λ i. peeled (A (subject.Node i))) (sym (eqb-true j n e)) ∙ m.0.1)
    go false e h r = r h
asks_fact D A n (_ ∷ fs) h m = asks_fact D A n fs h m.1

asks_met : (D : KnownItems) (A : Assignment) (n : ℕ) (ds : List Demand) → AsksInteger ds n → MeetsEach D A ds → (k : Kind) × (peeled (A (subject.Node n)) ≡ integer k)
asks_met D A n [] h m = absurd h
asks_met D A n (d ∷ ds) (inl h) m = asks_fact D A n d.facts h.1 m.0
asks_met D A n (d ∷ ds) (inr h) m = asks_met D A n ds h m.1

pub asks_asked : (n : ℕ) (ds : List Demand) → AsksInteger ds n → AskedAt ds n
asks_asked n [] h = absurd h
asks_asked n (d ∷ ds) (inl h) = (d.span, inl (h.0, refl))
asks_asked n (d ∷ ds) (inr h) = let p = asks_asked n ds h in (p.0, inr p.1)

-- a shape that is an integer type is one
integer_leaf : (A : Assignment) (t : Term) (k : Kind) → filled A t ≡ integer k → (a : Leaf) × (t ≡ integer a)
integer_leaf A (integer a) k e = (a, refl)
integer_leaf A _ k e = cc

either_false : (a b : Bool) → a || b ≡ false → (a ≡ false) × (b ≡ false)
either_false true b h = cc
either_false false b h = (refl, h)

-- ---- the state at the end

module _ (D : KnownItems) (task : Task) (st : State) (o : Orderly task) (end : solve D task.demands empty ≡ Found_all st) where
  adds : Adds empty st (λ A. MeetsEach D A task.demands)
  adds = subst (λ r. IsFound D empty task.demands r) end (solve_step D task.demands empty empty_good)

  after : After (knows nothing task.demands) (Told task.demands) (AskedAt task.demands) empty st
  after = subst (λ r. AfterAll (knows nothing task.demands) empty task.demands r) end (solve_after D nothing task.demands empty empty_good nothing_covers o.ordered)

  pub good : Good st
  good = adds.good

  pub told_known : (x : Subject) → Told task.demands x → IsKnown st.shapes x
  told_known x h = after.told x h

  pub known_told : (x : Subject) → IsKnown st.shapes x → Told task.demands x
  known_told x k = ⊎_elim (λ h. let e = h.1 in absurd (cc)) (λ h. h) (after.other x k)

  pub root_asked : (n : ℕ) → Root st.shapes n → AskedAt task.demands n
  root_asked n r = ⊎_elim (λ e. absurd (cc)) (λ h. h) (after.roots n r)

  to_typed : (A : Assignment) → Stands A st → Typed D task A
  to_typed A s = (adds.sound A s).1

  to_stands : (A : Assignment) → Typed D task A → Stands A st
  to_stands A t = adds.complete A (empty_stands A) t

  s0 : Stands (answer st) st
  s0 = answer_stands st good

  abbrev ls : List ℕ
  ls = task.literals

  -- a literal's shape is known, and an integer type stands behind its references
  abbrev LeafOf : ℕ → Type 0
  LeafOf n = (t : Term) × (a : Leaf) × (st.shapes (subject.Node n) ≡ Some t) × (peeled t ≡ integer a)

  literal_leaf : (n : ℕ) → IsIn n ls → LeafOf n
  literal_leaf n h = go (st.shapes (subject.Node n)) refl
    where
      is : (k : Kind) × (peeled (answer st (subject.Node n)) ≡ integer k)
      is = asks_met D (answer st) n task.demands (o.literals n h) (to_typed (answer st) s0)

      go : (p : Option Term) → st.shapes (subject.Node n) ≡ p → LeafOf n
      go None e = let q : peeled (answer st (subject.Node n)) ≡ unit_shape = ap (λ p. peeled (filled_or (λ c. pick (st.set (st.rep c))) p)) e in let r : unit_shape ≡ integer is.0 = sym q ∙ is.1 in absurd (cc)
      go (Some t) e = let p = integer_leaf (answer st) (peeled t) is.0 (sym (ap peeled (s0.shapes (subject.Node n) t e) ∙ peeled_map (leaf_kind (answer st)) t) ∙ is.1) in (t, p.0, e, p.1)

  leaf_type : (A : Assignment) (n : ℕ) (p : LeafOf n) → Stands A st → peeled (A (subject.Node n)) ≡ integer (leaf_kind A p.1)
  leaf_type A n p s = ap peeled (s.shapes (subject.Node n) p.0 p.2) ∙ peeled_map (leaf_kind A) p.0 ∙ ap (filled A) p.3

  leaf_rooted : (n : ℕ) (p : LeafOf n) → RootedLeaf st.shapes p.1
  leaf_rooted n p = subst (λ t. Rooted st.shapes t) p.3 (rooted_peeled st.shapes p.0 (good.rooted (subject.Node n) p.0 p.2))

  abbrev OpenAs : ℕ → ℕ → Type 0
  OpenAs n u = (t : Term) × (st.shapes (subject.Node n) ≡ Some t) × (peeled t ≡ integer (KindOf u))

  open_type : (A : Assignment) (n u : ℕ) → OpenAs n u → Stands A st → peeled (A (subject.Node n)) ≡ integer (kind_at A u)
  open_type A n u p s = leaf_type A n (p.0, KindOf u, p.1, p.2) s

  open_root : (n u : ℕ) → OpenAs n u → Root st.shapes u
  open_root n u p = leaf_rooted n (p.0, KindOf u, p.1, p.2)

  -- a literal whose class has two integer types is open
  two_kinds : (n u : ℕ) → IsIn n ls → OpenAs n u → single (st.set (st.rep u)) ≡ false → Open D task n
  two_kinds n u h q m =
      let A = answer st in
      let p = double_other (st.set (st.rep u)) (kind_at A u) m in
      let B = switched st A (st.rep u) p.0 in
      let t = switched_stands st A (st.rep u) p.0 good s0 p.1 in
      let ru = open_root n u q in
      record {
        literal = h;
        one = A;
        other = B;
        typed_one = to_typed A s0;
        typed_other = to_typed B t;
        differ = λ e. p.2 (let r : integer (kind_at A u) ≡ integer (kind_at B u) = sym (open_type A n u q s0) ∙ e ∙ open_type B n u q t in ap kind_of r ∙ switched_kind st A (st.rep u) p.0 u ru refl);
      }

  -- an open literal that can't be i32: nothing is valid
  no_i32 : (n u : ℕ) → IsIn n ls → OpenAs n u → single (st.set (st.rep u)) ≡ false → (st.set (st.rep u)).i32 ≡ false → (A : Assignment) → PrefersI32 D task A → ⊥
  no_i32 n u h q m i A p =
      let s = to_stands A p.typed in
      let r : integer (kind_at A u) ≡ integer Kind.I32 = sym (open_type A n u q s) ∙ p.prefers n (two_kinds n u h q m) in
      let w = subst (λ k. IsTrue (has (st.set (st.rep u)) k)) (ap kind_of r) (s.within u (open_root n u q)) in
      absurd (cc)

  fine_pick : (u : ℕ) → IsTrue (open_fine (st.set (st.rep u))) → single (st.set (st.rep u)) ≡ false → pick (st.set (st.rep u)) ≡ Kind.I32
  fine_pick u h n = let p : (st.set (st.rep u)).i32 ≡ true = grind arith in rw p refl

  -- what literal_fine and has_literal say
  fine_open : (n u : ℕ) → OpenAs n u → IsTrue (literal_fine st (st.shapes (subject.Node n))) → IsTrue (open_fine (st.set (st.rep u)))
  fine_open n u p h = let q : literal_fine st (st.shapes (subject.Node n)) ≡ open_fine (st.set (st.rep u)) = ap (literal_fine st) p.1 ∙ ap (term_fine st) p.2 in sym q ∙ h

  of_open : (n u c : ℕ) → OpenAs n u → literal_is_of st c (st.shapes (subject.Node n)) ≡ nat_eq (st.rep u) c
  of_open n u c p = ap (literal_is_of st c) p.1 ∙ ap (term_is_of st c) p.2

  is_of : (n c : ℕ) → literal_is_of st c (st.shapes (subject.Node n)) ≡ true → (u : ℕ) × OpenAs n u × (st.rep u ≡ c)
  is_of n c h = go (st.shapes (subject.Node n)) refl h
    where
      leaf : (t : Term) (a : Leaf) → st.shapes (subject.Node n) ≡ Some t → peeled t ≡ integer a → leaf_is_of st c a ≡ true → (u : ℕ) × OpenAs n u × (st.rep u ≡ c)
      leaf t (Fixed k) e f h = cc
      leaf t (KindOf u) e f h = (u, (t, e, f), eqb-true _ _ h)

      term : (t p : Term) → st.shapes (subject.Node n) ≡ Some t → peeled t ≡ p → term_is_of st c p ≡ true → (u : ℕ) × OpenAs n u × (st.rep u ≡ c)
      term t (integer a) e f h = leaf t a e f h
      term t _ e f h = cc

      go : (p : Option Term) → st.shapes (subject.Node n) ≡ p → literal_is_of st c p ≡ true → (u : ℕ) × OpenAs n u × (st.rep u ≡ c)
      go None e h = cc
      go (Some t) e h = term t (peeled t) e refl h

  found_literal : (ns : List ℕ) (c : ℕ) → IsTrue (has_literal st ns c) → (n : ℕ) × IsIn n ns × (v : ℕ) × OpenAs n v × (st.rep v ≡ c)
  found_literal [] c h = cc
  found_literal (n ∷ ns) c h = go (literal_is_of st c (st.shapes (subject.Node n))) refl h (λ k. found_literal ns c k)
    where
      go : (b : Bool) → literal_is_of st c (st.shapes (subject.Node n)) ≡ b → IsTrue (b || has_literal st ns c) → (IsTrue (has_literal st ns c) → (n : ℕ) × IsIn n ns × (v : ℕ) × OpenAs n v × (st.rep v ≡ c)) → (m : ℕ) × IsIn m (n ∷ ns) × (v : ℕ) × OpenAs m v × (st.rep v ≡ c)
      go true e k r = let p = is_of n c e in (n, inl refl, p.0, p.1, p.2)
      go false e k r = let p = r k in (p.0, inr p.1, p.2, p.3, p.4)

  not_found : (ns : List ℕ) (c n v : ℕ) → has_literal st ns c ≡ false → IsIn n ns → OpenAs n v → st.rep v ≡ c → ⊥
  not_found [] c n v h k p r = k
  not_found (m ∷ ns) c n v h (inl q) p r =
      let e : literal_is_of st c (st.shapes (subject.Node m)) ≡ true = ap (λ i. literal_is_of st c (st.shapes (subject.Node i))) (sym q) ∙ of_open n v c p ∙ eq-eqb _ _ r in
      let f = either_false (literal_is_of st c (st.shapes (subject.Node m))) (has_literal st ns c) h in let d : true ≡ false = sym e ∙ f.0 in cc
  not_found (m ∷ ns) c n v h (inr k) p r = not_found ns c n v (either_false _ _ h).1 k p r

  module _ (lf : (n : ℕ) → IsIn n ls → IsTrue (literal_fine st (st.shapes (subject.Node n)))) where
    -- an open literal has an open class, which can be i32
    open_i32 : (n : ℕ) → Open D task n → (u : ℕ) × OpenAs n u × (single (st.set (st.rep u)) ≡ false) × (pick (st.set (st.rep u)) ≡ Kind.I32)
    open_i32 n w = let p = literal_leaf n w.literal in leaf p.0 p.1 p.2 p.3
      where
        s1 : Stands w.one st
        s1 = to_stands w.one w.typed_one

        s2 : Stands w.other st
        s2 = to_stands w.other w.typed_other

        kind : (u : ℕ) → OpenAs n u → (b : Bool) → single (st.set (st.rep u)) ≡ b → (u : ℕ) × OpenAs n u × (single (st.set (st.rep u)) ≡ false) × (pick (st.set (st.rep u)) ≡ Kind.I32)
        kind u q true m = let ru = open_root n u q in absurd (w.differ (open_type w.one n u q s1 ∙ ap integer (single_same (st.set (st.rep u)) _ _ m (s1.within u ru) (s2.within u ru)) ∙ sym (open_type w.other n u q s2)))
        kind u q false m = (u, q, m, fine_pick u (fine_open n u q (lf n w.literal)) m)

        leaf : (t : Term) (a : Leaf) → st.shapes (subject.Node n) ≡ Some t → peeled t ≡ integer a → (u : ℕ) × OpenAs n u × (single (st.set (st.rep u)) ≡ false) × (pick (st.set (st.rep u)) ≡ Kind.I32)
        leaf t (Fixed k) e f = absurd (w.differ (leaf_type w.one n (t, Fixed k, e, f) s1 ∙ sym (leaf_type w.other n (t, Fixed k, e, f) s2)))
        leaf t (KindOf u) e f = kind u (t, e, f) (single (st.set (st.rep u))) refl

    -- the answer has at each class the integer type that is picked
    answer_kind : (u : ℕ) → Root st.shapes u → kind_at (answer st) u ≡ pick (st.set (st.rep u))
    answer_kind u ru = kind_root st (λ c. pick (st.set c)) u ru

    answer_prefers : PrefersI32 D task (answer st)
    answer_prefers = record {
      typed = to_typed (answer st) s0;
      prefers = λ n w. let p = open_i32 n w in open_type (answer st) n p.0 p.1 s0 ∙ ap integer (answer_kind p.0 (open_root n p.0 p.1) ∙ p.3);
    }

    -- every assignment that prefers i32 is the answer at fine classes
    fine_class : (B : Assignment) → PrefersI32 D task B → (u : ℕ) → Root st.shapes u → IsTrue (class_fine st ls (st.rep u)) → kind_at (answer st) u ≡ kind_at B u
    fine_class B p u ru h = go (single (st.set (st.rep u))) refl h
      where
        sb : Stands B st
        sb = to_stands B p.typed

        go : (b : Bool) → single (st.set (st.rep u)) ≡ b → IsTrue (b || has_literal st ls (st.rep u)) → kind_at (answer st) u ≡ kind_at B u
        go true e h = single_same (st.set (st.rep u)) _ _ e (s0.within u ru) (sb.within u ru)
        go false e h =
            let l = found_literal ls (st.rep u) h in
            let n = l.0 in
            let v = l.2 in
            let m : single (st.set (st.rep v)) ≡ false = ap (λ c. single (st.set c)) l.4 ∙ e in
            let rv = open_root n v l.3 in
            let q : integer (kind_at B v) ≡ integer Kind.I32 = sym (open_type B n v l.3 sb) ∙ p.prefers n (two_kinds n v l.1 l.3 m) in
            let k = fine_pick v (fine_open n v l.3 (lf n l.1)) m in
            answer_kind u ru ∙ ap (λ c. pick (st.set c)) (sym l.4) ∙ k ∙ sym (ap kind_of q) ∙ one_kind B st v u sb rv ru l.4

    abbrev ClassesFine : Type 0
    ClassesFine = (n : ℕ) → Root st.shapes n → IsTrue (class_fine st ls (st.rep n))

    mutual
      fine_shape : ClassesFine → (B : Assignment) → PrefersI32 D task B → (t : Term) → Rooted st.shapes t → filled (answer st) t ≡ filled B t
      fine_shape cf B p (integer (Fixed k)) r = refl
      fine_shape cf B p (integer (KindOf u)) r = ap integer (fine_class B p u r (cf u r))
      fine_shape cf B p boolean r = refl
      fine_shape cf B p (tuple_of ts) r = ap tuple_of (fine_shapes cf B p ts r)
      fine_shape cf B p (reference m t) r = ap (reference m) (fine_shape cf B p t r)
      fine_shape cf B p (named i) r = refl

      fine_shapes : ClassesFine → (B : Assignment) → PrefersI32 D task B → (ts : Shapes Leaf) → RootedEach st.shapes ts → shapes_map (leaf_kind (answer st)) ts ≡ shapes_map (leaf_kind B) ts
      fine_shapes cf B p no_shape r = refl
      fine_shapes cf B p (shape_and t ts) r = ap (λ u. shape_and u (shapes_map (leaf_kind (answer st)) ts)) (fine_shape cf B p t r.0) ∙ ap (shape_and (filled B t)) (fine_shapes cf B p ts r.1)

    pub answer_valid : ((n : ℕ) → Root st.shapes n → IsTrue (class_fine st ls (st.rep n))) → Valid D task (answer st)
    answer_valid cf = record {
      prefers = answer_prefers;
      only_one = λ B p x h. let k = told_known x h in let sb = to_stands B p.typed in s0.shapes x k.0 k.1 ∙ fine_shape cf B p k.0 (good.rooted x k.0 k.1) ∙ sym (sb.shapes x k.0 k.1);
    }

    -- a class with two integer types and no literal: two assignments differ there, and nothing is valid
    pub unclear_class : (u : ℕ) → Root st.shapes u → class_fine st ls (st.rep u) ≡ false → IsUnclear D task u
    unclear_class u ru h = record {
      some = answer st;
      typed = to_typed (answer st) s0;
      not_valid = λ V v. they_differ (sym (v.only_one (answer st) answer_prefers (subject.Node u) told) ∙ v.only_one another another_prefers (subject.Node u) told);
      told = told;
      at = inr (answer st, another, answer_prefers, another_prefers, they_differ);
    }
      where
        two : (single (st.set (st.rep u)) ≡ false) × (has_literal st ls (st.rep u) ≡ false)
        two = either_false (single (st.set (st.rep u))) (has_literal st ls (st.rep u)) h

        other : (l : Kind) × IsTrue (has (st.set (st.rep u)) l) × (kind_at (answer st) u ≡ l → ⊥)
        other = double_other (st.set (st.rep u)) (kind_at (answer st) u) two.0

        another : Assignment
        another = switched st (answer st) (st.rep u) other.0

        s1 : Stands another st
        s1 = switched_stands st (answer st) (st.rep u) other.0 good s0 other.1

        told : Told task.demands (subject.Node u)
        told = known_told (subject.Node u) (integer (KindOf u), ru)

        another_prefers : PrefersI32 D task another
        another_prefers = record {
          typed = to_typed another s1;
          prefers = λ n w. let p = open_i32 n w in let rv = open_root n p.0 p.1 in
              open_type another n p.0 p.1 s1 ∙ ap integer (switched_other st (answer st) (st.rep u) other.0 p.0 s0 rv (λ r. not_found ls (st.rep u) n p.0 two.1 w.literal p.1 r) ∙ answer_kind p.0 rv ∙ p.3);
        }

        they_differ : answer st (subject.Node u) ≡ another (subject.Node u) → ⊥
        they_differ e = other.2 (ap kind_of e ∙ switched_kind st (answer st) (st.rep u) other.0 u ru refl)

  pub unclear_literal : (n : ℕ) → IsIn n ls → literal_fine st (st.shapes (subject.Node n)) ≡ false → IsUnclear D task n
  unclear_literal n h m = let p = literal_leaf n h in go p.0 p.1 p.2 p.3
    where
      go : (t : Term) (a : Leaf) → st.shapes (subject.Node n) ≡ Some t → peeled t ≡ integer a → IsUnclear D task n
      go t (Fixed k) e f = let q : true ≡ false = sym (ap (literal_fine st) e ∙ ap (term_fine st) f) ∙ m in absurd (cc)
      go t (KindOf u) e f =
          let q : open_fine (st.set (st.rep u)) ≡ false = sym (ap (literal_fine st) e ∙ ap (term_fine st) f) ∙ m in
          let p = either_false (single (st.set (st.rep u))) (st.set (st.rep u)).i32 q in
          record {
            some = answer st;
            typed = to_typed (answer st) s0;
            not_valid = λ V v. no_i32 n u h (t, e, f) p.0 p.1 V v.prefers;
            told = known_told (subject.Node n) (t, e);
            at = inl (two_kinds n u h (t, e, f) p.0);
          }
