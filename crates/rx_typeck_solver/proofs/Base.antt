-- Sets of integer types, updates, and the states that are sound.
use Rattle.std.proofs.Common.{◌≡◌, ℕ, Bool, true, false, ◌&&◌, IsTrue, List, [], ◌∷◌, map, Option, Some, nat_eq, refl, sym, ap, ◌∙◌, ◌↔◌, ◌⊎◌, inl, inr, arith, eqb-true, eq-eqb, ne_eqb, cond}
use Rattle.std.proofs.lemmas.Bool.{eqb-false}
use Rattle.rx_core.specs.declared.types.Kind.{Kind}
use Rattle.rx_typed.specs.Types.{Shape, Shapes, integer, boolean, tuple_of, reference, named, no_shape, shape_and, Typ, shape_map, shapes_map, peeled}
use Rattle.rx_typeck_solver.specs.declared.facts.Kinds.{Kinds}
use Rattle.rx_typeck_solver.specs.declared.facts.Subject.{Subject}
use Rattle.rx_typeck_solver.specs.declared.facts.Subject.TheVariants as subject
use Rattle.rx_typeck_solver.specs.Facts.{Assignment, has}
use Rattle.rx_typeck_solver.specs.Solver.{only, meet, some_kind, Leaf, Fixed, KindOf, Term, State, upd, same_subject, updated, Step, Go, No, Stuck, Root}

pub upd_same : {B : Type 0} (i : ℕ) (v : B) (f : ℕ → B) → upd i v f i ≡ v
upd_same i v f = rw (eq-eqb i i refl)

pub upd_other : {B : Type 0} (i : ℕ) (v : B) (f : ℕ → B) (z : ℕ) → (z ≡ i → ⊥) → upd i v f z ≡ f z
upd_other i v f z h = rw (ne_eqb z i h)

pub upd_at : {B : Type 0} (i : ℕ) (v : B) (f : ℕ → B) (z : ℕ) → z ≡ i → upd i v f z ≡ v
upd_at i v f z e = rw (eq-eqb z i e)

pub decide : (z i : ℕ) → (z ≡ i) ⊎ (z ≡ i → ⊥)
decide z i = go (nat_eq z i) refl
  where
    go : (b : Bool) → nat_eq z i ≡ b → (z ≡ i) ⊎ (z ≡ i → ⊥)
    go true e = inl (eqb-true z i e)
    go false e = inr (eqb-false z i e)

pub upd_elim : {B : Type 0} (P : B → Type 0) (i : ℕ) (v : B) (f : ℕ → B) (z : ℕ) → (z ≡ i → P v) → ((z ≡ i → ⊥) → P (f z)) → P (upd i v f z)
upd_elim P i v f z h k = go (nat_eq z i) refl
  where
    go : (b : Bool) → nat_eq z i ≡ b → P (cond b v (f z))
    go true e = h (eqb-true z i e)
    go false e = k (eqb-false z i e)

-- ---- subjects

pub same_subject_true : (x y : Subject) → same_subject x y ≡ true → x ≡ y
same_subject_true (subject.Variable m) (subject.Variable n) h = ap subject.Variable (eqb-true m n h)
same_subject_true (subject.Node m) (subject.Node n) h = ap subject.Node (eqb-true m n h)
same_subject_true (subject.Expected m) (subject.Expected n) h = ap subject.Expected (eqb-true m n h)
same_subject_true _ _ h = cc

pub same_subject_itself : (x : Subject) → same_subject x x ≡ true
same_subject_itself (subject.Variable m) = eq-eqb m m refl
same_subject_itself (subject.Node m) = eq-eqb m m refl
same_subject_itself (subject.Expected m) = eq-eqb m m refl

pub differs : (x y : Subject) → same_subject x y ≡ false → x ≡ y → ⊥
differs x y h e = let p : true ≡ false = sym (same_subject_itself x) ∙ ap (same_subject x) e ∙ h in cc

pub decide_subject : (x y : Subject) → (x ≡ y) ⊎ (x ≡ y → ⊥)
decide_subject x y = go (same_subject x y) refl
  where
    go : (b : Bool) → same_subject x y ≡ b → (x ≡ y) ⊎ (x ≡ y → ⊥)
    go true e = inl (same_subject_true x y e)
    go false e = inr (differs x y e)

pub updated_at : {B : Type 0} (x : Subject) (v : B) (f : Subject → B) (z : Subject) → z ≡ x → updated x v f z ≡ v
updated_at x v f z e = let h : same_subject z x ≡ true = ap (same_subject z) (sym e) ∙ same_subject_itself z in rw h

pub updated_other : {B : Type 0} (x : Subject) (v : B) (f : Subject → B) (z : Subject) → (z ≡ x → ⊥) → updated x v f z ≡ f z
updated_other x v f z n = go (same_subject z x) refl
  where
    go : (b : Bool) → same_subject z x ≡ b → cond b v (f z) ≡ f z
    go true e = absurd (n (same_subject_true z x e))
    go false e = refl

pub node_same : (m n : ℕ) → subject.Node m ≡ subject.Node n → m ≡ n
node_same m n e = cc

-- ---- sets

pub and_both : (a b : Bool) → IsTrue (a && b) ↔ (IsTrue a × IsTrue b)
and_both true b = (λ h. (refl, h), λ h. h.1)
and_both false b = (λ h. cc, λ h. h.0)

pub has_meet : (s t : Kinds) (k : Kind) → IsTrue (has (meet s t) k) ↔ (IsTrue (has s k) × IsTrue (has t k))
has_meet s t Kind.U8 = and_both _ _
has_meet s t _ = and_both _ _

pub has_some : (s : Kinds) (k : Kind) → IsTrue (has s k) → IsTrue (some_kind s)
has_some s Kind.U8 h = grind arith
has_some s _ h = grind arith

pub has_only : (k l : Kind) → IsTrue (has (only k) l) ↔ (k ≡ l)
has_only Kind.U8 Kind.U8 = (λ h. refl, λ h. refl)
has_only Kind.U32 Kind.U32 = (λ h. refl, λ h. refl)
has_only Kind.U64 Kind.U64 = (λ h. refl, λ h. refl)
has_only Kind.I32 Kind.I32 = (λ h. refl, λ h. refl)
has_only Kind.I64 Kind.I64 = (λ h. refl, λ h. refl)
has_only _ _ = (λ h. cc, λ h. cc)

-- ---- shapes

-- the integer type of a type that is one
abbrev pub kind_of : Typ → Kind
kind_of (integer k) = k
kind_of _ = Kind.I32

abbrev pub kind_at : Assignment → ℕ → Kind
kind_at A n = kind_of (A (subject.Node n))

abbrev pub leaf_kind : Assignment → Leaf → Kind
leaf_kind A (Fixed k) = k
leaf_kind A (KindOf n) = kind_at A n

abbrev pub filled : Assignment → Term → Typ
filled A t = shape_map (leaf_kind A) t

abbrev pub Table : Type 0
Table = Subject → Option Term

abbrev pub RootedLeaf : Table → Leaf → Type 0
RootedLeaf tab (Fixed k) = Unit {0}
RootedLeaf tab (KindOf n) = Root tab n

-- all open integer types of a shape are those of roots
abbrev mutual
  pub Rooted : Table → Term → Type 0
  Rooted tab (integer a) = RootedLeaf tab a
  Rooted tab boolean = Unit {0}
  Rooted tab (tuple_of ts) = RootedEach tab ts
  Rooted tab (reference m t) = Rooted tab t
  Rooted tab (named i) = Unit {0}

  pub RootedEach : Table → Shapes Leaf → Type 0
  RootedEach tab no_shape = Unit {0}
  RootedEach tab (shape_and t ts) = Rooted tab t × RootedEach tab ts

abbrev pub AllRooted : Table → List Term → Type 0
AllRooted tab [] = Unit {0}
AllRooted tab (t ∷ ts) = Rooted tab t × AllRooted tab ts

-- a shape is rooted just if it is one over the rooted integer types
abbrev pub RootLeaf : Table → Type 0
RootLeaf tab = (a : Leaf) × RootedLeaf tab a

abbrev pub its_leaf : (tab : Table) → RootLeaf tab → Leaf
its_leaf tab p = p.0

mutual
  rooted_over : {K : Type 0} (f : K → Leaf) (tab : Table) → ((k : K) → RootedLeaf tab (f k)) → (t : Shape K) → Rooted tab (shape_map f t)
  rooted_over f tab r (integer k) = r k
  rooted_over f tab r boolean = tt
  rooted_over f tab r (tuple_of ts) = rooteds_over f tab r ts
  rooted_over f tab r (reference m t) = rooted_over f tab r t
  rooted_over f tab r (named i) = tt

  rooteds_over : {K : Type 0} (f : K → Leaf) (tab : Table) → ((k : K) → RootedLeaf tab (f k)) → (ts : Shapes K) → RootedEach tab (shapes_map f ts)
  rooteds_over f tab r no_shape = tt
  rooteds_over f tab r (shape_and t ts) = (rooted_over f tab r t, rooteds_over f tab r ts)

pub rooted_of : (tab : Table) (t : Shape (RootLeaf tab)) → Rooted tab (shape_map (its_leaf tab) t)
rooted_of tab t = rooted_over (its_leaf tab) tab (λ p. p.1) t

mutual
  pub to_rooted : (tab : Table) (t : Term) → Rooted tab t → (u : Shape (RootLeaf tab)) × (shape_map (its_leaf tab) u ≡ t)
  to_rooted tab (integer a) h = (integer (a, h), refl)
  to_rooted tab boolean h = (boolean, refl)
  to_rooted tab (tuple_of ts) h = let p = to_rooteds tab ts h in (tuple_of p.0, ap tuple_of p.1)
  to_rooted tab (reference m t) h = let p = to_rooted tab t h in (reference m p.0, ap (reference m) p.1)
  to_rooted tab (named i) h = (named i, refl)

  to_rooteds : (tab : Table) (ts : Shapes Leaf) → RootedEach tab ts → (us : Shapes (RootLeaf tab)) × (shapes_map (its_leaf tab) us ≡ ts)
  to_rooteds tab no_shape h = (no_shape, refl)
  to_rooteds tab (shape_and t ts) h = let p = to_rooted tab t h.0 in let q = to_rooteds tab ts h.1 in
      (shape_and p.0 q.0, ap (λ u. shape_and u (shapes_map (its_leaf tab) q.0)) p.1 ∙ ap (shape_and t) q.1)

pub to_all_rooted : (tab : Table) (ts : List Term) → AllRooted tab ts → (us : List (Shape (RootLeaf tab))) × (map (shape_map (its_leaf tab)) us ≡ ts)
to_all_rooted tab [] h = ([], refl)
to_all_rooted tab (t ∷ ts) h = let p = to_rooted tab t h.0 in let q = to_all_rooted tab ts h.1 in
    (p.0 ∷ q.0, ap (λ u. u ∷ map (shape_map (its_leaf tab)) q.0) p.1 ∙ ap (λ us. t ∷ us) q.1)

pub rooted_peeled : (tab : Table) (t : Term) → Rooted tab t → Rooted tab (peeled t)
rooted_peeled tab (reference m t) h = rooted_peeled tab t h
rooted_peeled tab (integer a) h = h
rooted_peeled tab boolean h = h
rooted_peeled tab (tuple_of ts) h = h
rooted_peeled tab (named i) h = h

abbrev pub IsKnown : Table → Subject → Type 0
IsKnown tab x = (t : Term) × (tab x ≡ Some t)

pub record Good (st : State) : Type 0 where
  pub rooted : (x : Subject) (t : Term) → st.shapes x ≡ Some t → Rooted st.shapes t
  pub rep_root : (n : ℕ) → Root st.shapes n → Root st.shapes (st.rep n)
  pub rep_rep : (n : ℕ) → Root st.shapes n → st.rep (st.rep n) ≡ st.rep n
  pub kinds_left : (n : ℕ) → Root st.shapes n → IsTrue (some_kind (st.set (st.rep n)))
  -- a node that isn't open is alone
  pub rep_own : (n : ℕ) → (Root st.shapes n → ⊥) → st.rep n ≡ n

-- the assignments that a state stands for
pub record Stands (A : Assignment) (st : State) : Type 0 where
  pub shapes : (x : Subject) (t : Term) → st.shapes x ≡ Some t → A x ≡ filled A t
  pub within : (n : ℕ) → Root st.shapes n → IsTrue (has (st.set (st.rep n)) (kind_at A n))
  pub alike : (n : ℕ) → Root st.shapes n → kind_at A n ≡ kind_at A (st.rep n)

-- a step adds exactly this to what the state asks
pub record Adds (st st' : State) (M : Assignment → Type 0) : Type 0 where
  pub good : Good st'
  pub keeps : (x : Subject) (t : Term) → st.shapes x ≡ Some t → st'.shapes x ≡ Some t
  pub sound : (A : Assignment) → Stands A st' → Stands A st × M A
  pub complete : (A : Assignment) → Stands A st → M A → Stands A st'

abbrev pub IsStep : State → (Assignment → Type 0) → Step → Type 0
IsStep st M (Go st') = Adds st st' M
IsStep st M No = (A : Assignment) → Stands A st → M A → ⊥
IsStep st M Stuck = Unit {0}
