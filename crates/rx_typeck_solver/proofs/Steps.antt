-- Each step of the solver adds exactly what it is asked.
use Rattle.std.proofs.Common.{◌≡◌, ℕ, ◌≤◌, Bool, true, false, IsTrue, Some, None, refl, sym, ap, ◌∙◌, subst, ◌↔◌, ◌⊎◌, inl, inr, ⊎_elim, arith, eqb-true, eq-eqb}
use Rattle.std.specs.Prelude.{min, max}
use Rattle.rx_core.specs.declared.types.Kind.{Kind}
use Rattle.rx_typed.specs.Types.{Shapes, integer, boolean, tuple_of, reference, named, no_shape, shape_and, shapes_map}
use Rattle.rx_typeck_solver.specs.declared.facts.Kinds.{Kinds}
use Rattle.rx_typeck_solver.specs.declared.facts.Subject.{Subject}
use Rattle.rx_typeck_solver.specs.declared.facts.Subject.TheVariants as subject
use Rattle.rx_typeck_solver.specs.Facts.{Assignment, has, AnInteger}
use Rattle.rx_typeck_solver.specs.Solver.{only, meet, some_kind, Leaf, Fixed, KindOf, Term, State, upd, updated, Step, Go, No, Stuck, so, go_if, Root, restrict, join, merge, unify_leaf, unify, unify_each, put, fresh}
use Rattle.rx_typeck_solver.proofs.Base.{upd_same, upd_other, upd_elim, upd_at, decide, updated_at, updated_other, decide_subject, node_same, has_meet, has_some, has_only, kind_of, kind_at, leaf_kind, filled, Table, RootedLeaf, Rooted, RootedEach, Good, Stands, Adds, IsStep}

pub stay : (st : State) (M : Assignment → Type 0) → Good st → ((A : Assignment) → Stands A st → M A) → Adds st st M
stay st M g h = record { good = g; keeps = λ x t e. e; sound = λ A s. (s, h A s); complete = λ A s m. s }

pub another : (st : State) (M N : Assignment → Type 0) (r : Step) → ((A : Assignment) → Stands A st → M A ↔ N A) → IsStep st M r → IsStep st N r
another st M N (Go st') e h = record { good = h.good; keeps = h.keeps; sound = λ A s. let p = h.sound A s in (p.0, (e A p.0).0 p.1); complete = λ A s n. h.complete A s ((e A s).1 n) }
another st M N No e h = λ A s n. h A s ((e A s).1 n)
another st M N Stuck e h = tt

pub recast : (st st' : State) (M N : Assignment → Type 0) → ((A : Assignment) → Stands A st → M A ↔ N A) → Adds st st' M → Adds st st' N
recast st st' M N e h = another st M N (Go st') e h

narrow : (r : ℕ) (s : Kinds) (set : ℕ → Kinds) (z : ℕ) (k : Kind) → IsTrue (has (upd r (meet (set r) s) set z) k) → IsTrue (has (set z) k)
narrow r s set z k h = ⊎_elim (λ e. subst (λ y. IsTrue (has (set y) k)) (sym e) ((has_meet (set r) s k).0 (rw (upd_at r (meet (set r) s) set z e) at h)).0) (λ n. rw (upd_other r (meet (set r) s) set z n) at h) (decide z r)

-- two numbers of one class
pub one_kind : (A : Assignment) (st : State) (z u : ℕ) → Stands A st → Root st.shapes z → Root st.shapes u → st.rep z ≡ st.rep u → kind_at A z ≡ kind_at A u
one_kind A st z u h rz ru e = h.alike z rz ∙ ap (λ y. kind_at A y) e ∙ sym (h.alike u ru)

pub restrict_step : (st : State) (u : ℕ) (s : Kinds) → Good st → Root st.shapes u → IsStep st (λ A. IsTrue (has s (kind_at A u))) (restrict u s st)
restrict_step st u s g ru = go (some_kind both) refl
  where
    r : ℕ
    r = st.rep u

    both : Kinds
    both = meet (st.set r) s

    go : (b : Bool) → some_kind both ≡ b → IsStep st (λ A. IsTrue (has s (kind_at A u))) (go_if b (record st { set = upd r both st.set }))
    go true e = record {
      good = record { rooted = g.rooted; rep_root = g.rep_root; rep_rep = g.rep_rep; rep_own = g.rep_own; kinds_left = λ z rz. upd_elim (λ s. IsTrue (some_kind s)) r both st.set (st.rep z) (λ _. e) (λ _. g.kinds_left z rz) };
      keeps = λ x t e. e;
      sound = λ A h. (record { shapes = h.shapes; within = λ z rz. narrow r s st.set (st.rep z) _ (h.within z rz); alike = h.alike }, ((has_meet (st.set r) s (kind_at A u)).0 (rw (upd_same r both st.set) at (h.within u ru))).1);
      complete = λ A h m. record {
        shapes = h.shapes;
        within = λ z rz. upd_elim (λ s. IsTrue (has s (kind_at A z))) r both st.set (st.rep z) (λ e. (has_meet (st.set r) s (kind_at A z)).1 (subst (λ y. IsTrue (has (st.set y) (kind_at A z))) e (h.within z rz), subst (λ k. IsTrue (has s k)) (sym (one_kind A st z u h rz ru e)) m)) (λ _. h.within z rz);
        alike = h.alike;
      };
    }
    go false e = λ A h m. let t = has_some both (kind_at A u) ((has_meet (st.set r) s (kind_at A u)).1 (h.within u ru, m)) in absurd (cc)

joined_step : (st : State) (u v : ℕ) → Good st → Root st.shapes u → Root st.shapes v → IsStep st (λ A. kind_at A u ≡ kind_at A v) (join (st.rep u) (st.rep v) st)
joined_step st u v g ru rv = go (some_kind both) refl
  where
    r : ℕ
    r = st.rep u

    q : ℕ
    q = st.rep v

    both : Kinds
    both = meet (st.set r) (st.set q)

    to : ℕ → ℕ
    to y = upd q r (λ x. x) y

    new : State
    new = record { shapes = st.shapes; rep = λ z. upd q r (λ x. x) (st.rep z); set = upd r both st.set }

    to_r : to r ≡ r
    to_r = upd_elim (λ x. x ≡ r) q r (λ x. x) r (λ _. refl) (λ _. refl)

    -- the class that is left has kinds
    left : some_kind both ≡ true → (y : ℕ) → IsTrue (some_kind (st.set y)) → IsTrue (some_kind (new.set y))
    left e y h = upd_elim (λ s. IsTrue (some_kind s)) r both st.set y (λ _. e) (λ _. h)

    own : some_kind both ≡ true → Good new
    own e = record {
      rooted = g.rooted;
      rep_root = λ z rz. upd_elim (λ x. Root st.shapes x) q r (λ x. x) (st.rep z) (λ _. g.rep_root u ru) (λ _. g.rep_root z rz);
      rep_rep = λ z rz. upd_elim (λ x. to (st.rep x) ≡ x) q r (λ x. x) (st.rep z) (λ _. ap to (g.rep_rep u ru) ∙ to_r) (λ n. ap to (g.rep_rep z rz) ∙ upd_other q r (λ x. x) (st.rep z) n);
      rep_own = λ z n. ap to (g.rep_own z n) ∙ upd_other q r (λ x. x) z (λ e. n (subst (λ x. Root st.shapes x) (sym e) (g.rep_root v rv)));
      kinds_left = λ z rz. upd_elim (λ x. IsTrue (some_kind (new.set x))) q r (λ x. x) (st.rep z) (λ _. left e r (g.kinds_left u ru)) (λ _. left e (st.rep z) (g.kinds_left z rz));
    }

    in_both : (A : Assignment) → Stands A st → kind_at A u ≡ kind_at A v → IsTrue (has both (kind_at A u))
    in_both A h m = (has_meet (st.set r) (st.set q) (kind_at A u)).1 (h.within u ru, subst (λ k. IsTrue (has (st.set q) k)) (sym m) (h.within v rv))

    full : (A : Assignment) → Stands A st → kind_at A u ≡ kind_at A v → Stands A new
    full A h m = record {
      shapes = h.shapes;
      within = λ z rz. upd_elim (λ x. IsTrue (has (new.set x) (kind_at A z))) q r (λ x. x) (st.rep z)
          (λ e. upd_elim (λ s. IsTrue (has s (kind_at A z))) r both st.set r (λ _. subst (λ k. IsTrue (has both k)) (m ∙ sym (one_kind A st z v h rz rv e)) (in_both A h m)) (λ n. absurd (n refl)))
          (λ _. upd_elim (λ s. IsTrue (has s (kind_at A z))) r both st.set (st.rep z) (λ e. subst (λ k. IsTrue (has both k)) (sym (one_kind A st z u h rz ru e)) (in_both A h m)) (λ _. h.within z rz));
      alike = λ z rz. upd_elim (λ x. kind_at A z ≡ kind_at A x) q r (λ x. x) (st.rep z) (λ e. one_kind A st z v h rz rv e ∙ sym m ∙ h.alike u ru) (λ _. h.alike z rz);
    }

    -- back from the new state
    at_r : (A : Assignment) → Stands A new → (z : ℕ) → Root st.shapes z → st.rep z ≡ q → kind_at A z ≡ kind_at A r
    at_r A h z rz e = h.alike z rz ∙ ap (λ x. kind_at A x) (upd_at q r (λ x. x) (st.rep z) e)

    back : (A : Assignment) → Stands A new → Stands A st
    back A h = record {
      shapes = h.shapes;
      within = λ z rz. ⊎_elim
          (λ e. subst (λ y. IsTrue (has (st.set y) (kind_at A z))) (sym e) ((has_meet (st.set r) (st.set q) (kind_at A z)).0 (rw (upd_same r both st.set) at (subst (λ x. IsTrue (has (new.set x) (kind_at A z))) (upd_at q r (λ x. x) (st.rep z) e) (h.within z rz)))).1)
          (λ n. narrow r (st.set q) st.set (st.rep z) _ (subst (λ x. IsTrue (has (new.set x) (kind_at A z))) (upd_other q r (λ x. x) (st.rep z) n) (h.within z rz)))
          (decide (st.rep z) q);
      alike = λ z rz. ⊎_elim
          (λ e. at_r A h z rz e ∙ sym (at_r A h q (g.rep_root v rv) (g.rep_rep v rv)) ∙ ap (λ x. kind_at A x) (sym e))
          (λ n. h.alike z rz ∙ ap (λ x. kind_at A x) (upd_other q r (λ x. x) (st.rep z) n))
          (decide (st.rep z) q);
    }

    go : (b : Bool) → some_kind both ≡ b → IsStep st (λ A. kind_at A u ≡ kind_at A v) (go_if b new)
    go true e = record {
      good = own e;
      keeps = λ x t e. e;
      sound = λ A h. (back A h, h.alike u ru ∙ ap (λ x. kind_at A x) to_r ∙ sym (at_r A h v rv refl));
      complete = λ A h m. full A h m;
    }
    go false e = λ A h m. let t = has_some both (kind_at A u) (in_both A h m) in absurd (cc)

pub merge_step : (st : State) (u v : ℕ) → Good st → Root st.shapes u → Root st.shapes v → IsStep st (λ A. kind_at A u ≡ kind_at A v) (merge u v st)
merge_step st u v g ru rv = ⊎_elim
    (λ h. let a : min (st.rep u) (st.rep v) ≡ st.rep u = omega (arith, h) in let b : max (st.rep u) (st.rep v) ≡ st.rep v = omega (arith, h) in
    rw (a, b) (joined_step st u v g ru rv))
    (λ h. let a : min (st.rep u) (st.rep v) ≡ st.rep v = omega (arith, h) in let b : max (st.rep u) (st.rep v) ≡ st.rep u = omega (arith, h) in
    rw (a, b) (another st _ _ (join (st.rep v) (st.rep u) st) (λ A s. (λ h. sym h, λ h. sym h)) (joined_step st v u g rv ru)))
    (either_way (st.rep u) (st.rep v))
  where
    either_way : (a b : ℕ) → (a ≤ b) ⊎ (b ≤ a)
    either_way a b = grind arith

-- ---- a table with one more entry

none_other : (tab : Table) (x y : Subject) (t : Term) → tab x ≡ None → tab y ≡ Some t → y ≡ x → ⊥
none_other tab x y t none e eq = let h : tab x ≡ Some t = subst (λ z. tab z ≡ Some t) eq e in cc

some_up : (tab : Table) (x y : Subject) (t s : Term) → tab x ≡ None → tab y ≡ Some s → updated x (Some t) tab y ≡ Some s
some_up tab x y t s none e = updated_other x (Some t) tab y (none_other tab x y s none e) ∙ e

mutual
  rooted_up : (tab : Table) (x : Subject) (v t : Term) → tab x ≡ None → Rooted tab t → Rooted (updated x (Some v) tab) t
  rooted_up tab x v (integer (Fixed k)) none h = tt
  rooted_up tab x v (integer (KindOf n)) none h = some_up tab x (subject.Node n) v (integer (KindOf n)) none h
  rooted_up tab x v boolean none h = tt
  rooted_up tab x v (tuple_of ts) none h = rooteds_up tab x v ts none h
  rooted_up tab x v (reference m t) none h = rooted_up tab x v t none h
  rooted_up tab x v (named i) none h = tt

  rooteds_up : (tab : Table) (x : Subject) (v : Term) (ts : Shapes Leaf) → tab x ≡ None → RootedEach tab ts → RootedEach (updated x (Some v) tab) ts
  rooteds_up tab x v no_shape none h = tt
  rooteds_up tab x v (shape_and t ts) none h = (rooted_up tab x v t none h.0, rooteds_up tab x v ts none h.1)

-- the entry, or an older one
entry : (tab : Table) (x y : Subject) (t s : Term) → updated x (Some t) tab y ≡ Some s → ((y ≡ x) × (t ≡ s)) ⊎ ((y ≡ x → ⊥) × (tab y ≡ Some s))
entry tab x y t s e = ⊎_elim (λ eq. inl (eq, let h : Some t ≡ Some s = sym (updated_at x (Some t) tab y eq) ∙ e in cc)) (λ n. inr (n, sym (updated_other x (Some t) tab y n) ∙ e)) (decide_subject y x)

pub put_step : (st : State) (x : Subject) (t : Term) → Good st → st.shapes x ≡ None → Rooted st.shapes t → Adds st (put x t st) (λ A. A x ≡ filled A t)
put_step st x t g none rt = record {
  good = record {
    rooted = λ y s e. ⊎_elim (λ p. subst (λ u. Rooted (updated x (Some t) st.shapes) u) p.1 (rooted_up st.shapes x t t none rt)) (λ p. rooted_up st.shapes x t s none (g.rooted y s p.1)) (entry st.shapes x y t s e);
    rep_root = λ z rz. some_up st.shapes x (subject.Node (st.rep z)) t _ none (g.rep_root z (down z rz));
    rep_rep = λ z rz. g.rep_rep z (down z rz);
    kinds_left = λ z rz. g.kinds_left z (down z rz);
    rep_own = λ z n. g.rep_own z (λ rz. n (some_up st.shapes x (subject.Node z) t _ none rz));
  };
  keeps = λ y s e. some_up st.shapes x y t s none e;
  sound = λ A h. (
    record {
      shapes = λ y s e. h.shapes y s (some_up st.shapes x y t s none e);
      within = λ z rz. h.within z (some_up st.shapes x (subject.Node z) t _ none rz);
      alike = λ z rz. h.alike z (some_up st.shapes x (subject.Node z) t _ none rz);
    },
    h.shapes x t (updated_at x (Some t) st.shapes x refl),
  );
  complete = λ A h m. record {
    shapes = λ y s e. ⊎_elim (λ p. ap A p.0 ∙ m ∙ ap (filled A) p.1) (λ p. h.shapes y s p.1) (entry st.shapes x y t s e);
    within = λ z rz. h.within z (down z rz);
    alike = λ z rz. h.alike z (down z rz);
  };
}
  where
    down : (z : ℕ) → Root (updated x (Some t) st.shapes) z → Root st.shapes z
    down z rz = ⊎_elim (λ p. absurd (let h : Root st.shapes z = subst (λ u. Rooted st.shapes u) p.1 rt in none_other st.shapes x (subject.Node z) _ none h p.0)) (λ p. p.1) (entry st.shapes x (subject.Node z) t (integer (KindOf z)) rz)

pub fresh_step : (st : State) (i : ℕ) (s : Kinds) → Good st → st.shapes (subject.Node i) ≡ None → IsStep st (λ A. AnInteger s (A (subject.Node i))) (fresh i s st)
fresh_step st i s g none = go (some_kind s) refl
  where
    own_term : Term
    own_term = integer (KindOf i)

    at : Subject
    at = subject.Node i

    new : State
    new = record { shapes = updated at (Some own_term) st.shapes; rep = st.rep; set = upd i s st.set }

    ri : Root new.shapes i
    ri = updated_at at (Some own_term) st.shapes at refl

    not_i : (z : ℕ) → Root st.shapes z → z ≡ i → ⊥
    not_i z rz e = none_other st.shapes at (subject.Node z) _ none rz (ap subject.Node e)

    alone : st.rep i ≡ i
    alone = g.rep_own i (λ r. not_i i r refl)

    class_old : (z : ℕ) → Root st.shapes z → new.set (st.rep z) ≡ st.set (st.rep z)
    class_old z rz = upd_other i s st.set (st.rep z) (not_i (st.rep z) (g.rep_root z rz))

    -- what stands of a root's class
    class_is : (z : ℕ) → Root new.shapes z → ((z ≡ i) × (st.rep z ≡ i) × (new.set (st.rep z) ≡ s)) ⊎ (Root st.shapes z × (new.set (st.rep z) ≡ st.set (st.rep z)))
    class_is z rz = ⊎_elim
        (λ p. let q = node_same z i p.0 in let e : st.rep z ≡ i = ap st.rep q ∙ alone in inl (q, e, upd_at i s st.set (st.rep z) e))
        (λ p. inr (p.1, class_old z p.1))
        (entry st.shapes at (subject.Node z) own_term (integer (KindOf z)) rz)

    up : (z : ℕ) → Root st.shapes z → Root new.shapes z
    up z rz = some_up st.shapes at (subject.Node z) own_term _ none rz

    own : IsTrue (some_kind s) → Good new
    own e = record {
      rooted = λ y t e. ⊎_elim (λ p. subst (λ u. Rooted new.shapes u) p.1 ri) (λ p. rooted_up st.shapes at own_term t none (g.rooted y t p.1)) (entry st.shapes at y own_term t e);
      rep_root = λ z rz. ⊎_elim (λ p. rw p.1 ri) (λ p. up (st.rep z) (g.rep_root z p.0)) (class_is z rz);
      rep_rep = λ z rz. ⊎_elim (λ p. ap st.rep p.1 ∙ alone ∙ sym p.1) (λ p. g.rep_rep z p.0) (class_is z rz);
      kinds_left = λ z rz. ⊎_elim (λ p. subst (λ s. IsTrue (some_kind s)) (sym p.2) e) (λ p. subst (λ s. IsTrue (some_kind s)) (sym p.1) (g.kinds_left z p.0)) (class_is z rz);
      rep_own = λ z n. g.rep_own z (λ r. n (up z r));
    }

    go : (b : Bool) → some_kind s ≡ b → IsStep st (λ A. AnInteger s (A at)) (go_if b new)
    go true e = record {
      good = own e;
      keeps = λ y t e. some_up st.shapes at y own_term t none e;
      sound = λ A h. (
        record {
          shapes = λ y t e. h.shapes y t (some_up st.shapes at y own_term t none e);
          within = λ z rz. subst (λ s. IsTrue (has s (kind_at A z))) (class_old z rz) (h.within z (up z rz));
          alike = λ z rz. h.alike z (up z rz);
        },
        (kind_at A i, h.shapes at own_term ri, subst (λ s. IsTrue (has s (kind_at A i))) (ap new.set alone ∙ upd_same i s st.set) (h.within i ri)),
      );
      complete = λ A h m. record {
        shapes = λ y t e. ⊎_elim (λ p. ap A p.0 ∙ m.1 ∙ ap integer (sym (ap kind_of m.1)) ∙ ap (filled A) p.1) (λ p. h.shapes y t p.1) (entry st.shapes at y own_term t e);
        within = λ z rz. ⊎_elim (λ p. subst (λ s. IsTrue (has s (kind_at A z))) (sym p.2) (subst (λ k. IsTrue (has s k)) (sym (ap (λ x. kind_at A x) p.0 ∙ ap kind_of m.1)) m.2)) (λ p. subst (λ s. IsTrue (has s (kind_at A z))) (sym p.1) (h.within z p.0)) (class_is z rz);
        alike = λ z rz. ⊎_elim (λ p. ap (λ x. kind_at A x) (p.0 ∙ sym p.1)) (λ p. h.alike z p.0) (class_is z rz);
      };
    }
    go false e = λ A h m. let t = has_some s m.0 m.2 in absurd (cc)

-- ---- shapes that are to be equal

pub go_step : (st : State) (b : Bool) (M : Assignment → Type 0) → Good st → ((A : Assignment) → Stands A st → IsTrue b ↔ M A) → IsStep st M (go_if b st)
go_step st true M g e = stay st M g (λ A s. (e A s).0 refl)
go_step st false M g e = λ A s m. let t = (e A s).1 m in absurd (cc)

leaf_step : (st : State) (a b : Leaf) → Good st → RootedLeaf st.shapes a → RootedLeaf st.shapes b → IsStep st (λ A. leaf_kind A a ≡ leaf_kind A b) (unify_leaf a b st)
leaf_step st (Fixed k) (Fixed l) g ra rb = go_step st _ _ g (λ A s. has_only k l)
leaf_step st (Fixed k) (KindOf v) g ra rb = another st _ _ _ (λ A s. has_only k _) (restrict_step st v (only k) g rb)
leaf_step st (KindOf u) (Fixed l) g ra rb = another st _ _ _ (λ A s. (λ h. sym ((has_only l _).0 h), λ h. (has_only l _).1 (sym h))) (restrict_step st u (only l) g ra)
leaf_step st (KindOf u) (KindOf v) g ra rb = merge_step st u v g ra rb

-- one step after another
pub after_both : (st st1 st2 : State) (M N : Assignment → Type 0) → Adds st st1 M → Adds st1 st2 N → Adds st st2 (λ A. M A × N A)
after_both st st1 st2 M N a b = record {
  good = b.good;
  keeps = λ x t e. b.keeps x t (a.keeps x t e);
  sound = λ A s. let p = b.sound A s in let q = a.sound A p.0 in (q.0, (q.1, p.1));
  complete = λ A s m. b.complete A (a.complete A s m.0) m.1;
}

after_one : (st st1 : State) (M N : Assignment → Type 0) (r : Step) → Adds st st1 M → IsStep st1 N r → IsStep st (λ A. M A × N A) r
after_one st st1 M N (Go st2) a b = after_both st st1 st2 M N a b
after_one st st1 M N No a b = λ A s m. b A (a.complete A s m.0) m.1
after_one st st1 M N Stuck a b = tt

pub after_step : (st : State) (M N : Assignment → Type 0) (r : Step) (f : State → Step) → IsStep st M r → ((st1 : State) → Adds st st1 M → IsStep st1 N (f st1)) → IsStep st (λ A. M A × N A) (so r f)
after_step st M N (Go st1) f a h = after_one st st1 M N (f st1) a (h st1 a)
after_step st M N No f a h = λ A s m. a A s m.0
after_step st M N Stuck f a h = tt

-- what was rooted stays so
mutual
  pub rooted_kept : (tab new : Table) (t : Term) → ((x : Subject) (s : Term) → tab x ≡ Some s → new x ≡ Some s) → Rooted tab t → Rooted new t
  rooted_kept tab new (integer (Fixed k)) h r = tt
  rooted_kept tab new (integer (KindOf n)) h r = h _ _ r
  rooted_kept tab new boolean h r = tt
  rooted_kept tab new (tuple_of ts) h r = rooteds_kept tab new ts h r
  rooted_kept tab new (reference m t) h r = rooted_kept tab new t h r
  rooted_kept tab new (named i) h r = tt

  pub rooteds_kept : (tab new : Table) (ts : Shapes Leaf) → ((x : Subject) (s : Term) → tab x ≡ Some s → new x ≡ Some s) → RootedEach tab ts → RootedEach new ts
  rooteds_kept tab new no_shape h r = tt
  rooteds_kept tab new (shape_and t ts) h r = (rooted_kept tab new t h r.0, rooteds_kept tab new ts h r.1)

abbrev filled_each : Assignment → Shapes Leaf → Shapes Kind
filled_each A ts = shapes_map (leaf_kind A) ts

mutual
  pub unify_step : (st : State) (a b : Term) → Good st → Rooted st.shapes a → Rooted st.shapes b → IsStep st (λ A. filled A a ≡ filled A b) (unify a b st)
  unify_step st (integer a) (integer b) g ra rb = another st _ _ _ (λ A s. (λ h. ap integer h, λ h. ap kind_of h)) (leaf_step st a b g ra rb)
  unify_step st boolean boolean g ra rb = stay st _ g (λ A _. refl)
  unify_step st (tuple_of ts) (tuple_of us) g ra rb = another st _ _ _ (λ A s. (λ h. ap tuple_of h, λ h. cc)) (each_step st ts us g ra rb)
  unify_step st (reference true a) (reference true b) g ra rb = another st _ _ _ (λ A s. (λ h. ap (reference true) h, λ h. cc)) (unify_step st a b g ra rb)
  unify_step st (reference false a) (reference false b) g ra rb = another st _ _ _ (λ A s. (λ h. ap (reference false) h, λ h. cc)) (unify_step st a b g ra rb)
  unify_step st (named i) (named j) g ra rb = go_step st _ _ g (λ A s. (λ h. ap named (eqb-true i j h), λ h. let e : i ≡ j = cc in eq-eqb i j e))
  unify_step st _ _ g ra rb = λ A s h. cc

  each_step : (st : State) (ts us : Shapes Leaf) → Good st → RootedEach st.shapes ts → RootedEach st.shapes us → IsStep st (λ A. filled_each A ts ≡ filled_each A us) (unify_each ts us st)
  each_step st no_shape no_shape g ra rb = stay st _ g (λ A _. refl)
  each_step st (shape_and t ts) (shape_and u us) g ra rb = another st (λ A. (filled A t ≡ filled A u) × (filled_each A ts ≡ filled_each A us)) _ _
      (λ A s. (λ h. ap (λ z. shape_and z (filled_each A ts)) h.0 ∙ ap (shape_and (filled A u)) h.1, λ h. (cc, cc)))
      (after_step st (λ A. filled A t ≡ filled A u) (λ A. filled_each A ts ≡ filled_each A us) (unify t u st) (λ s. unify_each ts us s) (unify_step st t u g ra.0 rb.0)
      (λ st1 a. each_step st1 ts us a.good (rooteds_kept st.shapes st1.shapes ts a.keeps ra.1) (rooteds_kept st.shapes st1.shapes us a.keeps rb.1)))
  each_step st _ _ g ra rb = λ A s h. cc
