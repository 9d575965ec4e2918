-- The assignments of a state are the choices of an integer type for each class.
use Rattle.std.proofs.Common.{◌≡◌, ℕ, Bool, true, false, not, IsTrue, refl, sym, ap, ◌∙◌, subst, ◌⊎◌, inl, inr, ⊎_elim, arith}
use Rattle.rx_core.specs.declared.types.Kind.{Kind}
use Rattle.rx_typed.specs.Types.{Shapes, integer, boolean, tuple_of, reference, named, no_shape, shape_and, shapes_map}
use Rattle.rx_typeck_solver.specs.declared.facts.Kinds.{Kinds}
use Rattle.rx_typeck_solver.specs.declared.facts.Subject.TheVariants as subject
use Rattle.rx_typeck_solver.specs.Facts.{Assignment, has}
use Rattle.rx_typeck_solver.specs.Solver.{Leaf, Fixed, KindOf, Term, State, Root, upd, meet, some_kind, pick, others, single, filled_leaf, filled_by, filled_or, chosen, answer, empty}
use Rattle.rx_typeck_solver.proofs.Base.{kind_of, kind_at, leaf_kind, filled, Rooted, RootedEach, Good, Stands, has_meet, has_some, upd_elim, upd_at, upd_other}

pub pick_has : (s : Kinds) → IsTrue (some_kind s) → IsTrue (has s (pick s))
pick_has s h = go s.i32 s.u8 s.u32 s.u64 s.i64 refl refl refl refl refl
  where
    go : (a b c d e : Bool) → s.i32 ≡ a → s.u8 ≡ b → s.u32 ≡ c → s.u64 ≡ d → s.i64 ≡ e → IsTrue (has s (pick s))
    go true b c d e p q r t u = rw p refl
    go false true c d e p q r t u = rw (p, q) refl
    go false false true d e p q r t u = rw (p, q, r) refl
    go false false false true e p q r t u = rw (p, q, r, t) refl
    go false false false false true p q r t u = rw (p, q, r, t, u) refl
    go false false false false false p q r t u = absurd (grind (arith, h))

-- every choice of a kind for each class gives an assignment
pub record Chooses (st : State) (χ : ℕ → Kind) : Type 0 where
  pub within : (u : ℕ) → Root st.shapes u → IsTrue (has (st.set (st.rep u)) (χ (st.rep u)))

at_root : (st : State) (χ : ℕ → Kind) (u : ℕ) → Root st.shapes u → chosen st χ (subject.Node u) ≡ integer (χ (st.rep u))
at_root st χ u e = ap (filled_or (λ n. χ (st.rep n))) e

pub kind_root : (st : State) (χ : ℕ → Kind) (u : ℕ) → Root st.shapes u → kind_at (chosen st χ) u ≡ χ (st.rep u)
kind_root st χ u e = ap kind_of (at_root st χ u e)

mutual
  filled_chosen : (st : State) (χ : ℕ → Kind) (t : Term) → Rooted st.shapes t → filled_by (λ n. χ (st.rep n)) t ≡ filled (chosen st χ) t
  filled_chosen st χ (integer (Fixed k)) r = refl
  filled_chosen st χ (integer (KindOf u)) r = ap integer (sym (kind_root st χ u r))
  filled_chosen st χ boolean r = refl
  filled_chosen st χ (tuple_of ts) r = ap tuple_of (filleds_chosen st χ ts r)
  filled_chosen st χ (reference m t) r = ap (reference m) (filled_chosen st χ t r)
  filled_chosen st χ (named i) r = refl

  filleds_chosen : (st : State) (χ : ℕ → Kind) (ts : Shapes Leaf) → RootedEach st.shapes ts → shapes_map (filled_leaf (λ n. χ (st.rep n))) ts ≡ shapes_map (leaf_kind (chosen st χ)) ts
  filleds_chosen st χ no_shape r = refl
  filleds_chosen st χ (shape_and t ts) r = ap (λ u. shape_and u (shapes_map (filled_leaf (λ n. χ (st.rep n))) ts)) (filled_chosen st χ t r.0) ∙ ap (shape_and (filled (chosen st χ) t)) (filleds_chosen st χ ts r.1)

pub chosen_stands : (st : State) (χ : ℕ → Kind) → Good st → Chooses st χ → Stands (chosen st χ) st
chosen_stands st χ g c = record {
  shapes = λ x t e. ap (filled_or (λ n. χ (st.rep n))) e ∙ filled_chosen st χ t (g.rooted x t e);
  within = λ u ru. subst (λ k. IsTrue (has (st.set (st.rep u)) k)) (sym (kind_root st χ u ru)) (c.within u ru);
  alike = λ u ru. kind_root st χ u ru ∙ ap χ (sym (g.rep_rep u ru)) ∙ sym (kind_root st χ (st.rep u) (g.rep_root u ru));
}

pub answer_stands : (st : State) → Good st → Stands (answer st) st
answer_stands st g = chosen_stands st (λ c. pick (st.set c)) g (record { within = λ u ru. pick_has (st.set (st.rep u)) (g.kinds_left u ru) })

pub empty_good : Good empty
empty_good = record { rooted = λ x t e. absurd (cc); rep_root = λ u e. absurd (cc); rep_rep = λ u e. absurd (cc); kinds_left = λ u e. absurd (cc); rep_own = λ n h. refl }

pub empty_stands : (A : Assignment) → Stands A empty
empty_stands A = record { shapes = λ x t e. absurd (cc); within = λ u e. absurd (cc); alike = λ u e. absurd (cc) }

-- one class is given another kind
abbrev pub switched : (st : State) (A : Assignment) (c : ℕ) (k : Kind) → Assignment
switched st A c k = chosen st (upd c k (λ u. kind_at A u))

pub switched_stands : (st : State) (A : Assignment) (c : ℕ) (k : Kind) → Good st → Stands A st → IsTrue (has (st.set c) k) → Stands (switched st A c k) st
switched_stands st A c k g s h = chosen_stands st (upd c k (λ u. kind_at A u)) g (record {
  within = λ u ru. upd_elim (λ k. IsTrue (has (st.set (st.rep u)) k)) c k (λ u. kind_at A u) (st.rep u)
      (λ e. subst (λ y. IsTrue (has (st.set y) k)) (sym e) h)
      (λ _. subst (λ k. IsTrue (has (st.set (st.rep u)) k)) (s.alike u ru) (s.within u ru));
})

pub switched_kind : (st : State) (A : Assignment) (c : ℕ) (k : Kind) (u : ℕ) → Root st.shapes u → st.rep u ≡ c → kind_at (switched st A c k) u ≡ k
switched_kind st A c k u ru e = kind_root st (upd c k (λ u. kind_at A u)) u ru ∙ upd_at c k (λ u. kind_at A u) (st.rep u) e

-- other classes keep theirs
pub switched_other : (st : State) (A : Assignment) (c : ℕ) (k : Kind) (u : ℕ) → Stands A st → Root st.shapes u → (st.rep u ≡ c → ⊥) → kind_at (switched st A c k) u ≡ kind_at A u
switched_other st A c k u s ru n = kind_root st (upd c k (λ u. kind_at A u)) u ru ∙ upd_other c k (λ u. kind_at A u) (st.rep u) n ∙ sym (s.alike u ru)

others_apart : (k l : Kind) → IsTrue (has (others k) l) → k ≡ l → ⊥
others_apart k l h e = go l (subst (λ k. IsTrue (has (others k) l)) e h)
  where
    go : (l : Kind) → IsTrue (has (others l) l) → ⊥
    go Kind.U8 h = cc
    go _ h = cc

pub same_kind : (k l : Kind) → (k ≡ l) ⊎ IsTrue (has (others k) l)
same_kind Kind.U8 Kind.U8 = inl refl
same_kind Kind.U32 Kind.U32 = inl refl
same_kind Kind.U64 Kind.U64 = inl refl
same_kind Kind.I32 Kind.I32 = inl refl
same_kind Kind.I64 Kind.I64 = inl refl
same_kind _ _ = inr refl

the_one : (s : Kinds) (k : Kind) → IsTrue (single s) → IsTrue (has s k) → pick s ≡ k
the_one s k h a = ⊎_elim (λ e. e) (λ o. let t : IsTrue (some_kind (meet s (others (pick s)))) = has_some (meet s (others (pick s))) k ((has_meet s (others (pick s)) k).1 (a, o)) in absurd (grind arith)) (same_kind (pick s) k)

-- a class with one kind alone
pub single_same : (s : Kinds) (k l : Kind) → IsTrue (single s) → IsTrue (has s k) → IsTrue (has s l) → k ≡ l
single_same s k l h a b = sym (the_one s k h a) ∙ the_one s l h b

not_false : (b : Bool) → not b ≡ false → b ≡ true
not_false true e = refl
not_false false e = cc

-- or with another kind for each
pub double_other : (s : Kinds) (k : Kind) → single s ≡ false → (l : Kind) × IsTrue (has s l) × (k ≡ l → ⊥)
double_other s k h =
    let m = meet s (others (pick s)) in
    let p = (has_meet s (others (pick s)) (pick m)).0 (pick_has m (not_false (some_kind m) h)) in
    ⊎_elim (λ e. (pick s, pick_has s (has_some s (pick m) p.0), λ f. others_apart (pick s) (pick m) p.1 (sym f ∙ e))) (λ o. (pick m, p.0, others_apart k (pick m) o)) (same_kind k (pick m))
