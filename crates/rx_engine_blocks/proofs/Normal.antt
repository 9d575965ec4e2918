-- The assignment of a state with the kinds of another one, and types that a renumbering gives.
use Rattle.std.proofs.Common.{◌≡◌, ℕ, IsTrue, Some, refl, sym, ap, ◌∙◌, subst}
use Rattle.rx_core.specs.declared.types.Kind.{Kind}
use Rattle.rx_typed.specs.Types.{Shape, Shapes, integer, boolean, tuple_of, reference, named, no_shape, shape_and, Typ, outline, shapes_map}
use Rattle.rx_typeck_solver.specs.declared.facts.Subject.{Subject}
use Rattle.rx_typeck_solver.specs.Facts.{Assignment, KnownItems, has}
use Rattle.rx_typeck_solver.specs.Solver.{Leaf, Fixed, KindOf, Term, State, Root, chosen}
use Rattle.rx_typeck_solver.proofs.Base.{kind_at, leaf_kind, filled, Rooted, RootedEach, Good, Stands}
use Rattle.rx_typeck_solver.proofs.Choice.{chosen_stands, kind_root}
use Rattle.rx_engine_blocks.specs.Renumbering.{Renumbering, shape_at, shapes_at}
use Rattle.rx_engine_blocks.specs.Knows.{Knows}
use Rattle.rx_engine_blocks.proofs.Meets.{outline_at, undo, undone}

-- ---- the assignment of a state with the kinds of another one

module _ (st : State) (g : Good st) (B : Assignment) (s : Stands B st) where
  abbrev pub normal : Assignment
  normal = chosen st (kind_at B)

  pub normal_stands : Stands normal st
  normal_stands = chosen_stands st (kind_at B) g (record { within = λ u ru. subst (λ k. IsTrue (has (st.set (st.rep u)) k)) (s.alike u ru) (s.within u ru) })

  kinds_same : (u : ℕ) → Root st.shapes u → kind_at normal u ≡ kind_at B u
  kinds_same u ru = kind_root st (kind_at B) u ru ∙ sym (s.alike u ru)

  mutual
    filled_same : (t : Term) → Rooted st.shapes t → filled normal t ≡ filled B t
    filled_same (integer (Fixed k)) h = refl
    filled_same (integer (KindOf u)) h = ap integer (kinds_same u h)
    filled_same boolean h = refl
    filled_same (tuple_of ts) h = ap tuple_of (filleds_same ts h)
    filled_same (reference m t) h = ap (reference m) (filled_same t h)
    filled_same (named i) h = refl

    filleds_same : (ts : Shapes Leaf) → RootedEach st.shapes ts → shapes_map (leaf_kind normal) ts ≡ shapes_map (leaf_kind B) ts
    filleds_same no_shape h = refl
    filleds_same (shape_and t ts) h = ap (λ u. shape_and u (shapes_map (leaf_kind normal) ts)) (filled_same t h.0) ∙ ap (shape_and (filled B t)) (filleds_same ts h.1)

  pub normal_same : (x : Subject) (t : Term) → st.shapes x ≡ Some t → normal x ≡ B x
  normal_same x t e = normal_stands.shapes x t e ∙ filled_same t (g.rooted x t e) ∙ sym (s.shapes x t e)

-- ---- types that the renaming gives

module _ (r : Renumbering) (K K' : KnownItems) (k : Knows r K K') where
  abbrev pub redo : {L : Type 0} → Shape L → Shape L
  redo t = shape_at r (shape_at (undo r K K' k) t)

  abbrev redos : {L : Type 0} → Shapes L → Shapes L
  redos ts = shapes_at r (shapes_at (undo r K K' k) ts)

  abbrev outlines : Shapes Kind → Shapes (Unit {0})
  outlines ts = shapes_map (λ k. tt) ts

  mutual
    redone : (t : Typ) → redo (outline t) ≡ outline t → redo t ≡ t
    redone (integer l) e = refl
    redone boolean e = refl
    redone (tuple_of ts) e = ap tuple_of (all_redone ts (cc))
    redone (reference m t) e = ap (reference m) (redone t (cc))
    redone (named i) e = let f : r.items (k.unitem i) ≡ i = cc in ap named f

    all_redone : (ts : Shapes Kind) → redos (outlines ts) ≡ outlines ts → redos ts ≡ ts
    all_redone no_shape e = refl
    all_redone (shape_and t ts) e = let p : redo (outline t) ≡ outline t = cc in let q : redos (outlines ts) ≡ outlines ts = cc in
        ap (λ u. shape_and u (redos ts)) (redone t p) ∙ ap (shape_and t) (all_redone ts q)

  pub redone_from : (t u : Typ) → outline t ≡ outline (shape_at r u) → redo t ≡ t
  redone_from t u e = redone t (ap redo e ∙ ap redo (outline_at r u) ∙ ap (shape_at r) (undone r K K' k (outline u)) ∙ sym (outline_at r u) ∙ sym e)
