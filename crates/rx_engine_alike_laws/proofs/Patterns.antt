-- Patterns that are found to test alike and to bind alike do, where what they are matched with stands as the way says.
use Rattle.std.proofs.Common.{ℕ, nat_eq, Bool, true, false, not, ◌&&◌, ◌||◌, List, [], ◌∷◌, ◌++◌, sym, ap, subst, append_assoc, append-nil}
use Rattle.rx_core.specs.declared.types.Step.{Step}
use Rattle.rx_core.specs.declared.types.Step.TheVariants as step
use Rattle.rx_typed.specs.Tree as tree
use Rattle.rx_typed.specs.Tree.{Root, variable, temporary, Temporary, Place, Mode, by_value, by_reference, Pattern, Subpatterns, Scrutinee}
use Rattle.rx_lower_walks.specs.Matching.{PartTest, Binding, has_tag, equals, tag_test, tests, tests_in, bindings, bindings_in}
use Rattle.rx_lower_walks.specs.Actions.{Subject, in_place, in_temporary, part, taking, source}
use Rattle.rx_engine_simulation.specs.Histories.{Facts}
use Rattle.rx_engine_simulation.specs.Sights.{In, Renaming}
use Rattle.rx_engine_simulation.specs.Places.{Use, looking, use_of, LikePlace, LikeSteps, no_steps}
use Rattle.rx_engine_simulation.specs.Binders.{LikeTaken, takes_none, takes_read, takes_borrow, LikeBindings, no_binding, binding_and, AreBehind, LikeTests, no_test, test_and}
use Rattle.rx_engine_alike.specs.Ways.{Way, from_value, then_step, by_dereference, way_of, may}
use Rattle.rx_engine_alike.specs.Variables.{Ways}
use Rattle.rx_engine_alike.specs.Patterns.{like_tests, like_tests_in, like_mode, like_bindings, like_bindings_in, all_borrow, all_borrow_in, looks_behind}
use Rattle.rx_engine_alike_laws.proofs.Promised.{Promised, kept, nothing, Says, says, silent, map_so, then_so, where_so, so, and_so, and_with, equal_so, unequal_so}
use Rattle.rx_engine_alike_laws.proofs.Same.{same_bool_so, same_constant_so}
use Rattle.rx_engine_alike_laws.proofs.Ways.{IsWay, not_known, of_values, step_so, way_so, may_so, Grown, way_grown}
use Rattle.rx_engine_alike_laws.proofs.Variables.{NewlySeen, newly, newly_grown, with_new_so, grown_same, grown_then}

-- ---- what is matched, each with the steps to a part of it

pub data Stands (R : Renaming) (w : Way) : Subject → List Step → Subject → List Step → Type 0 where
  in_places : {p q : Place} {ss ts : List Step} → IsWay R w p.root (p.steps ++ ss) q.root (q.steps ++ ts) → Stands R w (in_place p) ss (in_place q) ts
  in_values : {t u : Temporary} {ss ts : List Step} → IsWay R w (temporary t) ss (temporary u) ts → Stands R w (in_temporary t) ss (in_temporary u) ts

stands_step : {R : Renaming} {w : Way} {S S' : Subject} {ss ts : List Step} (s t : Step) → Stands R w S ss S' ts → Stands R (then_step w s t) S (ss ++ (s ∷ [])) S' (ts ++ (t ∷ []))
stands_step {R} {w} s t (in_places {p = p} {q = q} {ss = ss} {ts = ts} l) = in_places {p = p} {q = q}
    (subst (λ z. IsWay R (then_step w s t) p.root (p.steps ++ (ss ++ (s ∷ []))) q.root z) (append_assoc q.steps ts (t ∷ []))
    (subst (λ z. IsWay R (then_step w s t) p.root z q.root ((q.steps ++ ts) ++ (t ∷ []))) (append_assoc p.steps ss (s ∷ [])) (step_so s t l)))
stands_step s t (in_values l) = in_values (step_so s t l)

stands_grown : {R Ra : Renaming} {w : Way} {S S' : Subject} {ss ts : List Step} → Grown R Ra → Stands R w S ss S' ts → Stands Ra w S ss S' ts
stands_grown g (in_places {p = p} {q = q} l) = in_places {p = p} {q = q} (way_grown g l)
stands_grown g (in_values l) = in_values (way_grown g l)

stands_may : {R : Renaming} {w : Way} {S S' : Subject} {ss ts : List Step} (u : Use) → Stands R w S ss S' ts → Says (LikePlace R u (part S ss) (part S' ts)) (may u w)
stands_may u (in_places l) = may_so u l
stands_may u (in_values l) = may_so u l

-- as a whole
pub StandAlike : Renaming → Way → Subject → Subject → Type 0
StandAlike R w S S' = Stands R w S [] S' []

pub matched_places : (R : Renaming) (p q : Place) → StandAlike R (way_of R p q) (in_place p) (in_place q)
unfolding StandAlike
matched_places R p q = in_places {p = p} {q = q} (subst (λ z. IsWay R (way_of R p q) p.root (p.steps ++ []) q.root z) (sym (append-nil q.steps))
    (subst (λ z. IsWay R (way_of R p q) p.root z q.root q.steps) (sym (append-nil p.steps)) (way_so R p q)))

pub matched_values : (R : Renaming) (t u : Temporary) → StandAlike R from_value (in_temporary t) (in_temporary u)
unfolding StandAlike
matched_values R t u = in_values (of_values no_steps)

-- ---- tests

both_tests : {R : Renaming} {S S' : Subject} {ts ts' us us' : List PartTest} → LikeTests R S S' ts ts' → LikeTests R S S' us us' → LikeTests R S S' (ts ++ us) (ts' ++ us')
both_tests no_test k = k
both_tests (test_and p e l) k = test_and p e (both_tests l k)

tag_so : {R : Renaming} {w : Way} {S S' : Subject} {ss ts : List Step} (n n' : ℕ) (several : Bool) (v u : ℕ) → Stands R w S ss S' ts
    → Says (LikeTests R S S' (tag_test several n ss v) (tag_test several n' ts u)) (not several || (may looking w && nat_eq v u))
tag_so n n' false v u l = says no_test
tag_so n n' true v u l = and_so (stands_may looking l) (equal_so v u) (λ p e. test_and p (ap has_tag e) no_test)

mutual
  tests_so : {R : Renaming} {S S' : Subject} {ss ts : List Step} (w : Way) (p q : Pattern) → Stands R w S ss S' ts → Says (LikeTests R S S' (tests ss p) (tests ts q)) (like_tests w p q)
  tests_so w tree.any tree.any l = says no_test
  tests_so w (tree.bind n x m) (tree.bind n' y m') l = says no_test
  tests_so w (tree.exactly n c) (tree.exactly n' d) l = and_so (stands_may looking l) (same_constant_so c d) (λ p e. test_and p (ap equals e) no_test)
  tests_so w (tree.parts ps) (tree.parts qs) l = tests_in_so w ps qs l
  tests_so {R} {S} {S'} {ss} {ts} w (tree.variant n i several v ps) (tree.variant n' j several' u qs) l = and_with (same_bool_so several several')
      (λ e. subst (λ b. Says (LikeTests R S S' (tag_test several n ss v ++ tests_in (ss ++ (step.Variant v ∷ [])) ps) (tag_test b n' ts u ++ tests_in (ts ++ (step.Variant u ∷ [])) qs))
      ((not several || (may looking w && nat_eq v u)) && like_tests_in (then_step w (step.Variant v) (step.Variant u)) ps qs)) e
      (and_so (tag_so n n' several v u l) (tests_in_so (then_step w (step.Variant v) (step.Variant u)) ps qs (stands_step (step.Variant v) (step.Variant u) l)) (λ a b. both_tests a b)))
  tests_so w (tree.behind m p) (tree.behind k q) l = tests_so (by_dereference w) p q (stands_step (step.Deref m) (step.Deref k) l)
  tests_so w _ _ l = silent

  tests_in_so : {R : Renaming} {S S' : Subject} {ss ts : List Step} (w : Way) (ps qs : Subpatterns) → Stands R w S ss S' ts
      → Says (LikeTests R S S' (tests_in ss ps) (tests_in ts qs)) (like_tests_in w ps qs)
  tests_in_so w tree.no_part tree.no_part l = says no_test
  tests_in_so w (tree.part_and i p ps) (tree.part_and j q qs) l =
      and_so (tests_so (then_step w (step.Field i) (step.Field j)) p q (stands_step (step.Field i) (step.Field j) l)) (tests_in_so w ps qs l) (λ a b. both_tests a b)
  tests_in_so w _ _ l = silent

pub like_tests_so : {R : Renaming} {S S' : Subject} (w : Way) (p q : Pattern) → StandAlike R w S S' → Says (LikeTests R S S' (tests [] p) (tests [] q)) (like_tests w p q)
unfolding StandAlike
like_tests_so w p q l = tests_so w p q l

-- ---- bindings

steps_of_values : {R : Renaming} {w : Way} {t u : Temporary} {ss ts : List Step} → IsWay R w (temporary t) ss (temporary u) ts → Says (LikeSteps ss ts) (may looking w)
steps_of_values not_known = silent
steps_of_values (of_values l) = says l

-- what a part is taken by
pub data TakenAlike (R : Renaming) (S S' : Subject) (ss ts : List Step) (d d' : Temporary) (m m' : Mode) : Type 0 where
  taken_alike : LikeTaken R (taking m S ss d) (taking m' S' ts d') → LikeSteps (source m S ss d).1 (source m' S' ts d').1 → TakenAlike R S S' ss ts d d' m m'

mode_so : {R : Renaming} {w : Way} {S S' : Subject} {ss ts : List Step} (d d' : Temporary) (m m' : Mode) → Stands R w S ss S' ts → Says (TakenAlike R S S' ss ts d d' m m') (like_mode w m m')
mode_so d d' (by_value v) (by_value u) (in_places l) = so (λ p. taken_alike (takes_read p) no_steps) (may_so looking l)
mode_so d d' (by_value v) (by_value u) (in_values l) = so (λ s. taken_alike takes_none s) (steps_of_values l)
mode_so {R} {w} {S} {S'} {ss} {ts} d d' (by_reference k) (by_reference n) l = and_with (same_bool_so k n)
    (λ e. so (λ p. subst (λ z. TakenAlike R S S' ss ts d d' (by_reference k) (by_reference z)) e (taken_alike (takes_borrow p) no_steps)) (stands_may (use_of k) l))
mode_so d d' (by_value v) (by_reference k) l = silent
mode_so d d' (by_reference k) (by_value v) l = silent

module _ (V : Facts) where
  both_bindings : {S S' : Subject} {R Ra Rb : Renaming} {bs bs' cs cs' : List Binding} → LikeBindings V S S' R bs bs' Ra → LikeBindings V S S' Ra cs cs' Rb
      → LikeBindings V S S' R (bs ++ cs) (bs' ++ cs') Rb
  both_bindings no_binding k = k
  both_bindings (binding_and w t s h a b l) k = binding_and w t s h a b (both_bindings l k)

  -- bindings, behind which the renaming has what it had
  pub data Bound (S S' : Subject) (R : Renaming) (bs bs' : List Binding) (Ra : Renaming) : Type 0 where
    bound : LikeBindings V S S' R bs bs' Ra → Grown R Ra → Bound S S' R bs bs' Ra

  bound_one : {S S' : Subject} {R Ra : Renaming} {n n' x y : ℕ} {ss ts : List Step} {m m' : Mode} → TakenAlike R S S' ss ts (tree.temporary_at n 0) (tree.temporary_at n' 0) m m' → NewlySeen V R x y Ra
      → Bound S S' R (record { node = n; variable = x; steps = ss; mode = m } ∷ []) (record { node = n'; variable = y; steps = ts; mode = m' } ∷ []) Ra
  bound_one (taken_alike t s) (newly w h a b) = bound (binding_and w t s h a b no_binding) (newly_grown (newly w h a b))

  bound_both : {S S' : Subject} {R Ra Rb : Renaming} {bs bs' cs cs' : List Binding} → Bound S S' R bs bs' Ra → Bound S S' Ra cs cs' Rb → Bound S S' R (bs ++ cs) (bs' ++ cs') Rb
  bound_both (bound l g) (bound k h) = bound (both_bindings l k) (grown_then g h)

  growth_of : {S S' : Subject} {R Ra : Renaming} {bs bs' : List Binding} → Bound S S' R bs bs' Ra → Grown R Ra
  growth_of (bound l g) = g

  module _ (L : Ways) (too : (x : ℕ) → In x L.elsewhere → V.Special x) where
    mutual
      bindings_so : {S S' : Subject} {ss ts : List Step} (w : Way) (R : Renaming) (p q : Pattern) → Stands R w S ss S' ts
          → Promised (λ Ra. Bound S S' R (bindings ss p) (bindings ts q) Ra) (like_bindings L w R p q)
      bindings_so w R tree.any tree.any l = kept (bound no_binding grown_same)
      bindings_so w R (tree.bind n x m) (tree.bind n' y m') l = where_so (mode_so (tree.temporary_at n 0) (tree.temporary_at n' 0) m m' l)
          (λ t. map_so (λ Ra s. bound_one t s) (with_new_so V L too R x y))
      bindings_so w R (tree.exactly n c) (tree.exactly n' d) l = kept (bound no_binding grown_same)
      bindings_so w R (tree.parts ps) (tree.parts qs) l = bindings_in_so w R ps qs l
      bindings_so w R (tree.variant n i several v ps) (tree.variant n' j several' u qs) l = bindings_in_so (then_step w (step.Variant v) (step.Variant u)) R ps qs
          (stands_step (step.Variant v) (step.Variant u) l)
      bindings_so w R (tree.behind m p) (tree.behind k q) l = bindings_so (by_dereference w) R p q (stands_step (step.Deref m) (step.Deref k) l)
      bindings_so w R _ _ l = nothing

      bindings_in_so : {S S' : Subject} {ss ts : List Step} (w : Way) (R : Renaming) (ps qs : Subpatterns) → Stands R w S ss S' ts
          → Promised (λ Ra. Bound S S' R (bindings_in ss ps) (bindings_in ts qs) Ra) (like_bindings_in L w R ps qs)
      bindings_in_so w R tree.no_part tree.no_part l = kept (bound no_binding grown_same)
      bindings_in_so w R (tree.part_and i p ps) (tree.part_and j q qs) l = then_so (bindings_so (then_step w (step.Field i) (step.Field j)) R p q (stands_step (step.Field i) (step.Field j) l))
          (λ Ra b. map_so (λ Rb c. bound_both b c) (bindings_in_so w Ra ps qs (stands_grown (growth_of b) l)))
      bindings_in_so w R _ _ l = nothing

    pub like_bindings_so : {S S' : Subject} (w : Way) (R : Renaming) (p q : Pattern) → StandAlike R w S S'
        → Promised (λ Ra. LikeBindings V S S' R (bindings [] p) (bindings [] q) Ra) (like_bindings L w R p q)
    unfolding StandAlike
    like_bindings_so w R p q l = map_so (λ Ra b. by b) (bindings_so w R p q l)
      where
        by : {S S' : Subject} {R Ra : Renaming} {bs bs' : List Binding} → Bound S S' R bs bs' Ra → LikeBindings V S S' R bs bs' Ra
        by (bound l g) = l

-- ---- patterns that look behind a reference

both_behind : (y : ℕ) (bs cs : List Binding) → AreBehind y bs → AreBehind y cs → AreBehind y (bs ++ cs)
both_behind y [] cs a c = c
both_behind y (b ∷ bs) cs a c = (a.0, a.1, both_behind y bs cs a.2 c)

mutual
  borrow_so : (y : ℕ) (m : Bool) (ss : List Step) (p : Pattern) → Says (AreBehind y (bindings (step.Deref m ∷ ss) p)) (all_borrow y p)
  borrow_so y m ss (tree.bind n x (by_reference k)) = so (λ u. (tt, u, tt)) (unequal_so x y)
  borrow_so y m ss (tree.bind n x (by_value v)) = silent
  borrow_so y m ss (tree.parts ps) = borrow_in_so y m ss ps
  borrow_so y m ss (tree.variant n i several v ps) = borrow_in_so y m (ss ++ (step.Variant v ∷ [])) ps
  borrow_so y m ss (tree.behind k p) = borrow_so y m (ss ++ (step.Deref k ∷ [])) p
  borrow_so y m ss tree.any = says tt
  borrow_so y m ss (tree.exactly n c) = says tt

  borrow_in_so : (y : ℕ) (m : Bool) (ss : List Step) (ps : Subpatterns) → Says (AreBehind y (bindings_in (step.Deref m ∷ ss) ps)) (all_borrow_in y ps)
  borrow_in_so y m ss tree.no_part = says tt
  borrow_in_so y m ss (tree.part_and i p ps) = and_so (borrow_so y m (ss ++ (step.Field i ∷ [])) p) (borrow_in_so y m ss ps)
      (λ a b. both_behind y (bindings (step.Deref m ∷ (ss ++ (step.Field i ∷ []))) p) (bindings_in (step.Deref m ∷ ss) ps) a b)

pub looks_behind_so : (y : ℕ) (p : Pattern) → Says (AreBehind y (bindings [] p)) (looks_behind y p)
looks_behind_so y tree.any = says tt
looks_behind_so y (tree.behind m p) = borrow_so y m [] p
looks_behind_so y _ = silent
