-- Actions at places that are alike are copies.
use Rattle.std.proofs.Common.{◌≡◌, ℕ, Bool, true, false, List, [], ◌∷◌, Some, refl, sym, ◌∙◌, subst, ap}
use Rattle.rx_core.specs.declared.types.Step.{Step}
use Rattle.rx_core.specs.declared.types.Step.TheVariants as step
use Rattle.rx_typed.specs.Tree.{variable, Temporary, Place}
use Rattle.rx_lower_walks.specs.Matching.{Check}
use Rattle.rx_lower_walks.specs.Actions.{Act, Read, Write, Borrow, Test}
use Rattle.rx_lower_walks.specs.Walks.{Among}
use Rattle.rx_facts_tables.specs.Wholes.{placed}
use Rattle.rx_engine_simulation.specs.Sights.{How, through, viewed, Sight, sight, Renaming, sight_of}
use Rattle.rx_engine_simulation.specs.Places.{LikeSteps, no_steps, fields, variants, derefs, Use, IsDirect, LikePlace, direct, behind, shared, of_temporary}
use Rattle.rx_engine_initial.specs.Variables.{Kept, as_itself, by_reference, Sides, SameWay, both_end, both_field, both_variant, both_behind, KnownVariables}
use Rattle.rx_engine_initial.specs.Copies.{IsSafe, in_temporary, behind_it, easy_copy, easy_take, easy_borrow, easy_test, easy_write, IsCopy, reads, writes, borrows, tests, easily}
use Rattle.rx_engine_initial.proofs.Uses.{some_is}
use Rattle.rx_engine_initial_forms.specs.Agreeing.{Agrees, MovesSo}

same_way : {ss rs : List Step} → LikeSteps ss rs → SameWay rs ss
same_way no_steps = both_end
same_way (fields s) = both_field (same_way s)
same_way (variants s) = both_variant (same_way s)
same_way (derefs s) = both_behind

module _ (S : Sides) (N : Renaming) (R : KnownVariables S) (g : Agrees S N R) where
  pub read_copy : {u : Use} {p q : Place} (l : LikePlace N u p q) (v z : Bool) → MovesSo l v z → (d t : Temporary) → IsCopy R.variables (Read z q d) (Read v p t)
  read_copy (direct {x = x} {y = y} w e i a s) v z m d t = reads (g.as_they_are x y w e i) (same_way s) m
  read_copy {p = p} (behind {x = x} {y = y} {k = k} {ss' = ss} w n e a s) v z m d t =
      subst (λ b. IsCopy R.variables (Read b (placed y (step.Deref k ∷ ss)) d) (Read v p t)) (sym m) (easily (easy_copy (behind_it (g.behind_them x y w n e))) (λ a b i. tt))
  read_copy {p = p} (shared {x = x} {y = y} {k = k} {ss' = ss} e a s) v z m d t =
      subst (λ b. IsCopy R.variables (Read b (placed y (step.Deref k ∷ ss)) d) (Read v p t)) (sym m) (easily (easy_copy (behind_it (g.seen_through x y e))) (λ a b i. tt))
  read_copy (of_temporary s) v z m d t = easily easy_take (λ a b i. tt)

  pub borrow_copy : {u : Use} {p q : Place} → LikePlace N u p q → (v z : Bool) (d t : Temporary) → IsCopy R.variables (Borrow z q d) (Borrow v p t)
  borrow_copy (direct {x = x} {y = y} w e i a s) v z d t = borrows (g.as_they_are x y w e i) (same_way s)
  borrow_copy (behind {x = x} {y = y} w n e a s) v z d t = easily (easy_borrow (behind_it (g.behind_them x y w n e))) (λ a b i. tt)
  borrow_copy (shared {x = x} {y = y} e a s) v z d t = easily (easy_borrow (behind_it (g.seen_through x y e))) (λ a b i. tt)
  borrow_copy (of_temporary s) v z d t = easily (easy_borrow in_temporary) (λ a b i. tt)

  pub test_copy : {u : Use} {p q : Place} → LikePlace N u p q → (c e : Check) → IsCopy R.variables (Test q c) (Test p e)
  test_copy (direct {x = x} {y = y} w e i a s) c f = tests (g.as_they_are x y w e i) (same_way s)
  test_copy (behind {x = x} {y = y} w n e a s) c f = easily (easy_test (behind_it (g.behind_them x y w n e))) (λ a b i. tt)
  test_copy (shared {x = x} {y = y} e a s) c f = easily (easy_test (behind_it (g.seen_through x y e))) (λ a b i. tt)
  test_copy (of_temporary s) c f = easily (easy_test in_temporary) (λ a b i. tt)

  -- a variable that is behind a reference is none that is as itself
  not_itself : (x y : ℕ) (w : How) → sight_of N x ≡ Some (sight y w) → (IsDirect w → ⊥) → (a b : ℕ) → Among (as_itself a b) R.variables → x ≡ b → ⊥
  not_itself x y w e n a b i q = let z = g.no_others b a i in
      n (subst (λ h. IsDirect h) (ap (λ (s : Sight). s.how) (some_is (sym z.1 ∙ (ap (λ v. sight_of N v) (sym q) ∙ e)))) z.2)

  pub write_copy : {u : Use} {p q : Place} → LikePlace N u p q → (d t : Temporary) → IsCopy R.variables (Write q d []) (Write p t [])
  write_copy (direct {x = x} {y = y} w e i a s) d t = writes (g.as_they_are x y w e i) (same_way s)
  write_copy (behind {x = x} {y = y} w n e a s) d t = easily (easy_write (behind_it (g.behind_them x y w n e))) (λ a b i. not_itself x y (through w n) e (λ h. h) a b i)
  write_copy (shared {x = x} {y = y} e a s) d t = easily (easy_write (behind_it (g.seen_through x y e))) (λ a b i. not_itself x y viewed e (λ h. h) a b i)
  write_copy (of_temporary s) d t = easily (easy_write in_temporary) (λ a b i. tt)
