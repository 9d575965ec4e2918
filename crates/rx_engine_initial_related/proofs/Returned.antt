-- What the new function does where its run returns: it returns the variant without a part; or the value is made a part of the variant, while the text
-- tells by its mark that it returns.
use Rattle.std.proofs.Common.{◌≡◌, ℕ, List, [], ◌∷◌, ◌++◌, refl, sym, subst}
use Rattle.rx_typed.specs.Tree as tree
use Rattle.rx_typed.specs.Tree.{Temporary, Mark, Exp, temporary_at, temporary_of}
use Rattle.rx_lower_walks.specs.Actions.{Build, Give, Action, does, at_mark}
use Rattle.rx_lower_walks.specs.Orders.{Order, order}
use Rattle.rx_lower_walks.specs.Orders as orders
use Rattle.rx_lower_walks.specs.Walks.{Out, on, stopped, IsAway, Among, here, there}
use Rattle.rx_exits_plan.specs.Points.{Point, enters}
use Rattle.rx_exits_plan.specs.Marked.{mark, shown, then_mark}
use Rattle.rx_meaning_keeping.proofs.Parts.{Parted}
use Rattle.rx_engine_simulation.specs.Sights.{Renaming}
use Rattle.rx_engine_simulation.specs.Packing.{Way, Gives}
use Rattle.rx_engine_related.specs.Leaving.{none_there}
use Rattle.rx_engine_initial.specs.Tracing.{View, IsQuiet, only_new}
use Rattle.rx_engine_initial.specs.Matching.{Good, Hist, IsSilentBehind, Matches, is_nothing, is_act, is_then, is_leave, is_only_new_behind, is_only_old, is_gone, both_return}
use Rattle.rx_engine_initial.specs.Variables.{Kept, Sides, KnownVariables, IsSeen, part_set, there_as_a_whole, not_assigned, reference_set, reference_there}
use Rattle.rx_engine_initial.specs.Copies.{easy_build, easy_give, easily, LeavesAll, world}
use Rattle.rx_engine_initial.specs.Handing.{no_action, one_action, in_sequence}
use Rattle.rx_engine_initial.proofs.Handing.{easy_in_order, good_front}
use Rattle.rx_engine_initial.proofs.Straight.{Taken, all_taken, some_taken, straightly}
use Rattle.rx_engine_initial.proofs.PassedOver.{passed_over}
use Rattle.rx_engine_initial.proofs.Planned.{giving_gone}
use Rattle.rx_engine_initial_forms.specs.Agreeing.{Agrees}
use Rattle.rx_engine_initial_related.proofs.NewExits.{given_taken}

nothing_among : {A B : Type 0} (a : A) → Among a [] → B
nothing_among a i = elim i [ ]

module _ (S : Sides) (new : Parted S.frame) (old : Parted S.frame_there) (U : KnownVariables S) where
  -- ---- the new program alone makes something

  built_quiet : {V : View} {vs : List Kept} → IsSeen S vs V → (n : ℕ) (w : tree.Making) (is : List ℕ) (ts : List Temporary) (d : Temporary) → IsQuiet V.new (does n (Build w is ts d))
  built_quiet (part_set x y m k i h l) n w is ts d = record { gives = refl; kills = refl }
  built_quiet (there_as_a_whole x y qs i h) n w is ts d = record { gives = refl; kills = refl }
  built_quiet (not_assigned x y i) n w is ts d = record { gives = refl; kills = refl }
  built_quiet (reference_set x m i h) n w is ts d = record { gives = refl; kills = refl }
  built_quiet (reference_there x i) n w is ts d = record { gives = refl; kills = refl }

  away_stops : {l us : List Action} {o : Out} → IsAway o → Taken l us o → o ≡ stopped
  away_stops e all_taken = elim e [ ]
  away_stops e (some_taken vs q) = refl

  front_good : (us : List Action) {l vs : List Action} {o : Out} → Good (world S) us l → Taken l vs o → Good (world S) us vs
  front_good us g all_taken = g
  front_good us g (some_taken {us = vs} rest q) = good_front S new us vs rest (subst (λ k. Good (world S) us k) (sym q) g)

  all_built : {a : Action} {vs : List Action} → Taken (a ∷ []) vs on → vs ≡ a ∷ []
  all_built all_taken = refl

  built_behind : (n : ℕ) (w : tree.Making) (is : List ℕ) (ts : List Temporary) (d : Temporary) → IsSilentBehind (world S) U (orders.act (does n (Build w is ts d)))
  built_behind n w is ts d = record {
    stays = λ us o h e. away_stops e (straightly one_action us o h);
    good = λ us v vs o h k. front_good us (easy_in_order S new us n easy_build, tt) (straightly one_action vs o k);
    quiet = λ us v vs h k. subst (λ l. Hist (world S) U (us ++ l) v) (sym (all_built (straightly one_action vs on k))) (λ V s. only_new (does n (Build w is ts d)) (h V s) (built_quiet s n w is ts d));
  }

  -- ---- a return

  gives_alike : (m n : Mark) (t u : Temporary) → Matches (world S) U (orders.then (orders.act (at_mark m (Give t))) (orders.leave (orders.returns m.node))) (orders.then (orders.act (at_mark n (Give u))) (orders.leave (orders.returns n.node)))
  gives_alike m n t u = is_then (is_act (easily easy_give (λ x y i. tt))) (is_leave both_return)

  mark_passed : (p : Point) (c : Mark) → Matches (world S) U orders.nothing (orders.then (order (mark p) (temporary_of (mark p))) orders.nothing)
  mark_passed p c = is_only_old (passed_over S new old U (order (mark p) (temporary_of (mark p))) (shown p ∷ []) (in_sequence no_action one_action) (λ b i. of_mark b i)) is_nothing
    where
      of_mark : (b : Action) → Among b (shown p ∷ []) → LeavesAll U.variables b.act
      of_mark _ here = λ x y j. tt
      of_mark b (there i) = nothing_among b i

  pub value_returns : (p : Point) (m n w : Mark) (i v : ℕ) (e f : Exp) → Matches (world S) U (order e (temporary_of e)) (order f (temporary_of f)) → (d t : Temporary)
      → Matches (world S) U (order (tree.give m (tree.build w (tree.variant_of i v) (tree.operand_and 0 e tree.no_operand))) d) (order (tree.give n (then_mark p f)) t)
  value_returns p m n w i v e f h d t =
      is_then (is_only_new_behind (is_then h (mark_passed p w)) (built_behind w.node (tree.variant_of i v) (0 ∷ []) (temporary_of e ∷ []) (temporary_at w.node 0))) (gives_alike m n (temporary_at w.node 0) (temporary_of (then_mark p f)))

  pub unit_returns : (R : Renaming) → Agrees S R U → {w : Way} {v : Exp} → Gives w [] v → (q : Order) (m : Mark) (d : Temporary) → Matches (world S) U (order (tree.give m v) d) q
  unit_returns R g {v = v} gives q m d = let t = given_taken S R U g gives none_there tt (temporary_of v) in
      is_gone (giving_gone S new old U (shown enters) q [] (λ u r x i. nothing_among x i) t.handing (order v (temporary_of v)) t.straight m.node (temporary_of v))
