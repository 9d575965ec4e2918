-- Trees that the relation of trees has as alike are alike as far as initialisation goes, where what is asked besides holds along them.
use Rattle.std.proofs.Common.{◌≡◌, ◌⊎◌, inl, inr, ℕ, Bool, true, false, nat_eq, if◌then◌else◌, List, [], ◌∷◌, Option, Some, None, refl, sym, ◌∙◌, subst, ap, eqb-true}
use Rattle.rx_typed.specs.Tree as tree
use Rattle.rx_typed.specs.Tree.{Exp, Operands, Scrutinee, Arms, Body}
use Rattle.rx_lower_walks.specs.Matching.{Binding}
use Rattle.rx_lower_walks.specs.Actions.{Subject, subject}
use Rattle.rx_lower_walks.specs.Walks.{Among, here, there}
use Rattle.rx_engine_simulation.specs.Turns.{Allowance}
use Rattle.rx_engine_simulation.specs.Histories.{Facts}
use Rattle.rx_engine_simulation.specs.Sights.{Renaming}
use Rattle.rx_engine_simulation.specs.Jumps.{Jumping, in_loop, loop_of}
use Rattle.rx_engine_simulation.specs.Openings.{Openings}
use Rattle.rx_engine_simulation.specs.Like.{LikeExp, opens, reads, borrows, views, shares, builds, builds_structs, builds_variants, units, lazies, assigns, updates, calls, inputs, prints, blocks, chooses, loops, stays, gives, LikeAll, no_operands, operands_and, LikeMatched, at_places, of_values, LikeArms, no_arms, arms_and, LikeBody, opens_in, ends_in, runs_on, declares_all, lets_in, reads_place, looks_behind}
use Rattle.rx_engine_initial.specs.Variables.{Sides, KnownVariables}
use Rattle.rx_engine_initial.specs.Copies.{InsideSo}
use Rattle.rx_engine_initial.specs.Entered.{OneMore}
use Rattle.rx_engine_initial.proofs.Ways.{same_self, other_number}
use Rattle.rx_engine_initial.proofs.Uses.{some_is, none_is}
use Rattle.rx_engine_initial_forms.specs.Binders.{AlikeDeclared, none_declared, declares_one, AlikeBindings, no_binding, binding_and}
use Rattle.rx_engine_initial_forms.specs.Alike.{AlikeExp, AlikeAll, AlikeMatched, AlikeArms, AlikeBody}
use Rattle.rx_engine_initial_forms.specs.Alike as alike
use Rattle.rx_engine_initial_forms.specs.Agreeing.{Agrees, MovesSo, AllLike, BindingsSo}
use Rattle.rx_engine_initial_forms.specs.Following.{AgreesOnLoops, ExpSo, AllSo, MatchedSo, ArmsSo, BodySo}
use Rattle.rx_engine_initial_forms.proofs.Places.{read_copy, borrow_copy, write_copy}
use Rattle.rx_engine_initial_forms.proofs.Begun.{declared_alike, bindings_alike, tests_alike}

module _ (S : Sides) where
  -- ---- loops

  -- behind binders the loops are those in front
  pub declared_loops : {R T : KnownVariables S} {xs ys : List ℕ} → AlikeDeclared S R xs ys T → T.loops ≡ R.loops
  declared_loops none_declared = refl
  declared_loops (declares_one o d) = declared_loops d ∙ o.loops

  pub bound_loops : {X Y : Subject} {R T : KnownVariables S} {bs cs : List Binding} → AlikeBindings S X Y R bs cs T → T.loops ≡ R.loops
  bound_loops no_binding = refl
  bound_loops (binding_and t o d) = bound_loops d ∙ o.loops

  pub same_loops : (J : Jumping) (R T : KnownVariables S) → T.loops ≡ R.loops → AgreesOnLoops S J R → AgreesOnLoops S J T
  same_loops J R T e a = record {
    known = λ l k h. subst (λ ls. Among (k, l) ls) (sym e) (a.known l k h);
    no_others = λ l k i. a.no_others l k (subst (λ ls. Among (k, l) ls) e i);
  }

  module _ (J : Jumping) (R : KnownVariables S) (a : AgreesOnLoops S J R) (l k : ℕ) (new : (n : ℕ) → loop_of J.loops n ≡ Some k → ⊥) (fresh : loop_of J.loops l ≡ None) where
    abbrev pub in_it : KnownVariables S
    in_it = record { variables = R.variables; loops = (k, l) ∷ R.loops; one_there = R.one_there; one_here = R.one_here; apart = R.apart; alike = R.alike }

    pub inside_it : InsideSo S R in_it k l
    inside_it = record {
      variables = refl;
      loops = refl;
      here = λ m j i e. new j (a.no_others j k (subst (λ v. Among (v, j) R.loops) e i));
      there = λ m j i e. none_is (sym fresh ∙ a.no_others l m (subst (λ v. Among (m, v) R.loops) e i));
    }

    pub loops_in_it : AgreesOnLoops S (in_loop J l k) in_it
    loops_in_it = record { known = known; no_others = no_others }
      where
        known : (n m : ℕ) → loop_of ((l, k) ∷ J.loops) n ≡ Some m → Among (m, n) ((k, l) ∷ R.loops)
        known n m h = by (nat_eq n l) refl h
          where
            by : (b : Bool) → nat_eq n l ≡ b → (if b then Some k else loop_of J.loops n) ≡ Some m → Among (m, n) ((k, l) ∷ R.loops)
            by true e q = subst (λ v. Among (v, n) ((k, l) ∷ R.loops)) (some_is q) (subst (λ v. Among (k, v) ((k, l) ∷ R.loops)) (sym (eqb-true n l e)) here)
            by false e q = there (a.known n m q)

        split : (n m : ℕ) → Among (m, n) ((k, l) ∷ R.loops) → ((m ≡ k) × (n ≡ l)) ⊎ Among (m, n) R.loops
        split n m here = inl (refl, refl)
        split n m (there j) = inr j

        no_others : (n m : ℕ) → Among (m, n) ((k, l) ∷ R.loops) → loop_of ((l, k) ∷ J.loops) n ≡ Some m
        no_others n m i = by (split n m i)
          where
            by : ((m ≡ k) × (n ≡ l)) ⊎ Among (m, n) R.loops → (if nat_eq n l then Some k else loop_of J.loops n) ≡ Some m
            by (inl e) = ap (λ b. if b then Some k else loop_of J.loops n) (ap (λ v. nat_eq v l) e.1 ∙ same_self l) ∙ ap (λ v. Some v) (sym e.0)
            by (inr j) = ap (λ b. if b then Some k else loop_of J.loops n) (other_number n l (λ q. none_is (sym fresh ∙ (ap (λ v. loop_of J.loops v) (sym q) ∙ a.no_others n m j)))) ∙ a.no_others n m j

    pub agrees_in_it : (N : Renaming) → Agrees S N R → Agrees S N in_it
    agrees_in_it N g = record { as_they_are = g.as_they_are; behind_them = g.behind_them; seen_through = g.seen_through; no_others = g.no_others; no_other_references = g.no_other_references }

  -- ---- trees

  module _ {items : ℕ → ℕ} {O : Openings} {gain : Allowance} {V : Facts} where
    mutual
      pub exp_alike : {k : ℕ} {J : Jumping} {N : Renaming} {e e' : Exp} (l : LikeExp items O gain V k J N e e') → ExpSo S l → (R : KnownVariables S) → Agrees S N R → AgreesOnLoops S J R → AlikeExp S R e' e
      exp_alike (opens a i h o l) s R g j = s R g j
      exp_alike {N = N} (reads {v = v} {v' = z} l) s R g j = alike.reads (λ d t. read_copy S N R g l v z s d t)
      exp_alike {N = N} (borrows {b = b} l) s R g j = alike.borrows (λ d t. borrow_copy S N R g l b b d t)
      exp_alike (views h) s R g j = s R g j
      exp_alike (shares l) s R g j = alike.shares (exp_alike l s R g j)
      exp_alike (builds f l) s R g j = alike.builds (all_alike l s R g j)
      exp_alike (builds_structs f l) s R g j = alike.builds (all_alike l s R g j)
      exp_alike (builds_variants f l) s R g j = alike.builds (all_alike l s R g j)
      exp_alike units s R g j = alike.units
      exp_alike (lazies i n h a b) s R g j = alike.lazies (exp_alike a s.0 R g j) (exp_alike b s.1 R g j)
      exp_alike {N = N} (assigns p l) s R g j = alike.assigns (λ d t. write_copy S N R g p d t) (exp_alike l s R g j)
      exp_alike {N = N} (updates p q l) s R g j = alike.updates (λ d t. read_copy S N R g p false false s.0 d t) (λ d t. write_copy S N R g q d t) (exp_alike l s.1 R g j)
      exp_alike (calls l) s R g j = alike.calls (all_alike l s R g j)
      exp_alike inputs s R g j = alike.inputs
      exp_alike (prints l) s R g j = alike.prints (exp_alike l s R g j)
      exp_alike (blocks l) s R g j = alike.blocks (body_alike l s R g j)
      exp_alike (chooses i n h c l) s R g j = alike.chooses (matched_alike c s.0 R g j) (arms_alike l s.1 R g j)
      exp_alike {J = J} {N = N} (loops {l = n} {l' = m} f p q l) s R g j = alike.loops (inside_it J R j n m f s.0) (exp_alike l s.1 (in_it J R j n m f s.0) (agrees_in_it J R j n m f s.0 N g) (loops_in_it J R j n m f s.0))
      exp_alike (stays {l = n} {l' = m} {again = b} h) s R g j = alike.jumps b (j.known n m h)
      exp_alike (gives h l) s R g j = alike.gives (exp_alike l s R g j)

      all_alike : {k : ℕ} {J : Jumping} {N : Renaming} {es es' : Operands} (l : LikeAll items O gain V k J N es es') → AllSo S l → (R : KnownVariables S) → Agrees S N R → AgreesOnLoops S J R → AlikeAll S R es' es
      all_alike no_operands s R g j = alike.no_operands
      all_alike (operands_and i n h a l) s R g j = alike.operands_and (exp_alike a s.0 R g j) (all_alike l s.1 R g j)

      matched_alike : {k : ℕ} {J : Jumping} {N : Renaming} {c c' : Scrutinee} (l : LikeMatched items O gain V k J N c c') → MatchedSo S l → (R : KnownVariables S) → Agrees S N R → AgreesOnLoops S J R → AlikeMatched S R c' c
      matched_alike at_places s R g j = alike.at_places
      matched_alike (of_values l) s R g j = alike.of_values (exp_alike l s R g j)

      arms_alike : {k : ℕ} {J : Jumping} {N : Renaming} {c c' : Scrutinee} {l l' : Arms} (a : LikeArms items O gain V k J N c c' l l') → ArmsSo S a → (R : KnownVariables S) → Agrees S N R → AgreesOnLoops S J R
          → AlikeArms S (subject c') (subject c) R l' l
      arms_alike no_arms s R g j = alike.no_arms
      arms_alike {J = J} (arms_and M t b e l) s R g j = let z = bindings_alike S V b s.0 R g in
          alike.arms_and (tests_alike S V t R g) z.1 (exp_alike e s.1 z.0 z.2 (same_loops J R z.0 (bound_loops z.1) j)) (arms_alike l s.2 R g j)

      pub body_alike : {k : ℕ} {J : Jumping} {N : Renaming} {b b' : Body} (l : LikeBody items O gain V k J N b b') → BodySo S l → (R : KnownVariables S) → Agrees S N R → AgreesOnLoops S J R → AlikeBody S R b' b
      body_alike (opens_in a i h o l) s R g j = s R g j
      body_alike (ends_in l) s R g j = alike.ends_in (exp_alike l s R g j)
      body_alike (runs_on i n h a l) s R g j = alike.runs_on (exp_alike a s.0 R g j) (body_alike l s.1 R g j)
      body_alike {J = J} (declares_all M d l) s R g j = let z = declared_alike S V d s.0 R g in alike.declares_all z.1 (body_alike l s.1 z.0 z.2 (same_loops J R z.0 (declared_loops z.1) j))
      body_alike {J = J} (lets_in M i n h c b l) s R g j = let z = bindings_alike S V b s.1 R g in alike.lets_in (matched_alike c s.0 R g j) z.1 (body_alike l s.2 z.0 z.2 (same_loops J R z.0 (bound_loops z.1) j))
      body_alike (reads_place l) s R g j = s R g j
      body_alike (looks_behind x e a l) s R g j = s R g j
