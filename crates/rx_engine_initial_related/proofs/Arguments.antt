-- What the call is given: each param's variable is taken once, and what is copied or lent is left as it is.
use Rattle.std.proofs.Common.{◌≡◌, ◌⊎◌, inl, inr, ◌==◌, eqb-true, true≢false, ℕ, Bool, true, false, List, [], ◌∷◌, Some, None, refl, sym, ◌∙◌, subst, ap}
use Rattle.rx_core.specs.declared.types.Step.TheVariants as step
use Rattle.rx_typed.specs.Tree.{Temporary, Parameter, Exp, Operands, no_operand, operand_and, own, temporary_at, temporary_of}
use Rattle.rx_lower_walks.specs.Actions.{Act, Read, Borrow, Action, at_mark}
use Rattle.rx_lower_walks.specs.Orders.{order, order_all}
use Rattle.rx_lower_walks.specs.Walks.{Among, here, there}
use Rattle.rx_facts_tables.specs.Wholes.{placed, assigns, begins}
use Rattle.rx_exits_plan.specs.Asked.{Asked}
use Rattle.rx_exits_plan.specs.Plan.{Plan}
use Rattle.rx_modes_policy.specs.declared.uses.Mode.{Mode}
use Rattle.rx_engine_simulation.specs.Sights.{Hold, shut, plain, special, through, copied, viewed, Sight, sight, Renaming, sight_of}
use Rattle.rx_engine_related.specs.Given.{GivenTo, given_all, moves_in, moves_again, is_copied, is_shared, is_lent, is_reborrowed, is_viewed}
use Rattle.rx_engine_initial.specs.Variables.{as_itself, Sides, KnownVariables}
use Rattle.rx_engine_initial.specs.Fates.{LeavesBe, AllLeave}
use Rattle.rx_engine_initial.specs.Handing.{Takes, by_read, by_borrow, by_reborrow, Handing, none_taken, takes_one, Straight, no_action, one_action, in_sequence}
use Rattle.rx_engine_initial.proofs.Uses.{some_is, none_is}
use Rattle.rx_engine_initial.proofs.Ways.{same_self}
use Rattle.rx_engine_initial_forms.specs.Agreeing.{Agrees}
use Rattle.rx_engine_initial_related.specs.CallerAsked.{NeededNoMore, GivenSo}
use Rattle.rx_engine_initial_related.proofs.Scope.{AllSlots, first, earlier, seen, scope_injective}

-- what neither assigns nor begins any variable
abbrev pub AllQuiet : List Action → Type 0
AllQuiet us = (a : Action) → Among a us → (z : ℕ) → (assigns z a.act ≡ false) × (begins z a.act ≡ false)

none_quiet : AllQuiet []
none_quiet a i = elim i [ ]

none_leave : (y : ℕ) → AllLeave [] y
none_leave y a i = elim i [ ]

pub one_more_leaves : (a : Action) (us : List Action) (y : ℕ) → LeavesBe a.act y → AllLeave us y → AllLeave (a ∷ us) y
one_more_leaves a us y h r _ here = h
one_more_leaves a us y h r b (there i) = r b i

one_more_quiet : (a : Action) (us : List Action) → ((z : ℕ) → (assigns z a.act ≡ false) × (begins z a.act ≡ false)) → AllQuiet us → AllQuiet (a ∷ us)
one_more_quiet a us h r _ here = h
one_more_quiet a us h r b (there i) = r b i

pub read_leaves : (v : Bool) (y z : ℕ) (d : Temporary) → (y ≡ z → ⊥) → LeavesBe (Read v (own y) d) z
read_leaves true y z d n = n
read_leaves false y z d n = tt

not_special : {A : Type 0} {w : Hold} {y z : ℕ} → Some (sight y special) ≡ Some (sight z (plain w)) → A
not_special e = absurd (clash (ap (λ (s : Sight). s.how) (some_is e)))
  where
    clash : {w : Hold} → special ≡ plain w → ⊥
    clash q = cc

not_one : {A : Type 0} (y : ℕ) → (y == y) ≡ false → A
not_one y e = absurd (true≢false (sym (same_self y) ∙ e))

take_quiet : (x : ℕ) {a : Act} → Takes x a → (z : ℕ) → (assigns z a ≡ false) × (begins z a ≡ false)
take_quiet x by_read z = (refl, refl)
take_quiet x by_borrow z = (refl, refl)
take_quiet x by_reborrow z = (refl, refl)

module _ (S : Sides) (A : Asked) (k : Plan) (R : Renaming) (K : KnownVariables S) (g : Agrees S R K) (all : AllSlots R) where
  pub record Arguments (Rp : Renaming) (xs : List ℕ) (es : Operands) : Type 0 where
    pub taken : List ℕ
    pub actions : List Action
    pub straight : Straight (order_all es) actions
    pub handing : Handing taken actions
    pub for_params : (y : ℕ) → Among y taken → (x : ℕ) × Among (as_itself y x) K.variables × Among x xs × (sight_of Rp x ≡ None)
    pub quiet : AllQuiet actions
    pub leave : (x y : ℕ) (w : Hold) → sight_of R x ≡ Some (sight y (plain w)) → AllLeave actions y ⊎ (Among x xs × NeededNoMore A k x)

  no_arguments : (Rp : Renaming) → Arguments Rp [] no_operand
  no_arguments Rp = record { taken = []; actions = []; straight = no_action; handing = none_taken; for_params = λ y i. elim i [ ]; quiet = none_quiet; leave = λ x y w h. inl (none_leave y) }

  -- another one in front
  module _ (Rp : Renaming) (xs : List ℕ) (x y : ℕ) (e : Sight) (s : Sight) (h : sight_of R x ≡ Some e) (to : e.to ≡ y) (none : sight_of Rp x ≡ None) where
    there_too : Among (as_itself y x) K.variables
    there_too = subst (λ v. Among (as_itself v x) K.variables) to (seen S R K g all x e h)

    not_again : {es : Operands} (r : Arguments ((x, s) ∷ Rp) xs es) → Among y r.taken → ⊥
    not_again r i = let z = r.for_params y i in none_is (sym z.3 ∙ subst (λ v. sight_of ((x, s) ∷ Rp) v ≡ Some s) (K.one_there y x z.0 there_too z.1) (first Rp x s))

    all_for : {es : Operands} (r : Arguments ((x, s) ∷ Rp) xs es) (v : ℕ) → Among v (y ∷ r.taken) → (z : ℕ) × Among (as_itself v z) K.variables × Among z (x ∷ xs) × (sight_of Rp z ≡ None)
    all_for r _ here = (x, there_too, here, none)
    all_for r v (there i) = let z = r.for_params v i in (z.0, z.1, there z.2, earlier Rp x s none z.0 z.3)

  -- its action: the variable's place is taken, and another one is left as it is
  one_argument : {Rp : Renaming} {xs : List ℕ} {i : ℕ} {e : Exp} {es : Operands} (x y : ℕ) (t s : Sight) → sight_of R x ≡ Some t → t.to ≡ y → sight_of Rp x ≡ None → (a : Action) → Takes y a.act → Straight (order e (temporary_of e)) (a ∷ [])
      → ((v z : ℕ) (w : Hold) → sight_of R v ≡ Some (sight z (plain w)) → LeavesBe a.act z ⊎ ((v ≡ x) × NeededNoMore A k v)) → Arguments ((x, s) ∷ Rp) xs es → Arguments Rp (x ∷ xs) (operand_and i e es)
  one_argument {Rp = Rp} {xs = xs} x y t s h to none a takes straight leaves r = record {
    taken = y ∷ r.taken;
    actions = a ∷ r.actions;
    straight = in_sequence straight r.straight;
    handing = takes_one takes (not_again Rp xs x y t s h to none r) r.handing;
    for_params = all_for Rp xs x y t s h to none r;
    quiet = one_more_quiet a r.actions (take_quiet y takes) r.quiet;
    leave = λ v z w h. either v z (leaves v z w h) (r.leave v z w h);
  }
    where
      either : (v z : ℕ) → LeavesBe a.act z ⊎ ((v ≡ x) × NeededNoMore A k v) → AllLeave r.actions z ⊎ (Among v xs × NeededNoMore A k v) → AllLeave (a ∷ r.actions) z ⊎ (Among v (x ∷ xs) × NeededNoMore A k v)
      either v z (inl p) (inl q) = inl (one_more_leaves a r.actions z p q)
      either v z (inl p) (inr q) = inr (there q.0, q.1)
      either v z (inr p) q = inr (subst (λ u. Among u (x ∷ xs)) (sym p.0) here, p.1)

  -- a variable that is elsewhere in the new function moves; it is none of those in slots of both
  moves_only : (x y : ℕ) → sight_of R x ≡ Some (sight y special) → (v : Bool) (d : Temporary) (u z : ℕ) (w : Hold) → sight_of R u ≡ Some (sight z (plain w)) → LeavesBe (Read v (own y) d) z
  moves_only x y h v d u z w k = read_leaves v y z d (λ (q : y ≡ z). not_special (sym h ∙ (ap (λ a. sight_of R a) (scope_injective S R K g all x u (sight y special) (sight z (plain w)) h k q) ∙ k)))

  pub arguments : {again : Bool} {cold : List ℕ} {Rp Rf : Renaming} {xs : List ℕ} {ms : List Mode} {es : Operands} {ps : List Parameter} (l : GivenTo again R cold Rp xs ms es ps Rf) → GivenSo A k l → Arguments Rp xs es
  arguments {Rp = Rp} given_all so = no_arguments Rp
  arguments (moves_in {x = x} {y = y} {m = m} {moves = v} {p = p} h n f l) so =
      one_argument x y (sight y special) (sight p.variable special) h refl n (at_mark m (Read v (own y) (temporary_at m.node 0))) by_read one_action (λ u z w k. inl (moves_only x y h v (temporary_at m.node 0) u z w k)) (arguments l so)
  arguments (moves_again {x = x} {y = y} {m = m} {n = b} {p = p} a h n f l) so =
      one_argument x y (sight y special) (sight p.variable special) h refl n (at_mark m (Borrow true (placed y (step.Deref b ∷ [])) (temporary_at m.node 0))) by_reborrow one_action (λ u z w k. inl tt) (arguments l so)
  arguments (is_copied {x = x} {y = y} {m = m} {moves = v} {p = p} h i n f l) so =
      one_argument x y (sight y (plain shut)) (sight p.variable copied) h refl n (at_mark m (Read v (own y) (temporary_at m.node 0))) by_read one_action
      (λ u z w h. by u z w h so.0) (arguments l so.1)
    where
      by : (u z : ℕ) (w : Hold) → sight_of R u ≡ Some (sight z (plain w)) → (v ≡ false) ⊎ NeededNoMore A k x → LeavesBe (Read v (own y) (temporary_at m.node 0)) z ⊎ ((u ≡ x) × NeededNoMore A k u)
      by u z w q (inl p) = inl (subst (λ b. LeavesBe (Read b (own y) (temporary_at m.node 0)) z) (sym p) tt)
      by u z w q (inr f) = at_one (y == z) refl
        where
          at_one : (b : Bool) → (y == z) ≡ b → LeavesBe (Read v (own y) (temporary_at m.node 0)) z ⊎ ((u ≡ x) × NeededNoMore A k u)
          at_one true e = let i : x ≡ u = scope_injective S R K g all x u (sight y (plain shut)) (sight z (plain w)) h q (eqb-true y z e) in inr (sym i, subst (λ a. NeededNoMore A k a) i f)
          at_one false e = inl (read_leaves v y z (temporary_at m.node 0) (λ (i : y ≡ z). not_one y (subst (λ a. (y == a) ≡ false) (sym i) e)))
  arguments (is_shared {x = x} {y = y} {m = m} {p = p} w h n f l) so =
      one_argument x y (sight y (plain w)) (sight p.variable (through w false)) h refl n (at_mark m (Borrow false (own y) (temporary_at m.node 0))) by_borrow one_action (λ u z w k. inl tt) (arguments l so)
  arguments (is_lent {x = x} {y = y} {m = m} {p = p} w h c n f l) so =
      one_argument x y (sight y (plain w)) (sight p.variable (through w true)) h refl n (at_mark m (Borrow true (own y) (temporary_at m.node 0))) by_borrow one_action (λ u z w k. inl tt) (arguments l so)
  arguments (is_reborrowed {x = x} {y = y} {m = m} {n = b} {p = p} a h i n f l) so =
      one_argument x y (sight y (plain shut)) (sight p.variable copied) h refl n (at_mark m (Borrow true (placed y (step.Deref b ∷ [])) (temporary_at m.node 0))) by_reborrow one_action (λ u z w k. inl tt) (arguments l so)
  arguments (is_viewed {x = x} {y = y} {m = m} {n = b} {p = p} a h i n f l) so =
      one_argument x y (sight y (plain shut)) (sight p.variable viewed) h refl n (at_mark m (Borrow false (placed y (step.Deref b ∷ [])) (temporary_at m.node 0))) by_reborrow one_action (λ u z w k. inl tt) (arguments l so)
