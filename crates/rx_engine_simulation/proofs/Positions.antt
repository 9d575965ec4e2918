-- Where a history has come to: a part of a part is come to by what was done in front of it, and what a run did there is a walk.
use Rattle.std.proofs.Common.{◌≡◌, ℕ, suc, List, [], ◌∷◌, ◌++◌, Option, Some, None, refl, sym, ap, ◌∙◌, subst}
use Rattle.std.proofs.lemmas.List.{append-nil}
use Rattle.rx_typed.specs.Tree.{Exp, Scrutinee, at_place, of_value, temporary_of, Temporary, block, ends}
use Rattle.rx_lower_walks.specs.Actions.{Act, Action, does}
use Rattle.rx_lower_walks.specs.Orders as order
use Rattle.rx_lower_walks.specs.Orders.{Order, perhaps, order_scrutinee}
use Rattle.rx_lower_walks.specs.Walks as walk
use Rattle.rx_lower_walks.specs.Walks.{Out, Walk, Passed}
use Rattle.rx_exits_plan.specs.Coming.{all, in_first, in_second, in_one, in_arm, in_next, in_scope, in_pass, in_later}
use Rattle.rx_meaning.specs.Values.{Value, State}
use Rattle.rx_meaning.specs.Results as results
use Rattle.rx_meaning.specs.Results.{Done, gives, Result, on, jumps, stops, after, bind, result_of}
use Rattle.rx_meaning.specs.Acting.{performed, does_plainly, plainly}
use Rattle.rx_meaning.specs.Patterns.{took}
use Rattle.rx_meaning.specs.Expressions.{Functions, with_arguments, value, matched, below_level}
use Rattle.rx_meaning.specs.Telling.{acted, told_by, out_of}
use Rattle.rx_meaning.proofs.Told.{acted_saying}
use Rattle.rx_meaning.proofs.RunsFollow.{fully_walks}
use Rattle.rx_engine_simulation.specs.Histories.{put, Facts}
use Rattle.rx_engine_simulation.proofs.Told.{Told, says, did, noted, followed, onto}

-- what was done since then is a walk of the part, and it goes on; or a test has failed there
abbrev pub Walked : Order → List Action → List Action → Type 0
Walked s h h1 = (w : List Action) × (h1 ≡ put w h) × Walk s w walk.on

abbrev pub Failed : Order → List Action → List Action → Type 0
Failed s h h1 = (w : List Action) × (h1 ≡ put w h) × Walk s w walk.fails

pub put_append : (u v h : List Action) → put (u ++ v) h ≡ put v (put u h)
put_append [] v h = refl
put_append (a ∷ u) v h = put_append u v (a ∷ h)

onto_is : (w : List (Told ℕ)) (h : List Action) → onto w h ≡ put (acted w) h
onto_is [] h = refl
onto_is (says b ∷ w) h = onto_is w h
onto_is (did a ∷ w) h = onto_is w (a ∷ h)

pub acted_one : (a : Action) (h : List Action) → Walked (order.act a) h (a ∷ h)
acted_one a h = (a ∷ [], refl, walk.acts)

-- the tests of an arm: this one has failed, or one behind it
pub fails_now : {a : Action} {s : Order} {h h1 : List Action} → Walked (order.act a) h h1 → Failed (order.then (order.act a) (order.or s order.fail)) h h1
fails_now {h = h} k = (k.0 ++ [], k.1 ∙ ap (λ w. put w h) (sym (append-nil k.0)), walk.both k.2 (walk.other walk.fail))

pub fails_later : {a : Action} {s : Order} {h h1 h2 : List Action} → Walked (order.act a) h h1 → Failed s h1 h2 → Failed (order.then (order.act a) (order.or s order.fail)) h h2
fails_later {h = h} k x = (k.0 ++ x.0, x.1 ∙ ap (λ h. put x.0 h) k.1 ∙ sym (put_append k.0 x.0 h), walk.both k.2 (walk.one x.2))

-- ---- parts of a part

module _ (V : Facts) where
  pub first_at : {s t : Order} {h : List Action} → V.Comes (order.then s t) h → V.Comes s h
  first_at {s} {t} {h} at = V.within {q = s} {s = order.then s t} {w = []} {h = h} (in_first all) at

  pub next_at : {s t : Order} {h h1 : List Action} → V.Comes (order.then s t) h → Walked s h h1 → V.Comes t h1
  next_at {s} {t} {h} at k =
      subst (λ h1. V.Comes t h1) (sym k.1) (subst (λ w. V.Comes t (put w h)) (append-nil k.0) (V.within {q = t} {s = order.then s t} {w = k.0 ++ []} {h = h} (in_second k.2 all) at))

  pub one_at : {s t : Order} {h : List Action} → V.Comes (order.or s t) h → V.Comes s h
  one_at {s} {t} {h} at = V.within {q = s} {s = order.or s t} {w = []} {h = h} (in_one all) at

  pub arm_at : {s t : Order} {h : List Action} → V.Comes (order.otherwise s t) h → V.Comes s h
  arm_at {s} {t} {h} at = V.within {q = s} {s = order.otherwise s t} {w = []} {h = h} (in_arm all) at

  pub next_arm_at : {s t : Order} {h h1 : List Action} → V.Comes (order.otherwise s t) h → Failed s h h1 → V.Comes t h1
  next_arm_at {s} {t} {h} at k =
      subst (λ h1. V.Comes t h1) (sym k.1) (subst (λ w. V.Comes t (put w h)) (append-nil k.0) (V.within {q = t} {s = order.otherwise s t} {w = k.0 ++ []} {h = h} (in_next k.2 all) at))

  pub scope_at : {n x : ℕ} {s : Order} {h : List Action} → V.Comes (order.ending n x s) h → V.Comes s h
  scope_at {n} {x} {s} {h} at = V.within {q = s} {s = order.ending n x s} {w = []} {h = h} (in_scope all) at

  pub pass_at : {l : ℕ} {s : Order} {h : List Action} → V.Comes (order.passes l s) h → V.Comes s h
  pass_at {l} {s} {h} at = V.within {q = s} {s = order.passes l s} {w = []} {h = h} (in_pass all) at

  -- a further pass, behind one that told this
  pub later_at : {l : ℕ} {s : Order} {h : List Action} {o : Out} → V.Comes (order.passes l s) h → (w : List (Told ℕ)) → Walk s (acted w) o → Passed l o → V.Comes (order.passes l s) (onto w h)
  later_at {l} {s} {h} at w k p =
      subst (λ h1. V.Comes (order.passes l s) h1) (sym (onto_is w h)) (subst (λ w. V.Comes (order.passes l s) (put w h)) (append-nil (acted w))
      (V.within {q = order.passes l s} {s = order.passes l s} {w = acted w ++ []} {h = h} (in_later k p all) at))

-- ---- what a run did is a walk

abbrev pub IsWalked : {A : Type 0} → Order → Result (Told ℕ) A → Type 0
IsWalked s r = Walk s (acted (told_by r)) (out_of r)

pub walked : {A : Type 0} (s : Order) (h : List Action) (w : List (Told ℕ)) (r : Result (Told ℕ) A) (a : A) (t : State) → r ≡ on w a t → IsWalked s r → Walked s h (onto w h)
walked s h w r a t e k = (acted w, onto_is w h, subst (λ r. IsWalked s r) e k)

-- that of a function without parameters, whose body this is
pub below_walk : (P : Functions) (m : ℕ) (e : Exp) (s : State) → IsWalked (order.order e (temporary_of e)) (below_level followed P m e (temporary_of e) s)
unfolding with_arguments
below_walk P m e s = fully_walks plainly P m (record { params = []; body = e }) [] s

pub value_walk : (P : Functions) (m : ℕ) (e : Exp) (s : State) → IsWalked (order.order e (temporary_of e)) (value followed P (below_level followed P m) e (temporary_of e) s)
unfolding below_level
value_walk P m e s = below_walk P (suc m) e s

abbrev temporary_in : ℕ → ℕ → Temporary
temporary_in n i = record { node = n; which = i }

walk_in_block : (P : Functions) (m : ℕ) (e : Exp) (n : ℕ) (s : State) → IsWalked (order.order e (temporary_in n 0)) (value followed P (below_level followed P m) e (temporary_in n 0) s)
unfolding value
walk_in_block P m e n s = value_walk P m (block (record { node = n; typ = None }) (ends e)) s

-- to another temporary of an operand
pub value_walk_to : (P : Functions) (m : ℕ) (e : Exp) (t : Temporary) (s : State) → t.which ≡ 0 → IsWalked (order.order e t) (value followed P (below_level followed P m) e t s)
value_walk_to P m e t s e0 = subst (λ n. IsWalked (order.order e (temporary_in t.node n)) (value followed P (below_level followed P m) e (temporary_in t.node n) s)) (sym e0) (walk_in_block P m e t.node s)

noted_walk : (a : Action) (d : Done ℕ) → IsWalked (order.act a) (result_of (noted a d))
unfolding noted result_of
noted_walk a (gives w v s) = subst (λ l. Walk (order.act a) (a ∷ l) walk.on) (acted_saying w) walk.acts
noted_walk a (results.ends w e) = subst (λ l. Walk (order.act a) (a ∷ l) walk.stopped) (acted_saying w) (walk.stops walk.acts)

pub act_walk : (a : Action) (vs : List Value) (s : State) → IsWalked (order.act a) (performed followed a vs s)
act_walk a vs s = noted_walk a (does_plainly a.act vs s)

alone : {A B : Type 0} (f : A → B) (s : Order) (r : Result (Told ℕ) A) → IsWalked s r → IsWalked s (bind r (λ a t. on [] (f a) t))
unfolding bind after
alone f s (on w a t) k = subst (λ w. Walk s (acted w) walk.on) (sym (append-nil w)) k
alone f s (jumps w x v t) k = k
alone f s (stops w e) k = k

pub matched_walk : (P : Functions) (m : ℕ) (c : Scrutinee) (s : State) → IsWalked (order_scrutinee c) (matched followed P (below_level followed P m) c s)
unfolding value
matched_walk P m (at_place w p) s = walk.nothing
matched_walk P m (of_value e) s = alone (λ v. v ∷ []) (order.order e (temporary_of e)) _ (value_walk P m e s)

pub took_walk : (n : ℕ) (o : Option Act) (vs : List Value) (s : State) → IsWalked (perhaps n o) (took followed n o vs s)
unfolding took
took_walk n None vs s = walk.nothing
took_walk n (Some a) vs s = alone (λ v. v ∷ []) (order.act (does n a)) _ (act_walk (does n a) vs s)
