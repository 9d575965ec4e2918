-- What a run tells is a walk: by recursion on the typed tree, and on the turns.
use Rattle.std.proofs.Common.{ℕ, zero, suc, List, [], ◌∷◌, subst}
use Rattle.rx_typed.specs.Tree.{Temporary, Exp, read, borrow, share, build, unit, lazily, assign, update, call, input, print, block, choose, loop, jump, give, Operands, no_operand, operand_and, Scrutinee, at_place, of_value, Arms, no_arm, arm_and, Body, ends, runs, declares, lets, Parameter, Function, mark_of, temporary_of}
use Rattle.rx_lower_walks.specs.Matching.{tests, bindings}
use Rattle.rx_lower_walks.specs.Actions.{Action, Subject, subject}
use Rattle.rx_lower_walks.specs.Orders as order
use Rattle.rx_lower_walks.specs.Orders.{Order, order_all, order_scrutinee, order_arms, order_body, order_function, beginning}
use Rattle.rx_lower_walks.specs.Walks as walk
use Rattle.rx_lower_walks.specs.Walks.{Walk}
use Rattle.rx_meaning.specs.Values.{Value, State, element}
use Rattle.rx_meaning.specs.Results.{Result}
use Rattle.rx_meaning.specs.Acting.{Acting}
use Rattle.rx_meaning.specs.Expressions.{Functions, Meaning, turn_at, take_turn, with_arguments, activation, value, values, matched, arms, body, below_level}
use Rattle.rx_meaning.specs.Telling.{telling, Told, acted, fully, told_by, out_of, Alike, alike_on, alike_jump, alike_stop, SameActions}
use Rattle.rx_meaning.proofs.Told.{fully_acts}
use Rattle.rx_meaning.proofs.Following.{Follows, goes_on, goes_out, goes_no_further, walk_of, then_goes, performs, ending_goes, maps, bound_goes, begun_goes, decided_goes, tested_goes, loop_goes, call_quiet, turn_quiet, found_quiet, call_goes}

abbrev AllFollow : Meaning Action → Type 0
AllFollow below = (e : Exp) (d : Temporary) (s : State) → Follows (order.order e d) (below e d s)

looped : {W : Order} (go : State → Result Action Value) (s : State) → ((s1 : State) → Follows W (go s1)) → Follows W (take_turn s go)
unfolding take_turn
looped {W = W} go s h = by s.turns
  where
    by : (t : ℕ) → Follows W (turn_at t s go)
    by zero = goes_no_further walk.rests
    by (suc t) = h _

-- what tells these actions has the walk of what tells them alone
walks_alike : {E A : Type 0} (W : Order) (r : Result Action A) (q : Result (Told E) A) → Alike SameActions r q → Walk W (told_by r) (out_of r) → Walk W (acted (told_by q)) (out_of q)
walks_alike W _ _ (alike_on t) h = subst (λ w. Walk W w walk.on) t h
walks_alike W _ _ (alike_jump {x = x} t) h = subst (λ w. Walk W w (walk.leaves x)) t h
walks_alike W _ _ (alike_stop t) h = subst (λ w. Walk W w walk.stopped) t h

module _ {E : Type 0} (A : Acting E) where
  mutual
    unfolding value

    pub value_goes : (P : Functions) (below : Meaning Action) → AllFollow below → (e : Exp) (d : Temporary) (s : State) → Follows (order.order e d) (value (telling A) P below e d s)
    value_goes P below h (read m moves p) d s = performs _ _
    value_goes P below h (build m w es) d s = then_goes (values_go P below h es s) (λ vs s1. performs _ _)
    value_goes P below h (lazily m b e f) d s =
        then_goes (value_goes P below h e _ s) (λ v s1. then_goes (performs _ _) (λ t s2.
        then_goes (decided_goes t _ _ s2 (λ s3. value_goes P below h f _ s3) (λ s3. goes_on walk.nothing)) (λ w s4. performs _ _)))
    value_goes P below h (borrow m k p) d s = performs _ _
    value_goes P below h (share m e) d s = then_goes (value_goes P below h e _ s) (λ v s1. performs _ _)
    value_goes P below h (call m f es) d s =
        then_goes (values_go P below h es s) (λ vs s1. call_goes _ _ (performs _ _) (λ u s2. found_quiet (element P f) _ (λ g. turn_quiet s2 _ (λ s3. call_quiet A s3.frame _))))
    value_goes P below h (input m) d s = performs _ _
    value_goes P below h (print m e) d s = then_goes (value_goes P below h e _ s) (λ v s1. performs _ _)
    value_goes P below h (assign m p e) d s = then_goes (value_goes P below h e _ s) (λ v s1. performs _ _)
    value_goes P below h (update m o p e) d s =
        then_goes (value_goes P below h e _ s) (λ v s1. then_goes (performs _ _) (λ u s2. then_goes (performs _ _) (λ w s3. performs _ _)))
    value_goes P below h (choose m c l) d s = then_goes (matched_goes P below h c s) (λ vs s1. arms_go P below h (subject c) vs l d s1)
    value_goes P below h (loop m l e) d s = looped _ s (λ s1. loop_goes l _ _ (h e (temporary_of e) s1) (λ s2. h (loop m l e) d s2))
    value_goes P below h (jump m l again) d s = goes_out walk.leave
    value_goes P below h (give m e) d s =
        then_goes (value_goes P below h e _ s) (λ v s1. then_goes (performs _ _) (λ w s2. goes_out walk.leave))
    value_goes P below h (unit m) d s = goes_on walk.nothing
    value_goes P below h (block m b) d s = body_goes P below h b m.node d s

    pub values_go : (P : Functions) (below : Meaning Action) → AllFollow below → (es : Operands) (s : State) → Follows (order_all es) (values (telling A) P below es s)
    values_go P below h no_operand s = goes_on walk.nothing
    values_go P below h (operand_and i e es) s = then_goes (value_goes P below h e _ s) (λ v s1. maps (order_all es) (λ vs. v ∷ vs) _ (values_go P below h es s1))

    pub matched_goes : (P : Functions) (below : Meaning Action) → AllFollow below → (c : Scrutinee) (s : State) → Follows (order_scrutinee c) (matched (telling A) P below c s)
    matched_goes P below h (at_place m p) s = goes_on walk.nothing
    matched_goes P below h (of_value e) s = maps (order.order e _) (λ v. v ∷ []) _ (value_goes P below h e _ s)

    pub arms_go : (P : Functions) (below : Meaning Action) → AllFollow below → (S : Subject) (vs : List Value) (l : Arms) (d : Temporary) (s : State) → Follows (order_arms S l d) (arms (telling A) P below S vs l d s)
    arms_go P below h S vs no_arm d s = goes_no_further walk.rests
    arms_go P below h S vs (arm_and p e rest) d s =
        tested_goes A S vs (tests [] p) _ _ s (λ s1. bound_goes A S vs (bindings [] p) (mark_of e).node _ s1 (λ s2. value_goes P below h e d s2)) (λ s1. arms_go P below h S vs rest d s1)

    pub body_goes : (P : Functions) (below : Meaning Action) → AllFollow below → (b : Body) (n : ℕ) (d : Temporary) (s : State) → Follows (order_body b n d) (body (telling A) P below b n d s)
    body_goes P below h (ends e) n d s = value_goes P below h e d s
    body_goes P below h (runs e rest) n d s = then_goes (value_goes P below h e _ s) (λ v s1. body_goes P below h rest n d s1)
    body_goes P below h (declares i xs rest) n d s = begun_goes A i xs n _ s (λ s1. body_goes P below h rest n d s1)
    body_goes P below h (lets i p c rest) n d s = then_goes (matched_goes P below h c s) (λ vs s1. bound_goes A (subject c) vs (bindings [] p) n _ s1 (λ s2. body_goes P below h rest n d s2))

  pub levels_go : (P : Functions) (n : ℕ) → AllFollow (below_level (telling A) P n)
  unfolding below_level
  levels_go P zero e d s = goes_no_further walk.rests
  levels_go P (suc n) e d s = value_goes P (below_level (telling A) P n) (levels_go P n) e d s

  pub arguments_go : {W : Order} (ps : List Parameter) (n : ℕ) (vs : List Value) (go : State → Result Action Value) (s : State)
      → ((s1 : State) → Follows W (go s1)) → Follows (beginning ps n W) (with_arguments (telling A) ps n vs go s)
  unfolding with_arguments
  arguments_go [] n [] go s h = h s
  arguments_go [] n (v ∷ vs) go s h = goes_no_further walk.rests
  arguments_go (p ∷ ps) n [] go s h = goes_no_further walk.rests
  arguments_go (p ∷ ps) n (v ∷ vs) go s h = then_goes (performs _ _) (λ u s1. then_goes (performs _ _) (λ w s2. ending_goes A (arguments_go ps n vs go s2 h)))

  pub activation_follows : (P : Functions) (n : ℕ) (f : Function) (vs : List Value) (s : State) → Follows (order_function f) (activation (telling A) (below_level (telling A) P n) f vs s)
  activation_follows P n f vs s = arguments_go f.params (mark_of f.body).node vs _ s (λ s1. levels_go P n f.body (temporary_of f.body) s1)

  pub activation_walks : (P : Functions) (n : ℕ) (f : Function) (vs : List Value) (s : State)
      → Walk (order_function f) (told_by (activation (telling A) (below_level (telling A) P n) f vs s)) (out_of (activation (telling A) (below_level (telling A) P n) f vs s))
  activation_walks P n f vs s = walk_of (order_function f) _ (activation_follows P n f vs s)

  -- and so where they are told beside what it tells
  pub fully_walks : (P : Functions) (n : ℕ) (f : Function) (vs : List Value) (s : State)
      → Walk (order_function f) (acted (told_by (activation (fully A) (below_level (fully A) P n) f vs s))) (out_of (activation (fully A) (below_level (fully A) P n) f vs s))
  fully_walks P n f vs s = walks_alike (order_function f) _ _ (fully_acts A P n f vs s) (activation_walks P n f vs s)
