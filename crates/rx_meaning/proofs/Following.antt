-- What a run tells is a walk: the steps of the meaning against the forms of orders.
use Rattle.std.proofs.Common.{◌≡◌, ℕ, zero, suc, Bool, true, false, nat_eq, List, [], ◌∷◌, ◌++◌, Option, Some, None, refl, sym, subst, eqb-true, if◌then◌else◌}
use Rattle.std.proofs.lemmas.List.{append-nil}
use Rattle.std.proofs.lemmas.Bool.{eqb-false}
use Rattle.rx_typed.specs.Tree.{Function}
use Rattle.rx_lower_walks.specs.Matching.{PartTest, Binding}
use Rattle.rx_lower_walks.specs.Actions.{Act, Dead, Action, does, Subject, taken}
use Rattle.rx_lower_walks.specs.Orders as order
use Rattle.rx_lower_walks.specs.Orders.{Exit, breaks, continues, returns, exit_node, Order, perhaps, binding, declaring, testing}
use Rattle.rx_lower_walks.specs.Walks as walk
use Rattle.rx_lower_walks.specs.Walks.{Walk, Passed}
use Rattle.rx_meaning.specs.Endings.{Ending}
use Rattle.rx_meaning.specs.Values.{Value, truth, unit_value, Frame, State}
use Rattle.rx_meaning.specs.Results.{Done, gives, ends, Result, on, jumps, stops, after, bind, result_of}
use Rattle.rx_meaning.specs.Acting.{Acting}
use Rattle.rx_meaning.specs.Patterns.{decided, tested, closed, took, bound, begun}
use Rattle.rx_meaning.specs.Expressions.{turn_at, take_turn, passed_by, passed, returned, found}
use Rattle.rx_meaning.specs.Telling.{told, telling, told_by, out_of}

-- the part has a walk with what was told, that ends as the part does
pub data Follows {A : Type 0} (W : Order) : Result Action A → Type 0 where
  goes_on : {w : List Action} {a : A} {s : State} → Walk W w walk.on → Follows W (on w a s)
  goes_out : {w : List Action} {x : Exit} {v : Value} {s : State} → Walk W w (walk.leaves x) → Follows W (jumps w x v s)
  goes_no_further : {w : List Action} {e : Ending} → Walk W w walk.stopped → Follows W (stops w e)

pub walk_of : {A : Type 0} (W : Order) (r : Result Action A) → Follows W r → Walk W (told_by r) (out_of r)
walk_of W _ (goes_on h) = h
walk_of W _ (goes_out h) = h
walk_of W _ (goes_no_further h) = h

-- ---- one part behind another

goes_after : {A : Type 0} (V W : Order) (w : List Action) (r : Result Action A) → Walk V w walk.on → Follows W r → Follows (order.then V W) (after w r)
unfolding after
goes_after V W w _ h (goes_on k) = goes_on (walk.both h k)
goes_after V W w _ h (goes_out k) = goes_out (walk.both h k)
goes_after V W w _ h (goes_no_further k) = goes_no_further (walk.both h k)

pub then_goes : {A B : Type 0} {V W : Order} {r : Result Action A} {go : A → State → Result Action B} → Follows V r → ((a : A) (s : State) → Follows W (go a s)) → Follows (order.then V W) (bind r go)
unfolding bind
then_goes {V = V} {W = W} (goes_on h) k = goes_after V W _ _ h (k _ _)
then_goes (goes_out h) k = goes_out (walk.first tt h)
then_goes (goes_no_further h) k = goes_no_further (walk.first tt h)

pub performs : {E : Type 0} (a : Action) (r : Done E) → Follows (order.act a) (result_of (told a r))
unfolding told result_of
performs a (gives w v s) = goes_on walk.acts
performs a (ends w e) = goes_no_further (walk.stops walk.acts)

-- another value in place of what a part gave
pub maps : {A B : Type 0} (W : Order) (f : A → B) (r : Result Action A) → Follows W r → Follows W (bind r (λ a s. on [] (f a) s))
unfolding bind after
maps W f _ (goes_on h) = goes_on (subst (λ u. Walk W u walk.on) (sym (append-nil _)) h)
maps W f _ (goes_out h) = goes_out h
maps W f _ (goes_no_further h) = goes_no_further h

-- ---- variables and patterns

ended_goes : {E : Type 0} {W : Order} {n x : ℕ} (w : List Action) (v : Value) (d : Done E) → Walk W w walk.on
    → Follows (order.ending n x W) (after w (bind (result_of (told (does n (Dead x)) d)) (λ u s1. on [] v s1)))
unfolding bind after told result_of
ended_goes w v (gives u z s) h = goes_on (walk.ends h)
ended_goes w v (ends u e) h = goes_no_further (walk.stops (walk.ends h))

jumped_goes : {E : Type 0} {W : Order} {n x : ℕ} (w : List Action) (j : Exit) (v : Value) (d : Done E) → Walk W w (walk.leaves j)
    → Follows {A = Value} (order.ending n x W) (after w (bind (result_of (told (does (exit_node j) (Dead x)) d)) (λ u s1. jumps [] j v s1)))
unfolding bind after told result_of
jumped_goes w j v (gives u z s) h = goes_out (walk.jumps h)
jumped_goes w j v (ends u e) h = goes_no_further (walk.stops (walk.jumps h))

pub ending_goes : {E : Type 0} (A : Acting E) {W : Order} {n x : ℕ} {r : Result Action Value} → Follows W r → Follows (order.ending n x W) (closed (telling A) n x r)
unfolding closed
ending_goes A (goes_on h) = ended_goes _ _ (A.perform _ [] _) h
ending_goes A (goes_out h) = jumped_goes _ _ _ (A.perform _ [] _) h
ending_goes A (goes_no_further h) = goes_no_further (walk.halts h)

took_goes : {E : Type 0} (A : Acting E) (n : ℕ) (a : Option Act) (vs : List Value) (s : State) → Follows (perhaps n a) (took (telling A) n a vs s)
unfolding took
took_goes A n None vs s = goes_on walk.nothing
took_goes A n (Some a) vs s = maps (order.act (does n a)) (λ v. v ∷ []) _ (performs _ _)

pub bound_goes : {E : Type 0} (A : Acting E) {W : Order} (S : Subject) (vs : List Value) (bs : List Binding) (n : ℕ) (go : State → Result Action Value) (s : State)
    → ((s1 : State) → Follows W (go s1)) → Follows (binding S bs n W) (bound (telling A) S vs bs n go s)
unfolding bound
bound_goes A S vs [] n go s h = h s
bound_goes A S vs (b ∷ bs) n go s h =
    then_goes (took_goes A b.node (taken S b) vs s) (λ ws s1. then_goes (performs _ _) (λ u s2. then_goes (performs _ _) (λ w s3. ending_goes A (bound_goes A S vs bs n go s3 h))))

pub begun_goes : {E : Type 0} (A : Acting E) {W : Order} (i : ℕ) (xs : List ℕ) (n : ℕ) (go : State → Result Action Value) (s : State)
    → ((s1 : State) → Follows W (go s1)) → Follows (declaring i xs n W) (begun (telling A) i xs n go s)
unfolding begun
begun_goes A i [] n go s h = h s
begun_goes A i (x ∷ xs) n go s h = then_goes (performs _ _) (λ u s1. ending_goes A (begun_goes A i xs n go s1 h))

pub in_first : {V W : Order} {r : Result Action Value} → Follows V r → Follows (order.or V W) r
in_first (goes_on h) = goes_on (walk.one h)
in_first (goes_out h) = goes_out (walk.one h)
in_first (goes_no_further h) = goes_no_further (walk.one h)

pub in_second : {V W : Order} {r : Result Action Value} → Follows W r → Follows (order.or V W) r
in_second (goes_on h) = goes_on (walk.other h)
in_second (goes_out h) = goes_out (walk.other h)
in_second (goes_no_further h) = goes_no_further (walk.other h)

pub decided_goes : {V W : Order} (v : Value) (go other : State → Result Action Value) (s : State)
    → ((s1 : State) → Follows V (go s1)) → ((s1 : State) → Follows W (other s1)) → Follows (order.or V W) (decided v go other s)
unfolding decided
decided_goes (truth true) go other s h k = in_first (h s)
decided_goes (truth false) go other s h k = in_second (k s)
decided_goes _ go other s h k = goes_no_further walk.rests

-- an arm of which one more test comes first
abbrev Tested : Action → Order → Order → Order
Tested a V N = order.otherwise (order.then (order.act a) (order.or V order.fail)) N

test_holds : {a : Action} {V N : Order} {w : List Action} {o : walk.Out} → Walk (order.otherwise V N) w o → Walk (Tested a V N) (a ∷ w) o
test_holds walk.rests = walk.holds tt (walk.both walk.acts (walk.one walk.rests))
test_holds (walk.stops h) = walk.stops (test_holds h)
test_holds (walk.holds n h) = walk.holds n (walk.both walk.acts (walk.one h))
test_holds (walk.next h k) = walk.next (walk.both walk.acts (walk.one h)) k

test_fails : {a : Action} {V N : Order} {w : List Action} {o : walk.Out} → Walk N w o → Walk (Tested a V N) (a ∷ w) o
test_fails h = walk.next (walk.both walk.acts (walk.other walk.fail)) h

held_goes : {a : Action} {V N : Order} (r : Result Action Value) → Follows (order.otherwise V N) r → Follows (Tested a V N) (after (a ∷ []) r)
unfolding after
held_goes _ (goes_on h) = goes_on (test_holds h)
held_goes _ (goes_out h) = goes_out (test_holds h)
held_goes _ (goes_no_further h) = goes_no_further (test_holds h)

failed_goes : {a : Action} {V N : Order} (r : Result Action Value) → Follows N r → Follows (Tested a V N) (after (a ∷ []) r)
unfolding after
failed_goes _ (goes_on h) = goes_on (test_fails h)
failed_goes _ (goes_out h) = goes_out (test_fails h)
failed_goes _ (goes_no_further h) = goes_no_further (test_fails h)

choice_goes : {a : Action} {V N : Order} (v : Value) (go other : State → Result Action Value) (s : State)
    → ((s1 : State) → Follows (order.otherwise V N) (go s1)) → ((s1 : State) → Follows N (other s1)) → Follows (Tested a V N) (after (a ∷ []) (decided v go other s))
unfolding decided after
choice_goes (truth true) go other s h k = held_goes _ (h s)
choice_goes (truth false) go other s h k = failed_goes _ (k s)
choice_goes _ go other s h k = goes_no_further (walk.stops (walk.holds tt (walk.both walk.acts walk.rests)))

test_goes : {E : Type 0} {a : Action} {V N : Order} (r : Done E) (go other : State → Result Action Value)
    → ((s1 : State) → Follows (order.otherwise V N) (go s1)) → ((s1 : State) → Follows N (other s1))
    → Follows (Tested a V N) (bind (result_of (told a r)) (λ v s1. decided v go other s1))
unfolding told bind result_of
test_goes (gives w v s) go other h k = choice_goes v go other s h k
test_goes (ends w e) go other h k = goes_no_further (walk.holds tt (walk.both walk.acts walk.rests))

stays : {W N : Order} {r : Result Action Value} → Follows W r → Follows (order.otherwise W N) r
stays (goes_on h) = goes_on (walk.holds tt h)
stays (goes_out h) = goes_out (walk.holds tt h)
stays (goes_no_further h) = goes_no_further (walk.holds tt h)

pub tested_goes : {E : Type 0} (A : Acting E) {W N : Order} (S : Subject) (vs : List Value) (ts : List PartTest) (go next : State → Result Action Value) (s : State)
    → ((s1 : State) → Follows W (go s1)) → ((s1 : State) → Follows N (next s1)) → Follows (order.otherwise (testing S ts W) N) (tested (telling A) S vs ts go next s)
unfolding tested
tested_goes A S vs [] go other s h k = stays (h s)
tested_goes A S vs (t ∷ ts) go other s h k = test_goes _ (λ s2. tested (telling A) S vs ts go other s2) other (λ s2. tested_goes A S vs ts go other s2 h k) k

-- ---- loops

passes_on : {W : Order} {l : ℕ} {o : walk.Out} (w : List Action) (r : Result Action Value) → Walk W w o → Passed l o → Follows (order.passes l W) r → Follows (order.passes l W) (after w r)
unfolding after
passes_on w _ h g (goes_on k) = goes_on (walk.more h g k)
passes_on w _ h g (goes_out k) = goes_out (walk.more h g k)
passes_on w _ h g (goes_no_further k) = goes_no_further (walk.more h g k)

jump_goes : {W : Order} (l : ℕ) (w : List Action) (x : Exit) (v : Value) (s : State) (again : State → Result Action Value)
    → Walk W w (walk.leaves x) → ((s : State) → Follows (order.passes l W) (again s)) → Follows (order.passes l W) (passed_by l w x v s again)
jump_goes {W = W} l w (continues n k) v s again h g = by (nat_eq k l) refl
  where
    by : (b : Bool) → nat_eq k l ≡ b → Follows (order.passes l W) (if b then after w (again s) else jumps w (continues n k) v s)
    by true e = passes_on w (again s) h (walk.by_continue (eqb-true k l e)) (g s)
    by false e = goes_out (walk.last h (walk.by_outer_continue (eqb-false k l e)))
jump_goes {W = W} l w (breaks n k) v s again h g = by (nat_eq k l) refl
  where
    by : (b : Bool) → nat_eq k l ≡ b → Follows (order.passes l W) (if b then on w unit_value s else jumps w (breaks n k) v s)
    by true e = goes_on (walk.last h (walk.by_break (eqb-true k l e)))
    by false e = goes_out (walk.last h (walk.by_outer_break (eqb-false k l e)))
jump_goes l w (returns n) v s again h g = goes_out (walk.last h walk.by_return)

pub loop_goes : {W : Order} (l : ℕ) (r : Result Action Value) (again : State → Result Action Value)
    → Follows W r → ((s : State) → Follows (order.passes l W) (again s)) → Follows (order.passes l W) (passed l r again)
unfolding passed
loop_goes l _ again (goes_on h) k = passes_on _ (again _) h walk.by_end (k _)
loop_goes l _ again (goes_out h) k = jump_goes l _ _ _ _ again h k
loop_goes l _ again (goes_no_further h) k = goes_no_further (walk.last h walk.by_stop)

-- ---- calls: nothing is told of them

pub data Quiet : Result Action Value → Type 0 where
  quiet_on : {v : Value} {s : State} → Quiet (on [] v s)
  quiet_stop : {e : Ending} → Quiet (stops [] e)

pub call_quiet : {E : Type 0} (A : Acting E) (F : Frame) (r : Result Action Value) → Quiet (returned (telling A) F r)
unfolding returned
call_quiet A F (on w v s) = quiet_stop
call_quiet A F (jumps w (breaks n k) v s) = quiet_stop
call_quiet A F (jumps w (continues n k) v s) = quiet_stop
call_quiet A F (jumps w (returns n) v s) = quiet_on
call_quiet A F (stops w e) = quiet_stop

pub turn_quiet : (s : State) (go : State → Result Action Value) → ((s1 : State) → Quiet (go s1)) → Quiet (take_turn s go)
unfolding take_turn
turn_quiet s go h = by s.turns
  where
    by : (t : ℕ) → Quiet (turn_at t s go)
    by zero = quiet_stop
    by (suc t) = h _

pub found_quiet : (f : Option (Option Function)) (go : Function → Result Action Value) → ((g : Function) → Quiet (go g)) → Quiet (found f go)
found_quiet (Some (Some f)) go h = h f
found_quiet (Some None) go h = quiet_stop
found_quiet None go h = quiet_stop

after_quiet : {a : Action} (r : Result Action Value) → Quiet r → Follows (order.act a) (after (a ∷ []) r)
unfolding after
after_quiet _ quiet_on = goes_on walk.acts
after_quiet _ quiet_stop = goes_no_further (walk.stops walk.acts)

pub call_goes : {a : Action} (r : Result Action Value) (go : Value → State → Result Action Value) → Follows (order.act a) r → ((v : Value) (s : State) → Quiet (go v s)) → Follows (order.act a) (bind r go)
unfolding bind
call_goes _ go (goes_on walk.acts) k = after_quiet _ (k _ _)
call_goes _ go (goes_out h) k = goes_out h
call_goes _ go (goes_no_further h) k = goes_no_further h
