-- What each action keeps of the state, and turns and frames don't touch, each part keeps.
use Rattle.std.proofs.Common.{ℕ, zero, suc, Bool, true, false, nat_eq, List, [], ◌∷◌, Option, Some, None, if◌then◌else◌}
use Rattle.rx_typed.specs.Tree.{Temporary, Exp, read, borrow, share, build, unit, lazily, assign, update, call, input, print, block, choose, loop, jump, give, Operands, no_operand, operand_and, Scrutinee, at_place, of_value, Arms, no_arm, arm_and, Body, ends, runs, declares, lets, Parameter, Function, temporary_of}
use Rattle.rx_lower_walks.specs.Matching.{PartTest, Binding, tests, bindings}
use Rattle.rx_lower_walks.specs.Actions.{Act, Dead, Action, does, Subject, subject, taken}
use Rattle.rx_lower_walks.specs.Orders.{Exit, breaks, continues, returns, exit_node}
use Rattle.rx_meaning.specs.Values.{Value, truth, element, Frame, new_frame, State, with_turns}
use Rattle.rx_meaning.specs.Results as results
use Rattle.rx_meaning.specs.Results.{Done, gives, or_ends, Result, on, jumps, stops, after, bind, result_of, Leaves}
use Rattle.rx_meaning.specs.Acting.{Acting, performed}
use Rattle.rx_meaning.specs.Patterns.{decided, tested, closed, took, bound, begun}
use Rattle.rx_meaning.specs.Expressions.{Functions, Meaning, turn_at, take_turn, passed_by, passed, back_in, returned, with_arguments, activation, found, value, values, matched, arms, body, below_level}

abbrev pub DoneLeaves : {E : Type 0} → (State → Type 0) → Done E → Type 0
DoneLeaves I (gives w v s) = I s
DoneLeaves I (results.ends w e) = Unit {0}

pub record IsKept {E : Type 0} (A : Acting E) (I : State → Type 0) : Type 0 where
  pub performs : (a : Action) (vs : List Value) (s : State) → I s → DoneLeaves I (A.perform a vs s)
  pub turns : (s : State) (n : ℕ) → I s → I (with_turns s n)
  pub frames : (s : State) (F : Frame) → I s → I (record s { frame = F })

module _ {E : Type 0} (I : State → Type 0) where
  after_kept : {A : Type 0} (w : List E) (r : Result E A) → Leaves I r → Leaves I (after w r)
  unfolding after
  after_kept w (on v a s) h = h
  after_kept w (jumps v x a s) h = h
  after_kept w (stops v e) h = tt

  bind_kept : {A B : Type 0} (r : Result E A) (go : A → State → Result E B) → Leaves I r → ((a : A) (s : State) → I s → Leaves I (go a s)) → Leaves I (bind r go)
  unfolding bind
  bind_kept (on w a s) go h k = after_kept w (go a s) (k a s h)
  bind_kept (jumps w x v s) go h k = h
  bind_kept (stops w e) go h k = tt

  result_kept : (r : Done E) → DoneLeaves I r → Leaves I (result_of r)
  unfolding result_of
  result_kept (gives w v s) h = h
  result_kept (results.ends w e) h = tt

  -- from each state that is so
  abbrev Goes : (State → Result E Value) → Type 0
  Goes go = (s : State) → I s → Leaves I (go s)

  decided_kept : (v : Value) (go other : State → Result E Value) (s : State) → I s → Goes go → Goes other → Leaves I (decided v go other s)
  unfolding decided
  decided_kept (truth true) go other s h k l = k s h
  decided_kept (truth false) go other s h k l = l s h
  decided_kept _ go other s h k l = tt

  if_kept : (b : Bool) (r q : Result E Value) → Leaves I r → Leaves I q → Leaves I (if b then r else q)
  if_kept true r q h k = h
  if_kept false r q h k = k

  jump_kept : (l : ℕ) (w : List E) (x : Exit) (v : Value) (s : State) (go : State → Result E Value) → I s → Goes go → Leaves I (passed_by l w x v s go)
  jump_kept l w (breaks n k) v s go h g = if_kept (nat_eq k l) _ _ h h
  jump_kept l w (continues n k) v s go h g = if_kept (nat_eq k l) _ _ (after_kept w (go s) (g s h)) h
  jump_kept l w (returns n) v s go h g = h

  passed_kept : (l : ℕ) (r : Result E Value) (go : State → Result E Value) → Leaves I r → Goes go → Leaves I (passed l r go)
  unfolding passed
  passed_kept l (on w v s) go h g = after_kept w (go s) (g s h)
  passed_kept l (jumps w x v s) go h g = jump_kept l w x v s go h g
  passed_kept l (stops w e) go h g = tt

  found_kept : (f : Option (Option Function)) (go : Function → Result E Value) → ((g : Function) → Leaves I (go g)) → Leaves I (found f go)
  found_kept (Some (Some f)) go h = h f
  found_kept (Some None) go h = tt
  found_kept None go h = tt

module _ {E : Type 0} (A : Acting E) (I : State → Type 0) (kept : IsKept A I) where
  does_kept : (a : Action) (vs : List Value) (s : State) → I s → Leaves I (performed A a vs s)
  does_kept a vs s h = result_kept I _ (kept.performs a vs s h)

  turn_kept : (s : State) (go : State → Result E Value) → I s → Goes I go → Leaves I (take_turn s go)
  unfolding take_turn
  turn_kept s go h k = by s.turns
    where
      by : (t : ℕ) → Leaves I (turn_at t s go)
      by zero = tt
      by (suc t) = k (with_turns s t) (kept.turns s t h)

  closed_kept : (n x : ℕ) (r : Result E Value) → Leaves I r → Leaves I (closed A n x r)
  unfolding closed
  closed_kept n x (on w v s) h = after_kept I w _ (bind_kept I _ _ (does_kept (does n (Dead x)) [] s h) (λ u s1 h1. h1))
  closed_kept n x (jumps w j v s) h = after_kept I w _ (bind_kept I _ _ (does_kept (does (exit_node j) (Dead x)) [] s h) (λ u s1 h1. h1))
  closed_kept n x (stops w e) h = tt

  took_kept : (n : ℕ) (a : Option Act) (vs : List Value) (s : State) → I s → Leaves I (took A n a vs s)
  unfolding took
  took_kept n None vs s h = h
  took_kept n (Some a) vs s h = bind_kept I _ _ (does_kept (does n a) vs s h) (λ v s1 h1. h1)

  bound_kept : (S : Subject) (vs : List Value) (bs : List Binding) (n : ℕ) (go : State → Result E Value) (s : State) → I s → Goes I go → Leaves I (bound A S vs bs n go s)
  unfolding bound
  bound_kept S vs [] n go s h k = k s h
  bound_kept S vs (b ∷ bs) n go s h k =
      bind_kept I _ _ (took_kept b.node (taken S b) vs s h) (λ ws s1 h1. bind_kept I _ _ (does_kept _ _ s1 h1) (λ u s2 h2. bind_kept I _ _ (does_kept _ _ s2 h2) (λ w s3 h3.
      closed_kept n b.variable _ (bound_kept S vs bs n go s3 h3 k))))

  begun_kept : (i : ℕ) (xs : List ℕ) (n : ℕ) (go : State → Result E Value) (s : State) → I s → Goes I go → Leaves I (begun A i xs n go s)
  unfolding begun
  begun_kept i [] n go s h k = k s h
  begun_kept i (x ∷ xs) n go s h k = bind_kept I _ _ (does_kept _ _ s h) (λ u s1 h1. closed_kept n x _ (begun_kept i xs n go s1 h1 k))

  tested_kept : (S : Subject) (vs : List Value) (ts : List PartTest) (go other : State → Result E Value) (s : State) → I s → Goes I go → Goes I other → Leaves I (tested A S vs ts go other s)
  unfolding tested
  tested_kept S vs [] go other s h k l = k s h
  tested_kept S vs (t ∷ ts) go other s h k l = bind_kept I _ _ (does_kept _ _ s h) (λ v s1 h1. decided_kept I v _ _ s1 h1 (λ s2 h2. tested_kept S vs ts go other s2 h2 k l) l)

  back_kept : (F : Frame) (w : List E) (x : Exit) (v : Value) (s : State) → I s → Leaves I (back_in F w x v s)
  back_kept F w (breaks n k) v s h = tt
  back_kept F w (continues n k) v s h = tt
  back_kept F w (returns n) v s h = kept.frames s F h

  returned_kept : (F : Frame) (r : Result E Value) → Leaves I r → Leaves I (returned A F r)
  unfolding returned
  returned_kept F (on w v s) h = tt
  returned_kept F (jumps w x v s) h = back_kept F _ x v s h
  returned_kept F (stops w e) h = tt

  arguments_kept : (ps : List Parameter) (n : ℕ) (vs : List Value) (go : State → Result E Value) (s : State) → I s → Goes I go → Leaves I (with_arguments A ps n vs go s)
  unfolding with_arguments
  arguments_kept [] n [] go s h k = k s h
  arguments_kept [] n (v ∷ vs) go s h k = tt
  arguments_kept (p ∷ ps) n [] go s h k = tt
  arguments_kept (p ∷ ps) n (v ∷ vs) go s h k =
      bind_kept I _ _ (does_kept _ _ s h) (λ u s1 h1. bind_kept I _ _ (does_kept _ _ s1 h1) (λ w s2 h2. closed_kept n p.variable _ (arguments_kept ps n vs go s2 h2 k)))

  abbrev AllKept : Meaning E → Type 0
  AllKept low = (e : Exp) (d : Temporary) (s : State) → I s → Leaves I (low e d s)

  activation_kept : (low : Meaning E) → AllKept low → (f : Function) (vs : List Value) (s : State) → I s → Leaves I (activation A low f vs s)
  activation_kept low k f vs s h = arguments_kept f.params _ vs _ s h (λ s1 h1. k f.body _ s1 h1)

  mutual
    unfolding value

    value_kept : (P : Functions) (low : Meaning E) → AllKept low → (e : Exp) (d : Temporary) (s : State) → I s → Leaves I (value A P low e d s)
    value_kept P low k (read m v p) d s h = does_kept _ _ s h
    value_kept P low k (build m w es) d s h = bind_kept I _ _ (values_kept P low k es s h) (λ vs s1 h1. does_kept _ _ s1 h1)
    value_kept P low k (lazily m b e f) d s h =
        bind_kept I _ _ (value_kept P low k e _ s h) (λ v s1 h1. bind_kept I _ _ (does_kept _ _ s1 h1) (λ t s2 h2.
        bind_kept I _ _ (decided_kept I t _ _ s2 h2 (λ s3 h3. value_kept P low k f _ s3 h3) (λ s3 h3. h3)) (λ w s4 h4. does_kept _ _ s4 h4)))
    value_kept P low k (borrow m w p) d s h = does_kept _ _ s h
    value_kept P low k (share m e) d s h = bind_kept I _ _ (value_kept P low k e _ s h) (λ v s1 h1. does_kept _ _ s1 h1)
    value_kept P low k (call m f es) d s h =
        bind_kept I _ _ (values_kept P low k es s h) (λ vs s1 h1. bind_kept I _ _ (does_kept _ _ s1 h1) (λ u s2 h2.
        found_kept I (element P f) _ (λ g. turn_kept s2 _ h2 (λ s3 h3. returned_kept s3.frame _ (activation_kept low k g vs (record s3 { frame = new_frame f }) (kept.frames s3 (new_frame f) h3))))))
    value_kept P low k (input m) d s h = does_kept _ _ s h
    value_kept P low k (print m e) d s h = bind_kept I _ _ (value_kept P low k e _ s h) (λ v s1 h1. does_kept _ _ s1 h1)
    value_kept P low k (assign m p e) d s h = bind_kept I _ _ (value_kept P low k e _ s h) (λ v s1 h1. does_kept _ _ s1 h1)
    value_kept P low k (update m o p e) d s h =
        bind_kept I _ _ (value_kept P low k e _ s h) (λ v s1 h1. bind_kept I _ _ (does_kept _ _ s1 h1) (λ u s2 h2. bind_kept I _ _ (does_kept _ _ s2 h2) (λ w s3 h3. does_kept _ _ s3 h3)))
    value_kept P low k (choose m c l) d s h = bind_kept I _ _ (matched_kept P low k c s h) (λ vs s1 h1. arms_kept P low k (subject c) vs l d s1 h1)
    value_kept P low k (loop m l e) d s h = turn_kept s _ h (λ s1 h1. passed_kept I l _ _ (k e (temporary_of e) s1 h1) (λ s2 h2. k (loop m l e) d s2 h2))
    value_kept P low k (jump m l again) d s h = h
    value_kept P low k (give m e) d s h = bind_kept I _ _ (value_kept P low k e _ s h) (λ v s1 h1. bind_kept I _ _ (does_kept _ _ s1 h1) (λ w s2 h2. h2))
    value_kept P low k (unit m) d s h = h
    value_kept P low k (block m b) d s h = body_kept P low k b m.node d s h

    values_kept : (P : Functions) (low : Meaning E) → AllKept low → (es : Operands) (s : State) → I s → Leaves I (values A P low es s)
    values_kept P low k no_operand s h = h
    values_kept P low k (operand_and i e es) s h = bind_kept I _ _ (value_kept P low k e _ s h) (λ v s1 h1. bind_kept I _ _ (values_kept P low k es s1 h1) (λ vs s2 h2. h2))

    matched_kept : (P : Functions) (low : Meaning E) → AllKept low → (c : Scrutinee) (s : State) → I s → Leaves I (matched A P low c s)
    matched_kept P low k (at_place m p) s h = h
    matched_kept P low k (of_value e) s h = bind_kept I _ _ (value_kept P low k e _ s h) (λ v s1 h1. h1)

    arms_kept : (P : Functions) (low : Meaning E) → AllKept low → (S : Subject) (vs : List Value) (l : Arms) (d : Temporary) (s : State) → I s → Leaves I (arms A P low S vs l d s)
    arms_kept P low k S vs no_arm d s h = tt
    arms_kept P low k S vs (arm_and p e rest) d s h =
        tested_kept S vs (tests [] p) _ _ s h (λ s1 h1. bound_kept S vs (bindings [] p) _ _ s1 h1 (λ s2 h2. value_kept P low k e d s2 h2)) (λ s1 h1. arms_kept P low k S vs rest d s1 h1)

    body_kept : (P : Functions) (low : Meaning E) → AllKept low → (b : Body) (n : ℕ) (d : Temporary) (s : State) → I s → Leaves I (body A P low b n d s)
    body_kept P low k (ends e) n d s h = value_kept P low k e d s h
    body_kept P low k (runs e rest) n d s h = bind_kept I _ _ (value_kept P low k e _ s h) (λ v s1 h1. body_kept P low k rest n d s1 h1)
    body_kept P low k (declares i xs rest) n d s h = begun_kept i xs n _ s h (λ s1 h1. body_kept P low k rest n d s1 h1)
    body_kept P low k (lets i p c rest) n d s h = bind_kept I _ _ (matched_kept P low k c s h) (λ vs s1 h1. bound_kept (subject c) vs (bindings [] p) n _ s1 h1 (λ s2 h2. body_kept P low k rest n d s2 h2))

  levels_kept : (P : Functions) (n : ℕ) → AllKept (below_level A P n)
  unfolding below_level
  levels_kept P zero e d s h = tt
  levels_kept P (suc n) e d s h = value_kept P (below_level A P n) (levels_kept P n) e d s h

  pub activations_keep : (P : Functions) (n : ℕ) (f : Function) (vs : List Value) (s : State) → I s → Leaves I (activation A (below_level A P n) f vs s)
  activations_keep P n f vs s h = activation_kept (below_level A P n) (levels_kept P n) f vs s h
