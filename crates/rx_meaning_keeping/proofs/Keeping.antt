-- What each action keeps, the run keeps: by recursion on the typed tree and on the turns, each part follows its order with what it tells.
use Rattle.std.proofs.Common.{◌≡◌, ℕ, zero, suc, Bool, true, false, nat_eq, List, [], ◌∷◌, ◌++◌, length, Option, Some, None, refl, sym, ap, subst, eqb-true, if◌then◌else◌, append_assoc, append-nil, ◌∙◌, ◌⊎◌, inl, inr}
use Rattle.std.proofs.lemmas.Bool.{eqb-false}
use Rattle.rx_core.specs.declared.types.Step.{Step}
use Rattle.rx_typed.specs.Tree.{Temporary, Mode, by_value, by_reference, Exp, read, borrow, share, build, unit, lazily, assign, update, call, input, print, block, choose, loop, jump, give, Operands, no_operand, operand_and, Scrutinee, at_place, of_value, Arms, no_arm, arm_and, Body, ends, runs, lets, Parameter, Function, own, temporary_place, under, mark_of, temporary_at, temporary_of, temporaries_of, fields_of}
use Rattle.rx_typed.specs.Tree as tree
use Rattle.rx_lower_walks.specs.Matching.{PartTest, Binding, bindings}
use Rattle.rx_lower_walks.specs.Matching as matching
use Rattle.rx_lower_walks.specs.Actions.{Act, Declare, Dead, Read, Write, Borrow, Call, Action, does, at_mark, Subject, subject, test_of, taking, source}
use Rattle.rx_lower_walks.specs.Orders as order
use Rattle.rx_lower_walks.specs.Orders.{Exit, breaks, continues, returns, exit_node, Order, perhaps, binding, declaring, testing, order_all, order_scrutinee, order_arms, order_body, order_function, beginning, argument}
use Rattle.rx_lower_walks.specs.Walks as walk
use Rattle.rx_lower_walks.specs.Walks.{Walk, Passed, IsWalk, IsAway}
use Rattle.rx_meaning.specs.Endings.{Ending, running, wrong, mistyped, missing_function, missing_arm}
use Rattle.rx_meaning.specs.Values.{Value, truth, unit_value, Frame, new_frame, element, State, with_turns}
use Rattle.rx_meaning.specs.Results as results
use Rattle.rx_meaning.specs.Results.{Done, gives, Result, on, jumps, stops, after, bind, result_of}
use Rattle.rx_meaning.specs.Acting.{Acting, performed}
use Rattle.rx_meaning.specs.Patterns.{decided, tested, closed, took, bound, begun}
use Rattle.rx_meaning.specs.Expressions.{Functions, Meaning, turn_at, take_turn, passed, returned, with_arguments, activation, entered, found, value, values, matched, arms, body, below_level, called}
use Rattle.rx_meaning.specs.Telling.{Told, did, said, acted, saying, noted, fully}
use Rattle.rx_meaning.proofs.Told.{acted_append, acted_saying}
use Rattle.rx_meaning_keeping.specs.Pending.{Pending, Paired, no_pair, pair_and, holds, landing, pushes, ids, Unheld, Thin, none, keeps, skips, swaps, holding, Fits, of_place, of_held, arguments, AsMany, one_more}
use Rattle.rx_meaning_keeping.specs.Units.{GoesOn, FillsUnit, OperandsFill, ScrutineeFills, ArmsFill, BodyFills, IsUnitOf}
use Rattle.rx_meaning_keeping.specs.RightOperands.{HasRight, OperandsHaveRight, ScrutineeHasRight, ArmsHaveRight, BodyHasRight, IsRightOf}
use Rattle.rx_meaning_keeping.specs.Using.{Taken, Does, reads, borrows, borrows_held, tests, tests_held, writes, writes_part, builds, joins, inputs, prints, gives_up, dies, Gives}
use Rattle.rx_meaning_keeping.specs.Using as using
use Rattle.rx_meaning_keeping.specs.Formed.{with_subject, Apart, Formed, FormedAll, FormedScrutinee, FormedArms, FormedBody, AllFormed}
use Rattle.rx_meaning_keeping.specs.Keeping.{Invariant, Kept, Law, ArmFails, AllFail, Calling, Laws, IsFunction}
use Rattle.rx_meaning_keeping.specs.Following.{Follows, goes, leaps, halts}

-- ---- what is told

joined : {E : Type 0} (t u : List (Told E)) (o v : List Action) → acted t ≡ o → acted u ≡ v → acted (t ++ u) ≡ o ++ v
joined t u o v e g = acted_append t u ∙ ap (λ l. l ++ acted u) e ∙ ap (λ l. o ++ l) g

and_none : {E : Type 0} (t : List (Told E)) (o : List Action) → acted t ≡ o → acted (t ++ []) ≡ o
and_none t o e = ap acted (append-nil t) ∙ e

one_told : {E : Type 0} (a : Action) (t : List E) → acted (did a ∷ saying t) ≡ a ∷ []
one_told a t = ap (λ l. a ∷ l) (sym (acted_saying t))

silent : {E : Type 0} (t u : List (Told E)) (o : List Action) → acted t ≡ o → acted u ≡ [] → acted (t ++ u) ≡ o
silent t u o e g = joined t u o [] e g ∙ append-nil o

-- ---- what is pending

thin_all : (K : Pending) → Thin K K
thin_all [] = none
thin_all (k ∷ K) = keeps (thin_all K)

thin_pushes : (ts : List Temporary) (vs : List Value) (K K' : Pending) → Thin K K' → Thin K (pushes ts vs K')
thin_pushes [] vs K K' h = h
thin_pushes (t ∷ ts) [] K K' h = h
thin_pushes (t ∷ ts) (v ∷ vs) K K' h = thin_pushes ts vs K (holds t v K') (skips h)

thin_landing : (x : Exit) (v : Value) (K K' : Pending) → Thin K K' → Thin (landing x v K) (landing x v K')
thin_landing (breaks n l) v K K' h = h
thin_landing (continues n l) v K K' h = h
thin_landing (returns n) v K K' h = keeps h

as_many_fields : (es : Operands) → length (fields_of es) ≡ length (temporaries_of es)
as_many_fields no_operand = refl
as_many_fields (operand_and i e es) = ap suc (as_many_fields es)

module _ {E : Type 0} (Ok : Ending → Type 0) (Leap : List Action → Exit → Value → State → Type 0) where
  -- what was done before comes first
  fine_after : {A : Type 0} (Post : List Action → A → State → Type 0) (U V : Order) (w o : List Action) (t : List (Told E)) (r : Result (Told E) A) → acted t ≡ o
      → ((v : List Action) (x : walk.Out) → Walk U v x → Walk V (o ++ v) x) → Follows Ok Post Leap U (w ++ o) r → Follows Ok Post Leap V w (after t r)
  unfolding after
  fine_after Post U V w o t _ e f (goes {t = u} {a = a} {s = s} v g h p) = goes (o ++ v) (joined t u o v e g) (f v _ h) (subst (λ l. Post l a s) (append_assoc w o v) p)
  fine_after Post U V w o t _ e f (leaps {t = u} {x = x} {v = a} {s = s} v g h p) = leaps (o ++ v) (joined t u o v e g) (f v _ h) (subst (λ l. Leap l x a s) (append_assoc w o v) p)
  fine_after Post U V w o t _ e f (halts {t = u} v g h p) = halts (o ++ v) (joined t u o v e g) (f v _ h) p

  -- the same walks otherwise
  fine_in : {A : Type 0} (Post : List Action → A → State → Type 0) (U V : Order) (w : List Action) (r : Result (Told E) A)
      → ((v : List Action) (x : walk.Out) → Walk U v x → Walk V v x) → Follows Ok Post Leap U w r → Follows Ok Post Leap V w r
  fine_in Post U V w _ f (goes v g h p) = goes v g (f v _ h) p
  fine_in Post U V w _ f (leaps v g h p) = leaps v g (f v _ h) p
  fine_in Post U V w _ f (halts v g h p) = halts v g (f v _ h) p

  -- less is said behind it
  pub fine_post : {A : Type 0} (Post Post1 : List Action → A → State → Type 0) (V : Order) (w : List Action) (r : Result (Told E) A)
      → ((l : List Action) (a : A) (s : State) → Post1 l a s → Post l a s) → Follows Ok Post1 Leap V w r → Follows Ok Post Leap V w r
  fine_post Post Post1 V w _ f (goes v g h p) = goes v g h (f _ _ _ p)
  fine_post Post Post1 V w _ f (leaps v g h p) = leaps v g h p
  fine_post Post Post1 V w _ f (halts v g h p) = halts v g h p

  pub fine_leap : {A : Type 0} (Leap1 : List Action → Exit → Value → State → Type 0) (Post : List Action → A → State → Type 0) (V : Order) (w : List Action) (r : Result (Told E) A)
      → ((l : List Action) (x : Exit) (v : Value) (s : State) → Leap1 l x v s → Leap l x v s) → Follows Ok Post Leap1 V w r → Follows Ok Post Leap V w r
  fine_leap Leap1 Post V w _ f (goes v g h p) = goes v g h p
  fine_leap Leap1 Post V w _ f (leaps v g h p) = leaps v g h (f _ _ _ _ p)
  fine_leap Leap1 Post V w _ f (halts v g h p) = halts v g h p

  -- behind it some walk goes on
  fine_on : {A : Type 0} (Post : List Action → A → State → Type 0) (V : Order) (w : List Action) (r : Result (Told E) A) → Follows Ok Post Leap V w r → Follows Ok (λ l a s. GoesOn V × Post l a s) Leap V w r
  fine_on Post V w _ (goes v g h p) = goes v g h ((v, h), p)
  fine_on Post V w _ (leaps v g h p) = leaps v g h p
  fine_on Post V w _ (halts v g h p) = halts v g h p

  -- another value in place of what a part gave
  fine_map : {A B : Type 0} (Post1 : List Action → A → State → Type 0) (Post : List Action → B → State → Type 0) (V : Order) (w : List Action) (f : A → B) (r : Result (Told E) A)
      → ((l : List Action) (a : A) (s : State) → Post1 l a s → Post l (f a) s) → Follows Ok Post1 Leap V w r → Follows Ok Post Leap V w (bind r (λ a s. on [] (f a) s))
  unfolding bind after
  fine_map Post1 Post V w f _ g (goes {t = t} v e h p) = goes v (and_none t v e) h (g _ _ _ p)
  fine_map Post1 Post V w f _ g (leaps v e h p) = leaps v e h p
  fine_map Post1 Post V w f _ g (halts v e h p) = halts v e h p

module _ (Is : List Action → Type 0) where
  -- what begins a walk with the part at this point begins one of the function
  abbrev pub Context : Order → List Action → Type 0
  Context V w = (v : List Action) (x : walk.Out) → Walk V v x → Is (w ++ v)

  context_first : {U V : Order} (w : List Action) → Context (order.then U V) w → Context U w
  context_first w c v x h = c v walk.stopped (walk.first tt (walk.stops h))

  context_second : {U V : Order} (w o : List Action) → Context (order.then U V) w → Walk U o walk.on → Context V (w ++ o)
  context_second w o c h v x k = subst Is (sym (append_assoc w o v)) (c (o ++ v) x (walk.both h k))

  context_ending : {V : Order} (n x : ℕ) (w : List Action) → Context (order.ending n x V) w → Context V w
  context_ending n x w c v y h = c v walk.stopped (walk.halts (walk.stops h))

  context_pass : {V : Order} (l : ℕ) (w : List Action) → Context (order.passes l V) w → Context V w
  context_pass l w c v y h = c v walk.stopped (walk.last (walk.stops h) walk.by_stop)

  context_more : {V : Order} (l : ℕ) (w o : List Action) (x : walk.Out) → Context (order.passes l V) w → Walk V o x → Passed l x → Context (order.passes l V) (w ++ o)
  context_more l w o x c h g v y k = subst Is (sym (append_assoc w o v)) (c (o ++ v) y (walk.more h g k))

  -- a part and what follows it
  fine_then : {E A B : Type 0} (Ok : Ending → Type 0) (Leap : List Action → Exit → Value → State → Type 0) (Post1 : List Action → A → State → Type 0) (Post : List Action → B → State → Type 0)
      {U V : Order} (w : List Action) (r : Result (Told E) A) (go : A → State → Result (Told E) B) → Context (order.then U V) w → Follows Ok Post1 Leap U w r
      → ((w1 : List Action) (a : A) (s : State) → Context V w1 → Post1 w1 a s → Follows Ok Post Leap V w1 (go a s)) → Follows Ok Post Leap (order.then U V) w (bind r go)
  unfolding bind
  fine_then Ok Leap Post1 Post {U = U} {V = V} w _ go c (goes {t = t} {a = a} {s = s} o e h p) k =
      fine_after Ok Leap Post V (order.then U V) w o t (go a s) e (λ v x g. walk.both h g) (k (w ++ o) a s (context_second w o c h) p)
  fine_then Ok Leap Post1 Post w _ go c (leaps o e h p) k = leaps o e (walk.first tt h) p
  fine_then Ok Leap Post1 Post w _ go c (halts o e h p) k = halts o e (walk.first tt h) p

-- ---- tests of arms

abbrev Tested : Action → Order → Order → Order
Tested a V N = order.otherwise (order.then (order.act a) (order.or V order.fail)) N

test_holds : {a : Action} {V N : Order} {w : List Action} {o : walk.Out} → Walk (order.otherwise V N) w o → Walk (Tested a V N) (a ∷ w) o
test_holds walk.rests = walk.holds tt (walk.both walk.acts (walk.one walk.rests))
test_holds (walk.stops h) = walk.stops (test_holds h)
test_holds (walk.holds n h) = walk.holds n (walk.both walk.acts (walk.one h))
test_holds (walk.next h k) = walk.next (walk.both walk.acts (walk.one h)) k

test_fails : {a : Action} {V N : Order} {w : List Action} {o : walk.Out} → Walk N w o → Walk (Tested a V N) (a ∷ w) o
test_fails h = walk.next (walk.both walk.acts (walk.other walk.fail)) h

-- ---- one activation

module _ {E : Type 0} (A : Acting E) (Ok : Ending → Type 0) (Is : List Action → Type 0) (Us Rs : Temporary → Type 0) (I : Invariant) (law : Law A Ok Is Us Rs I) (no_turn : Ok running) where
  abbrev Good : {B : Type 0} → (B → Pending) → List Action → B → State → Type 0
  Good K1 w v s = I w s (K1 v)

  abbrev Leap : Pending → List Action → Exit → Value → State → Type 0
  Leap K w x v s = I w s (landing x v K)

  abbrev FineAt : {B : Type 0} → Pending → (B → Pending) → Order → List Action → Result (Told E) B → Type 0
  FineAt K K1 V w r = Follows Ok (Good K1) (Leap K) V w r

  abbrev Ctx : Order → List Action → Type 0
  Ctx V w = Context Is V w

  abbrev GivesUnit : Pending → List Action → Value → State → Type 0
  GivesUnit K w v s = (v ≡ unit_value) × I w s K

  abbrev GoodAll : List Temporary → Pending → List Action → List Value → State → Type 0
  GoodAll ts K w vs s = Paired ts vs × I w s (pushes ts vs K)

  fine_drop : {B : Type 0} (K K' : Pending) (Post : List Action → B → State → Type 0) (V : Order) (w : List Action) (r : Result (Told E) B) → Thin K K' → Follows Ok Post (Leap K') V w r → Follows Ok Post (Leap K) V w r
  fine_drop K K' Post V w r h f = fine_leap Ok (Leap K) (Leap K') Post V w r (λ l x v s i. law.drops l s _ _ (thin_landing x v K K' h) i) f

  fine_done : (w : List Action) (a : Action) (s : State) (K : Pending) (K1 : Value → Pending) (r : Done E) → Kept Ok I w a s K1 r
      → Follows Ok (λ l v s1. Gives a.act s v s1 × I l s1 (K1 v)) (Leap K) (order.act a) w (result_of (noted a r))
  unfolding result_of noted
  fine_done w a s K K1 (gives t v s1) h = goes (a ∷ []) (one_told a t) walk.acts h
  fine_done w a s K K1 (results.ends t e) h = halts (a ∷ []) (one_told a t) (walk.stops walk.acts) h

  -- an action
  fine_act : (w : List Action) (a : Action) (vs : List Value) (s : State) (K K0 : Pending) (K1 : Value → Pending) → Does Rs a.act vs K0 K1 → Ctx (order.act a) w → I w s K0
      → Follows Ok (λ l v s1. Gives a.act s v s1 × I l s1 (K1 v)) (Leap K) (order.act a) w (performed (fully A) a vs s)
  fine_act w a vs s K K0 K1 d c i = fine_done w a s K K1 _ (law.performs w a vs s K0 K1 d (c (a ∷ []) walk.on walk.acts) i)

  fine_one : (w : List Action) (a : Action) (vs : List Value) (s : State) (K K0 : Pending) (K1 : Value → Pending) → Does Rs a.act vs K0 K1 → Ctx (order.act a) w → I w s K0
      → FineAt K K1 (order.act a) w (performed (fully A) a vs s)
  fine_one w a vs s K K0 K1 d c i = fine_post Ok (Leap K) (Good K1) _ (order.act a) w _ (λ l v s1 p. p.1) (fine_act w a vs s K K0 K1 d c i)

  -- an action that gives the unit
  fine_unit : (w : List Action) (a : Action) (vs : List Value) (s : State) (K K0 : Pending) → Does Rs a.act vs K0 (λ u. K) → ((v : Value) (s1 : State) → Gives a.act s v s1 → v ≡ unit_value)
      → Ctx (order.act a) w → I w s K0 → Follows Ok (GivesUnit K) (Leap K) (order.act a) w (performed (fully A) a vs s)
  fine_unit w a vs s K K0 h g c i = fine_post Ok (Leap K) (GivesUnit K) _ (order.act a) w _ (λ l v s1 p. (g v s1 p.0, p.1)) (fine_act w a vs s K K0 (λ u. K) h c i)

  -- the unit comes into a temporary where a part goes on
  fine_fill : (d : Temporary) (K : Pending) (V : Order) (w : List Action) (r : Result (Told E) Value) → ((o : List Action) → Walk V o walk.on → Us d) → Unheld d (ids K) → Follows Ok (GivesUnit K) (Leap K) V w r → FineAt K (λ v. holds d v K) V w r
  fine_fill d K V w _ u n (goes {s = s} o e h p) = goes o e h (subst (λ y. I (w ++ o) s (holds d y K)) (sym p.0) (law.units (w ++ o) s d K (u o h) n p.1))
  fine_fill d K V w _ u n (leaps o e h p) = leaps o e h p
  fine_fill d K V w _ u n (halts o e h p) = halts o e h p

  -- a variable that ends
  fine_closed : (K : Pending) (K1 : Value → Pending) (V : Order) (n x : ℕ) (w : List Action) (r : Result (Told E) Value) → Ctx (order.ending n x V) w → FineAt K K1 V w r → FineAt K K1 (order.ending n x V) w (closed (fully A) n x r)
  unfolding closed after bind result_of noted
  fine_closed K K1 V n x w _ c (goes {t = t} {a = v} {s = s} o e h p) =
      fine_after Ok (Leap K) (Good K1) (order.act (does n (Dead x))) (order.ending n x V) w o t _ e (λ l y g. shuts l y g)
      (fine_map Ok (Leap K) (λ l u s1. I l s1 (K1 v)) (Good K1) (order.act (does n (Dead x))) (w ++ o) (λ u. v) _ (λ l a s1 q. q)
      (fine_one (w ++ o) (does n (Dead x)) [] s K (K1 v) (λ u. K1 v) dies (λ l y g. subst Is (sym (append_assoc w o l)) (c (o ++ l) y (shuts l y g))) p))
    where
      shuts : (l : List Action) (y : walk.Out) → Walk (order.act (does n (Dead x))) l y → Walk (order.ending n x V) (o ++ l) y
      shuts _ _ walk.rests = walk.halts (walk.stops (subst (λ u. Walk V u walk.on) (sym (append-nil o)) h))
      shuts _ _ (walk.stops g) = walk.stops (shuts _ _ g)
      shuts _ _ walk.acts = walk.ends h
  fine_closed K K1 V n x w _ c (leaps {t = t} {x = j} {v = v} {s = s} o e h p) =
      done (A.perform (does (exit_node j) (Dead x)) [] s) (law.performs (w ++ o) (does (exit_node j) (Dead x)) [] s (landing j v K) (λ u. landing j v K) dies
      (subst Is (sym (append_assoc w o _)) (c (o ++ does (exit_node j) (Dead x) ∷ []) (walk.leaves j) (walk.jumps h))) p)
    where
      done : (r : Done E) → Kept Ok I (w ++ o) (does (exit_node j) (Dead x)) s (λ u. landing j v K) r
          → FineAt K K1 (order.ending n x V) w (after t (bind (result_of (noted (does (exit_node j) (Dead x)) r)) (λ u s1. jumps [] j v s1)))
      done (gives t1 u s1) q = leaps (o ++ does (exit_node j) (Dead x) ∷ []) (joined t _ o _ e (and_none (did (does (exit_node j) (Dead x)) ∷ saying t1) _ (one_told (does (exit_node j) (Dead x)) t1))) (walk.jumps h) (subst (λ l. I l s1 (landing j v K)) (append_assoc w o _) q.1)
      done (results.ends t1 x1) q = halts (o ++ does (exit_node j) (Dead x) ∷ []) (joined t _ o _ e (one_told (does (exit_node j) (Dead x)) t1)) (walk.stops (walk.jumps h)) q
  fine_closed K K1 V n x w _ c (halts o e h p) = halts o e (walk.halts h) p

  -- what follows, from each point
  abbrev Goes : Pending → Pending → (Value → Pending) → Order → (State → Result (Told E) Value) → Type 0
  Goes K0 K K1 V go = (w : List Action) (s : State) → Ctx V w → I w s K0 → FineAt K K1 V w (go s)

  -- ---- patterns

  -- an action whose value is not kept, and what follows it
  fine_next : (K0 K2 K : Pending) (K1 : Value → Pending) (V : Order) (w : List Action) (a : Action) (vs : List Value) (s : State) (go : Value → State → Result (Told E) Value) → Does Rs a.act vs K0 (λ u. K2)
      → Ctx (order.then (order.act a) V) w → I w s K0 → ((u : Value) → Goes K2 K K1 V (go u)) → FineAt K K1 (order.then (order.act a) V) w (bind (performed (fully A) a vs s) go)
  fine_next K0 K2 K K1 V w a vs s go d c i k =
      fine_then Is Ok (Leap K) (λ l u s1. I l s1 K2) (Good K1) w _ go c (fine_one w a vs s K K0 (λ u. K2) d (context_first Is w c) i) (λ w1 u s1 c1 i1. k u w1 s1 c1 i1)

  -- a new variable is written from what was taken
  fine_new : (ws : List Value) (n x : ℕ) (d : Temporary) (ss : List Step) (K0 K2 K : Pending) (K1 : Value → Pending) (V : Order) (w : List Action) (s : State) (go : State → Result (Told E) Value)
      → Does Rs (Write (own x) d ss) ws K0 (λ u. K2) → Ctx (order.then (order.act (does n (Declare x))) (order.then (order.act (does n (Write (own x) d ss))) V)) w → I w s K0 → Goes K2 K K1 V go
      → FineAt K K1 (order.then (order.act (does n (Declare x))) (order.then (order.act (does n (Write (own x) d ss))) V)) w
      (bind (performed (fully A) (does n (Declare x)) [] s) (λ u s2. bind (performed (fully A) (does n (Write (own x) d ss)) ws s2) (λ z s3. go s3)))
  fine_new ws n x d ss K0 K2 K K1 V w s go f c i k =
      fine_next K0 K0 K K1 (order.then (order.act (does n (Write (own x) d ss))) V) w (does n (Declare x)) [] s _ using.declares c i (λ u w2 s2 c2 i2.
      fine_next K0 K2 K K1 V w2 (does n (Write (own x) d ss)) ws s2 _ f c2 i2 (λ z. k))

  -- one binding
  Bound : Subject → List Value → Mode → ℕ → ℕ → List Step → Pending → (Value → Pending) → Order → List Action → State → (State → Result (Told E) Value) → Type 0
  Bound S vs m n x ss K K1 V w s go =
      Ctx (order.then (perhaps n (taking m S ss (temporary_at n 0))) (order.then (order.act (does n (Declare x))) (order.then (order.act (does n (Write (own x) (source m S ss (temporary_at n 0)).0 (source m S ss (temporary_at n 0)).1))) V))) w
      → I w s (holding S vs K) → Goes (holding S vs K) K K1 V go
      → FineAt K K1 (order.then (perhaps n (taking m S ss (temporary_at n 0))) (order.then (order.act (does n (Declare x))) (order.then (order.act (does n (Write (own x) (source m S ss (temporary_at n 0)).0 (source m S ss (temporary_at n 0)).1))) V))) w
      (bind (took (fully A) n (taking m S ss (temporary_at n 0)) vs s) (λ ws s1. bind (performed (fully A) (does n (Declare x)) [] s1) (λ u s2. bind (performed (fully A) (does n (Write (own x) (source m S ss (temporary_at n 0)).0 (source m S ss (temporary_at n 0)).1)) ws s2) (λ z s3. go s3))))

  -- what was read or borrowed is one value
  abbrev Took : Temporary → Pending → List Action → List Value → State → Type 0
  Took d K l ws s1 = (v : Value) × (ws ≡ v ∷ []) × I l s1 (holds d v K)

  fine_took : (n x : ℕ) (a : Act) (vs : List Value) (K0 K2 K : Pending) (K1 : Value → Pending) (V : Order) (w : List Action) (s : State) (go : State → Result (Told E) Value)
      → Does Rs a vs K0 (λ v. holds (temporary_at n 0) v K2)
      → Ctx (order.then (order.act (does n a)) (order.then (order.act (does n (Declare x))) (order.then (order.act (does n (Write (own x) (temporary_at n 0) []))) V))) w
      → I w s K0 → Goes K2 K K1 V go
      → FineAt K K1 (order.then (order.act (does n a)) (order.then (order.act (does n (Declare x))) (order.then (order.act (does n (Write (own x) (temporary_at n 0) []))) V))) w
      (bind (took (fully A) n (Some a) vs s) (λ ws s1. bind (performed (fully A) (does n (Declare x)) [] s1) (λ u s2. bind (performed (fully A) (does n (Write (own x) (temporary_at n 0) [])) ws s2) (λ z s3. go s3))))
  unfolding took
  fine_took n x a vs K0 K2 K K1 V w s go f c i k =
      fine_then Is Ok (Leap K) (Took (temporary_at n 0) K2) (Good K1) w _ _ c
      (fine_map Ok (Leap K) (Good (λ v. holds (temporary_at n 0) v K2)) (Took (temporary_at n 0) K2) (order.act (does n a)) w (λ v. v ∷ []) _ (λ l v s1 q. (v, refl, q))
      (fine_one w (does n a) vs s K K0 _ f (context_first Is w c) i))
      (λ w1 ws s1 c1 t. rw (t.1) (fine_new (t.0 ∷ []) n x (temporary_at n 0) [] (holds (temporary_at n 0) t.0 K2) K2 K K1 V w1 s1 go writes c1 t.2 k))

  fine_binding : (S : Subject) (vs : List Value) (m : Mode) (n x : ℕ) (ss : List Step) (K : Pending) (K1 : Value → Pending) (V : Order) (w : List Action) (s : State) (go : State → Result (Told E) Value)
      → Fits S vs → Unheld (temporary_at n 0) (with_subject S (ids K)) → Bound S vs m n x ss K K1 V w s go
  unfolding took Bound
  fine_binding _ _ (by_value m) n x ss K K1 V w s go (of_place {p = p}) a c i k = fine_took n x (Read m (under p ss) (temporary_at n 0)) [] K K K K1 V w s go (reads a) c i k
  fine_binding _ _ (by_value m) n x ss K K1 V w s go (of_held {t = t} {v = v}) a c i k =
      fine_then Is Ok (Leap K) (λ l ws s1. (ws ≡ v ∷ []) × I l s1 (holds t v K)) (Good K1) w (on [] (v ∷ []) s) _ c (goes [] refl walk.nothing (refl, subst (λ l. I l s (holds t v K)) (sym (append-nil w)) i))
      (λ w1 ws s1 c1 q. rw (q.0) (fine_new (v ∷ []) n x t ss (holds t v K) (holds t v K) K K1 V w1 s1 go writes_part c1 q.1 k))
  fine_binding _ _ (by_reference m) n x ss K K1 V w s go (of_place {p = p}) a c i k = fine_took n x (Borrow m (under p ss) (temporary_at n 0)) [] K K K K1 V w s go (borrows a) c i k
  fine_binding _ _ (by_reference m) n x ss K K1 V w s go (of_held {t = t} {v = v}) a c i k =
      fine_took n x (Borrow m (under (temporary_place t) ss) (temporary_at n 0)) (v ∷ []) (holds t v K) (holds t v K) K K1 V w s go (borrows_held a) c i k

  fine_bound : (S : Subject) (vs : List Value) (bs : List Binding) (n : ℕ) (K : Pending) (K1 : Value → Pending) (V : Order) (w : List Action) (s : State) (go : State → Result (Told E) Value)
      → Fits S vs → Apart (with_subject S (ids K)) bs → Ctx (binding S bs n V) w → I w s (holding S vs K) → Goes K K K1 V go → FineAt K K1 (binding S bs n V) w (bound (fully A) S vs bs n go s)
  unfolding bound Bound
  fine_bound S vs [] n K K1 V w s go f a c i k = k w s c (law.drops w s _ _ (thin_holding S vs K f) i)
    where
      thin_holding : (S : Subject) (vs : List Value) (K : Pending) → Fits S vs → Thin K (holding S vs K)
      thin_holding _ _ K of_place = thin_all K
      thin_holding _ _ K of_held = skips (thin_all K)
  fine_bound S vs (b ∷ bs) n K K1 V w s go f a c i k =
      fine_binding S vs b.mode b.node b.variable b.steps K K1 (order.ending n b.variable (binding S bs n V)) w s (λ s3. closed (fully A) n b.variable (bound (fully A) S vs bs n go s3)) f a.0 c i
      (λ w3 s3 c3 i3. fine_closed K K1 (binding S bs n V) n b.variable w3 _ c3 (fine_bound S vs bs n K K1 V w3 s3 go f a.1 (context_ending Is n b.variable w3 c3) i3 k))

  fine_begun : (i : ℕ) (xs : List ℕ) (n : ℕ) (K : Pending) (K1 : Value → Pending) (V : Order) (w : List Action) (s : State) (go : State → Result (Told E) Value)
      → Ctx (declaring i xs n V) w → I w s K → Goes K K K1 V go → FineAt K K1 (declaring i xs n V) w (begun (fully A) i xs n go s)
  unfolding begun
  fine_begun i [] n K K1 V w s go c h k = k w s c h
  fine_begun i (x ∷ xs) n K K1 V w s go c h k =
      fine_next K K K K1 (order.ending n x (declaring i xs n V)) w (does i (Declare x)) [] s _ using.declares c h
      (λ u w1 s1 c1 h1. fine_closed K K1 (declaring i xs n V) n x w1 _ c1 (fine_begun i xs n K K1 V w1 s1 go (context_ending Is n x w1 c1) h1 k))

  -- ---- tests

  -- one test of an arm
  fine_test : (a : Action) (vs : List Value) (K0 K : Pending) (K1 : Value → Pending) (U N : Order) (w : List Action) (s : State) (go other : State → Result (Told E) Value) (r : Done E)
      → A.perform a vs s ≡ r → Kept Ok I w a s (λ u. K0) r → ((s1 : State) (v : Value) → Gives a.act s v s1 → (s1 ≡ s) × (b : Bool) × (v ≡ truth b)) → Ctx (Tested a U N) w
      → ((w1 : List Action) → Ctx (order.otherwise U N) w1 → I w1 s K0 → FineAt K K1 (order.otherwise U N) w1 (go s))
      → ((w1 : List Action) (u : List E) → A.perform a vs s ≡ gives u (truth false) s → Ctx N w1 → I w1 s K0 → FineAt K K1 N w1 (other s))
      → FineAt K K1 (Tested a U N) w (bind (result_of (noted a r)) (λ v s1. decided v go other s1))
  unfolding bind result_of noted
  fine_test a vs K0 K K1 U N w s go other (results.ends t e) eq h g c k l = halts (a ∷ []) (one_told a t) (walk.holds tt (walk.both walk.acts walk.rests)) h
  fine_test a vs K0 K K1 U N w s go other (gives t v s1) eq h g c k l = let q = g s1 v h.0 in
      rw (q.0) (rw (q.2) (way q.1 (subst (λ z. A.perform a vs s ≡ gives t z s) q.2 (subst (λ z. A.perform a vs s ≡ gives t v z) q.0 eq)) (subst (λ z. I (w ++ a ∷ []) z K0) q.0 h.1)))
    where
      way : (b : Bool) → A.perform a vs s ≡ gives t (truth b) s → I (w ++ a ∷ []) s K0 → FineAt K K1 (Tested a U N) w (after (did a ∷ saying t) (decided (truth b) go other s))
      way true e j = unfold decided in (fine_after Ok (Leap K) (Good K1) (order.otherwise U N) (Tested a U N) w (a ∷ []) (did a ∷ saying t) _ (one_told a t) (λ v x f. test_holds f)
          (k (w ++ a ∷ []) (λ v x f. subst Is (sym (append_assoc w (a ∷ []) v)) (c (a ∷ v) x (test_holds f))) j))
      way false e j = unfold decided in (fine_after Ok (Leap K) (Good K1) N (Tested a U N) w (a ∷ []) (did a ∷ saying t) _ (one_told a t) (λ v x f. test_fails f)
          (l (w ++ a ∷ []) t e (λ v x f. subst Is (sym (append_assoc w (a ∷ []) v)) (c (a ∷ v) x (test_fails f))) j))

  test_does : (S : Subject) (vs : List Value) (t : PartTest) (K : Pending) → Fits S vs → Does Rs (test_of S t).act vs (holding S vs K) (λ u. holding S vs K)
  test_does _ _ t K of_place = tests
  test_does _ _ t K of_held = tests_held

  fine_stays : (K : Pending) (K1 : Value → Pending) (V N : Order) (w : List Action) (r : Result (Told E) Value) → FineAt K K1 V w r → FineAt K K1 (order.otherwise V N) w r
  fine_stays K K1 V N w _ (goes o e h p) = goes o e (walk.holds tt h) p
  fine_stays K K1 V N w _ (leaps o e h p) = leaps o e (walk.holds tt h) p
  fine_stays K K1 V N w _ (halts o e h p) = halts o e (walk.holds tt h) p

  -- the tests of an arm
  fine_tested : (S : Subject) (vs : List Value) (ts : List PartTest) (K : Pending) (K1 : Value → Pending) (V N : Order) (w : List Action) (s : State) (go other : State → Result (Told E) Value)
      → Fits S vs → Ctx (order.otherwise (testing S ts V) N) w → I w s (holding S vs K)
      → Goes (holding S vs K) K K1 V go
      → ((w1 : List Action) → ArmFails A S vs s ts → Ctx N w1 → I w1 s (holding S vs K) → FineAt K K1 N w1 (other s))
      → FineAt K K1 (order.otherwise (testing S ts V) N) w (tested (fully A) S vs ts go other s)
  unfolding tested
  fine_tested S vs [] K K1 V N w s go other f c i k l = fine_stays K K1 V N w _ (k w s (λ v x h. c v walk.stopped (walk.holds tt (walk.stops h))) i)
  fine_tested S vs (t ∷ ts) K K1 V N w s go other f c i k l =
      fine_test (test_of S t) vs (holding S vs K) K K1 (testing S ts V) N w s _ other (A.perform (test_of S t) vs s) refl
      (law.performs w (test_of S t) vs s (holding S vs K) (λ u. holding S vs K) (test_does S vs t K f) (c (test_of S t ∷ []) walk.stopped (walk.holds tt (walk.both walk.acts walk.rests))) i)
      (λ s1 v g. g) c
      (λ w1 c1 i1. fine_tested S vs ts K K1 V N w1 s go other f c1 i1 k (λ w2 q c2 i2. l w2 (q.0, walk.there q.1, q.2, q.3) c2 i2))
      (λ w1 u e c1 i1. l w1 (t, walk.here, u, e) c1 i1)

  -- ---- turns and loops

  fine_turn : (K : Pending) (K1 : Value → Pending) (V : Order) (w : List Action) (s : State) (go : State → Result (Told E) Value) → Ctx V w → I w s K → Goes K K K1 V go → FineAt K K1 V w (take_turn s go)
  unfolding take_turn
  fine_turn K K1 V w s go c i k = by s.turns refl
    where
      by : (t : ℕ) → s.turns ≡ t → FineAt K K1 V w (turn_at t s go)
      by zero e = halts [] refl walk.rests no_turn
      by (suc t) e = k w (with_turns s t) c (law.turns w s t K e i)

  fine_passed : (l : ℕ) (t d : Temporary) (K : Pending) (V : Order) (w : List Action) (r : Result (Told E) Value) (again : State → Result (Told E) Value) → ((o : List Action) → Walk (order.passes l V) o walk.on → Us d) → Unheld d (ids K) → Ctx (order.passes l V) w
      → FineAt K (λ v. holds t v K) V w r → Goes K K (λ v. holds d v K) (order.passes l V) again → FineAt K (λ v. holds d v K) (order.passes l V) w (passed l r again)
  unfolding passed
  fine_passed l t d K V w _ again f n c (goes {t = u} {a = a} {s = s} o g h p) k =
      fine_after Ok (Leap K) (Good (λ v. holds d v K)) (order.passes l V) (order.passes l V) w o u _ g (λ v x y. walk.more h walk.by_end y)
      (k (w ++ o) s (context_more Is l w o walk.on c h walk.by_end) (law.drops _ s K _ (skips (thin_all K)) p))
  fine_passed l t d K V w _ again f n c (leaps {t = u} {x = returns m} {v = v} {s = s} o g h p) k = leaps o g (walk.last h walk.by_return) p
  fine_passed l t d K V w _ again f n c (leaps {t = u} {x = breaks m j} {v = v} {s = s} o g h p) k = by (nat_eq j l) refl
    where
      by : (b : Bool) → nat_eq j l ≡ b → FineAt K (λ v. holds d v K) (order.passes l V) w (if b then on u unit_value s else jumps u (breaks m j) v s)
      by true e = let last = walk.last h (walk.by_break (eqb-true j l e)) in goes o g last (law.units _ s d K (f o last) n p)
      by false e = leaps o g (walk.last h (walk.by_outer_break (eqb-false j l e))) p
  fine_passed l t d K V w _ again f n c (leaps {t = u} {x = continues m j} {v = v} {s = s} o g h p) k = by (nat_eq j l) refl
    where
      by : (b : Bool) → nat_eq j l ≡ b → FineAt K (λ v. holds d v K) (order.passes l V) w (if b then after u (again s) else jumps u (continues m j) v s)
      by true e = fine_after Ok (Leap K) (Good (λ v. holds d v K)) (order.passes l V) (order.passes l V) w o u _ g (λ v x y. walk.more h (walk.by_continue (eqb-true j l e)) y)
          (k (w ++ o) s (context_more Is l w o (walk.leaves (continues m j)) c h (walk.by_continue (eqb-true j l e))) p)
      by false e = leaps o g (walk.last h (walk.by_outer_continue (eqb-false j l e))) p
  fine_passed l t d K V w _ again f n c (halts o g h p) k = halts o g (walk.last h walk.by_stop) p

  -- ---- either way

  fine_decided : (t : Value) (s0 s : State) (V N : Order) (K0 K : Pending) (Post : List Action → Value → State → Type 0) (w : List Action) (go other : State → Result (Told E) Value)
      → (s ≡ s0) × (b : Bool) × (t ≡ truth b) → Ctx (order.or V N) w → I w s K0
      → ((w1 : List Action) (s1 : State) → Ctx V w1 → I w1 s1 K0 → Follows Ok Post (Leap K) V w1 (go s1)) → ((w1 : List Action) (s1 : State) → Ctx N w1 → I w1 s1 K0 → Follows Ok Post (Leap K) N w1 (other s1))
      → Follows Ok Post (Leap K) (order.or V N) w (decided t go other s)
  fine_decided t s0 s V N K0 K Post w go other q c i k l = rw (q.2) (by q.1)
    where
      by : (b : Bool) → Follows Ok Post (Leap K) (order.or V N) w (decided (truth b) go other s)
      by true = unfold decided in (fine_in Ok (Leap K) Post V (order.or V N) w _ (λ v x h. walk.one h) (k w s (λ v x h. c v x (walk.one h)) i))
      by false = unfold decided in (fine_in Ok (Leap K) Post N (order.or V N) w _ (λ v x h. walk.other h) (l w s (λ v x h. c v x (walk.other h)) i))

  -- ---- calls

  -- a call has come back, or it has ended the run
  data Back (w : List Action) (K : Pending) (d : Temporary) : Result (Told E) Value → Type 0 where
    comes : {t : List (Told E)} {v : Value} {s : State} → acted t ≡ [] → I w s (holds d v K) → Back w K d (on t v s)
    ended : {t : List (Told E)} {e : Ending} → acted t ≡ [] → Ok e → Back w K d (stops t e)

  back_after : (V : Order) (w o : List Action) (K : Pending) (d : Temporary) (t : List (Told E)) (r : Result (Told E) Value) → acted t ≡ o → Walk V o walk.on → Back (w ++ o) K d r → FineAt K (λ v. holds d v K) V w (after t r)
  unfolding after
  back_after V w o K d t _ e h (comes {t = u} g p) = goes o (silent t u o e g) h p
  back_after V w o K d t _ e h (ended {t = u} g x) = halts o (silent t u o e g) (walk.stops h) x

  fine_calling : (w : List Action) (a : Action) (s : State) (K0 K : Pending) (d : Temporary) (r : Done E) (go : Value → State → Result (Told E) Value) → Kept Ok I w a s (λ u. K0) r
      → ((u : Value) (s1 : State) → I (w ++ a ∷ []) s1 K0 → Back (w ++ a ∷ []) K d (go u s1)) → FineAt K (λ v. holds d v K) (order.act a) w (bind (result_of (noted a r)) go)
  unfolding bind result_of noted
  fine_calling w a s K0 K d (gives t u s1) go h k = back_after (order.act a) w (a ∷ []) K d (did a ∷ saying t) _ (one_told a t) walk.acts (k u s1 h.1)
  fine_calling w a s K0 K d (results.ends t e) go h k = halts (a ∷ []) (one_told a t) (walk.stops walk.acts) h

  turn_back : (w : List Action) (K K0 : Pending) (d : Temporary) (s : State) (go : State → Result (Told E) Value) → I w s K0 → ((s1 : State) → I w s1 K0 → Back w K d (go s1)) → Back w K d (take_turn s go)
  unfolding take_turn
  turn_back w K K0 d s go i k = by s.turns refl
    where
      by : (t : ℕ) → s.turns ≡ t → Back w K d (turn_at t s go)
      by zero e = ended refl no_turn
      by (suc t) e = k (with_turns s t) (law.turns w s t K0 e i)

  fine_arguments : (ps : List Parameter) (n : ℕ) (vs : List Value) (K1 : Value → Pending) (V : Order) (w : List Action) (s : State) (go : State → Result (Told E) Value) → ((AsMany ps vs → ⊥) → Ok (wrong mistyped))
      → Ctx (beginning ps n V) w → I w s (arguments ps vs) → Goes [] [] K1 V go → FineAt [] K1 (beginning ps n V) w (with_arguments (fully A) ps n vs go s)
  unfolding with_arguments
  fine_arguments [] n [] K1 V w s go m c i k = k w s c i
  fine_arguments [] n (v ∷ vs) K1 V w s go m c i k = halts [] refl walk.rests (m (λ h. elim h [ ]))
  fine_arguments (p ∷ ps) n [] K1 V w s go m c i k = halts [] refl walk.rests (m (λ h. elim h [ ]))
  fine_arguments (p ∷ ps) n (v ∷ vs) K1 V w s go m c i k =
      let rest = arguments ps vs in let K0 = holds (argument p) v rest in
      fine_next K0 K0 [] K1 (order.then (order.act (does p.node (Write (own p.variable) (argument p) []))) (order.ending n p.variable (beginning ps n V))) w (does p.node (Declare p.variable)) [] s _ using.declares c i (λ u w1 s1 c1 i1.
      fine_next K0 rest [] K1 (order.ending n p.variable (beginning ps n V)) w1 (does p.node (Write (own p.variable) (argument p) [])) (v ∷ []) s1 _ writes c1 i1 (λ z w2 s2 c2 i2.
      fine_closed [] K1 (beginning ps n V) n p.variable w2 _ c2 (fine_arguments ps n vs K1 V w2 s2 go (λ h. m (λ q. h (fewer q))) (context_ending Is n p.variable w2 c2) i2 k)))
    where
      fewer : {p : Parameter} {ps : List Parameter} {v : Value} {vs : List Value} → AsMany (p ∷ ps) (v ∷ vs) → AsMany ps vs
      fewer (one_more m) = m

  -- ---- expressions

  -- the temporaries that get the unit, and the right operands that go on
  abbrev Fills : (Temporary → Type 0) → (Temporary → Type 0) → Type 0
  Fills N R = ((t : Temporary) → N t → Us t) × ((t : Temporary) → R t → Rs t)

  AllFine : (Subject → Arms → Type 0) → Meaning (Told E) → Type 0
  AllFine C low = (e : Exp) (d : Temporary) (w : List Action) (s : State) (K : Pending) → Formed C (ids K) e d → Fills (FillsUnit e d) (HasRight e) → Ctx (order.order e d) w → I w s K → FineAt K (λ v. holds d v K) (order.order e d) w (low e d s)

  Callee : Functions → Meaning (Told E) → Type 0
  Callee P low = (w : List Action) (n g : ℕ) (ts : List Temporary) (d : Temporary) (vs : List Value) (s : State) (K : Pending) → Unheld d (ids K) → Paired ts vs → Is (w ++ does n (Call g ts d) ∷ [])
      → I (w ++ does n (Call g ts d) ∷ []) s (pushes ts vs K) → Back (w ++ does n (Call g ts d) ∷ []) K d (found (element P g) (λ G. take_turn s (λ s1. entered (fully A) low g G vs s1)))

  NoArm : (Subject → Arms → Type 0) → Type 0
  NoArm C = (S : Subject) (l : Arms) (w : List Action) (vs : List Value) (s : State) (K : Pending) → C S l → Fits S vs → I w s (holding S vs K) → AllFail A S vs s l → Ok (wrong missing_arm)

  module _ (P : Functions) (C : Subject → Arms → Type 0) (low : Meaning (Told E)) (all : AllFine C low) (callee : Callee P low) (no_arm_left : NoArm C) where
    mutual
      unfolding value AllFine Callee NoArm

      value_fine : (e : Exp) (d : Temporary) (w : List Action) (s : State) (K : Pending) → Formed C (ids K) e d → Fills (FillsUnit e d) (HasRight e) → Ctx (order.order e d) w → I w s K → FineAt K (λ v. holds d v K) (order.order e d) w (value (fully A) P low e d s)
      value_fine (read m v p) d w s K h fu c i = fine_one w _ [] s K K _ (reads h) c i
      value_fine (borrow m k p) d w s K h fu c i = fine_one w _ [] s K K _ (borrows h) c i
      value_fine (share m e) d w s K h fu c i =
          fine_then Is Ok (Leap K) (Good (λ v. holds (temporary_at m.node 1) v K)) (Good (λ v. holds d v K)) w _ _ c (value_fine e _ w s K h.0 fu (context_first Is w c) i) (λ w1 v s1 c1 i1.
          fine_post Ok (Leap K) (Good (λ u. holds d u K)) (Good (λ u. holds d u (holds (temporary_at m.node 1) v K))) _ w1 _ (λ l u s2 i2. law.drops l s2 _ _ (keeps (skips (thin_all K))) i2)
          (fine_one w1 _ (v ∷ []) s1 K _ _ (borrows_held h.1) c1 i1))
      value_fine (build m y es) d w s K h fu c i =
          fine_then Is Ok (Leap K) (GoodAll (temporaries_of es) K) (Good (λ v. holds d v K)) w _ _ c (values_fine es w s K h.0 fu (context_first Is w c) i)
          (λ w1 vs s1 c1 q. fine_one w1 _ vs s1 K _ _ (builds K q.0 (λ z. as_many_fields es) h.1) c1 q.1)
      value_fine (unit m) d w s K h fu c i = goes [] refl walk.nothing (subst (λ l. I l s (holds d unit_value K)) (sym (append-nil w)) (law.units w s d K (fu.0 d (refl, ([], walk.nothing))) h i))
      value_fine (lazily m b e f) d w s K h fu c i =
          let te = temporary_of e in let tf = temporary_of f in
          fine_then Is Ok (Leap K) (λ l v s1. GoesOn (order.order e te) × I l s1 (holds te v K)) (Good (λ v. holds d v K)) w _ _ c
          (fine_on Ok (Leap K) (Good (λ v. holds te v K)) (order.order e te) w _ (value_fine e te w s K h.0 ((λ t x. fu.0 t (inl x)), (λ t x. fu.1 t (inl x))) (context_first Is w c) i)) (λ w1 v s1 c1 i1.
          fine_then Is Ok (Leap K) (λ l t s2. ((s2 ≡ s1) × (x : Bool) × (t ≡ truth x)) × I l s2 (holds te v K)) (Good (λ v. holds d v K)) w1 _ _ c1
          (fine_act w1 _ (v ∷ []) s1 K (holds te v K) (λ u. holds te v K) (tests_held {ss = []}) (context_first Is w1 c1) i1.1) (λ w2 t s2 c2 q.
          fine_then Is Ok (Leap K) (λ l y s3. (x : Temporary) × Taken Rs te tf x × I l s3 (holds x y K)) (Good (λ v. holds d v K)) w2 _ _ c2
          (fine_decided t s1 s2 (order.order f tf) order.nothing (holds te v K) K _ w2 _ _ q.0 (context_first Is w2 c2) q.1
          (λ w3 s3 c3 i3. fine_post Ok (Leap K) _ (λ l y s4. GoesOn (order.order f tf) × I l s4 (holds tf y K)) _ w3 _ (λ l y s4 i4. (tf, using.right (fu.1 tf (inr (i1.0, inl (refl, i4.0)))), i4.1))
          (fine_on Ok (Leap K) (Good (λ y. holds tf y K)) (order.order f tf) w3 _
          (value_fine f tf w3 s3 K h.1 ((λ t x. fu.0 t (inr (i1.0, x))), (λ t x. fu.1 t (inr (i1.0, inr x)))) c3 (law.drops w3 s3 _ _ (skips (thin_all K)) i3))))
          (λ w3 s3 c3 i3. goes [] refl walk.nothing (te, using.left, subst (λ l. I l s3 (holds te v K)) (sym (append-nil w3)) i3)))
          (λ w4 y s4 c4 r. fine_one w4 _ (y ∷ []) s4 K (holds r.0 y K) _ (joins r.1 h.2) c4 r.2)))
      value_fine (assign m p e) d w s K h fu c i =
          fine_fill d K (order.order (assign m p e) d) w _ (λ o x. fu.0 d (inr (refl, (o, x)))) h.1
          (fine_then Is Ok (Leap K) (Good (λ v. holds (temporary_of e) v K)) (GivesUnit K) w _ _ c (value_fine e _ w s K h.0 ((λ t x. fu.0 t (inl x)), fu.1) (context_first Is w c) i)
          (λ w1 v s1 c1 i1. fine_unit w1 _ (v ∷ []) s1 K _ writes (λ u s2 g. g) c1 i1))
      value_fine (update m o p e) d w s K h fu c i =
          let te = temporary_of e in let t1 = temporary_at m.node 1 in let t2 = temporary_at m.node 2 in
          fine_fill d K (order.order (update m o p e) d) w _ (λ v x. fu.0 d (inr (refl, (v, x)))) h.3
          (fine_then Is Ok (Leap K) (Good (λ v. holds te v K)) (GivesUnit K) w _ _ c (value_fine e te w s K h.0 ((λ t x. fu.0 t (inl x)), fu.1) (context_first Is w c) i) (λ w1 v s1 c1 i1.
          fine_then Is Ok (Leap K) (Good (λ u. holds t1 u (holds te v K))) (GivesUnit K) w1 _ _ c1 (fine_one w1 _ [] s1 K (holds te v K) _ (reads h.1) (context_first Is w1 c1) i1) (λ w2 u s2 c2 i2.
          fine_then Is Ok (Leap K) (Good (λ y. holds t2 y K)) (GivesUnit K) w2 _ _ c2
          (fine_one w2 _ (u ∷ v ∷ []) s2 K _ _ (builds K (pair_and (pair_and no_pair)) (λ z. absurd (cc)) h.2) (context_first Is w2 c2) (law.drops w2 s2 _ _ (swaps (thin_all K)) i2)) (λ w3 y s3 c3 i3.
          fine_unit w3 _ (y ∷ []) s3 K _ writes (λ z s4 g. g) c3 i3))))
      value_fine (call m g es) d w s K h fu c i =
          fine_then Is Ok (Leap K) (GoodAll (temporaries_of es) K) (Good (λ v. holds d v K)) w _ _ c (values_fine es w s K h.0 fu (context_first Is w c) i) (λ w1 vs s1 c1 q.
          let a = at_mark m (Call g (temporaries_of es) d) in let K0 = pushes (temporaries_of es) vs K in
          fine_calling w1 a s1 K0 K d _ _ (law.performs w1 a vs s1 K0 (λ u. K0) (using.calls K q.0 h.1) (c1 (a ∷ []) walk.on walk.acts) q.1)
          (λ u s2 i2. callee w1 m.node g (temporaries_of es) d vs s2 K h.1 q.0 (c1 (a ∷ []) walk.on walk.acts) i2))
      value_fine (input m) d w s K h fu c i = fine_one w _ [] s K K _ (inputs h) c i
      value_fine (print m e) d w s K h fu c i =
          fine_fill d K (order.order (print m e) d) w _ (λ o x. fu.0 d (inr (refl, (o, x)))) h.1
          (fine_then Is Ok (Leap K) (Good (λ v. holds (temporary_of e) v K)) (GivesUnit K) w _ _ c (value_fine e _ w s K h.0 ((λ t x. fu.0 t (inl x)), fu.1) (context_first Is w c) i)
          (λ w1 v s1 c1 i1. fine_unit w1 _ (v ∷ []) s1 K _ prints (λ u s2 g. g) c1 i1))
      value_fine (block m b) d w s K h fu c i = body_fine b m.node d w s K h fu c i
      value_fine (choose m x l) d w s K h fu c i =
          fine_then Is Ok (Leap K) (λ l1 vs s1. GoesOn (order_scrutinee x) × (Fits (subject x) vs × I l1 s1 (holding (subject x) vs K))) (Good (λ v. holds d v K)) w _ _ c
          (fine_on Ok (Leap K) (λ l1 vs s1. Fits (subject x) vs × I l1 s1 (holding (subject x) vs K)) (order_scrutinee x) w _ (matched_fine x w s K h.0 ((λ t x. fu.0 t (inl x)), (λ t x. fu.1 t (inl x))) (context_first Is w c) i))
          (λ w1 vs s1 c1 g. let q = g.1 in arms_fine (subject x) vs l d w1 s1 K q.0 h.2 ((λ t x. fu.0 t (inr (g.0, x))), (λ t x. fu.1 t (inr (g.0, x)))) c1 q.1 (λ f. no_arm_left (subject x) l w1 vs s1 K h.1 q.0 q.1 f))
      value_fine (loop m l e) d w s K h fu c i =
          fine_turn K (λ v. holds d v K) (order.passes l (order.order e (temporary_of e))) w s _ c i (λ w1 s1 c1 i1.
          fine_passed l (temporary_of e) d K _ w1 _ _ (λ o x. fu.0 d (inr (refl, (o, x)))) h.1 c1 (all e (temporary_of e) w1 s1 K h.0 ((λ t x. fu.0 t (inl x)), fu.1) (context_pass Is l w1 c1) i1) (λ w2 s2 c2 i2. all (loop m l e) d w2 s2 K h fu c2 i2))
      value_fine (jump m l true) d w s K h fu c i = leaps [] refl walk.leave (subst (λ u. I u s K) (sym (append-nil w)) i)
      value_fine (jump m l false) d w s K h fu c i = leaps [] refl walk.leave (subst (λ u. I u s K) (sym (append-nil w)) i)
      value_fine (give m e) d w s K h fu c i =
          fine_then Is Ok (Leap K) (Good (λ v. holds (temporary_of e) v K)) (Good (λ v. holds d v K)) w _ _ c (value_fine e _ w s K h fu (context_first Is w c) i) (λ w1 v s1 c1 i1.
          fine_then Is Ok (Leap K) (λ l u s2. I l s2 ((None, u) ∷ K)) (Good (λ v. holds d v K)) w1 _ _ c1 (fine_one w1 _ (v ∷ []) s1 K _ _ gives_up (context_first Is w1 c1) i1)
          (λ w2 u s2 c2 i2. leaps [] refl walk.leave (subst (λ l. I l s2 ((None, u) ∷ K)) (sym (append-nil w2)) i2)))

      values_fine : (es : Operands) (w : List Action) (s : State) (K : Pending) → FormedAll C (ids K) es → Fills (OperandsFill es) (OperandsHaveRight es) → Ctx (order_all es) w → I w s K → Follows Ok (GoodAll (temporaries_of es) K) (Leap K) (order_all es) w (values (fully A) P low es s)
      values_fine no_operand w s K h fu c i = goes [] refl walk.nothing (no_pair, subst (λ l. I l s K) (sym (append-nil w)) i)
      values_fine (operand_and j e es) w s K h fu c i =
          let te = temporary_of e in
          fine_then Is Ok (Leap K) (λ l v s1. GoesOn (order.order e te) × I l s1 (holds te v K)) (GoodAll (te ∷ temporaries_of es) K) w _ _ c
          (fine_on Ok (Leap K) (Good (λ v. holds te v K)) (order.order e te) w _ (value_fine e te w s K h.0 ((λ t x. fu.0 t (inl x)), (λ t x. fu.1 t (inl x))) (context_first Is w c) i)) (λ w1 v s1 c1 i1.
          fine_map Ok (Leap K) (GoodAll (temporaries_of es) (holds te v K)) (GoodAll (te ∷ temporaries_of es) K) (order_all es) w1 (λ vs. v ∷ vs) _ (λ l vs s2 q. (pair_and q.0, q.1))
          (fine_drop K (holds te v K) (GoodAll (temporaries_of es) (holds te v K)) (order_all es) w1 _ (skips (thin_all K)) (values_fine es w1 s1 (holds te v K) h.1 ((λ t x. fu.0 t (inr (i1.0, x))), (λ t x. fu.1 t (inr (i1.0, x)))) c1 i1.1)))

      matched_fine : (x : Scrutinee) (w : List Action) (s : State) (K : Pending) → FormedScrutinee C (ids K) x → Fills (ScrutineeFills x) (ScrutineeHasRight x) → Ctx (order_scrutinee x) w → I w s K
          → Follows Ok (λ l vs s1. Fits (subject x) vs × I l s1 (holding (subject x) vs K)) (Leap K) (order_scrutinee x) w (matched (fully A) P low x s)
      matched_fine (at_place m p) w s K h fu c i = goes [] refl walk.nothing (of_place, subst (λ l. I l s K) (sym (append-nil w)) i)
      matched_fine (of_value e) w s K h fu c i = fine_map Ok (Leap K) (Good (λ v. holds (temporary_of e) v K)) _ _ w (λ v. v ∷ []) _ (λ l v s1 q. (of_held, q)) (value_fine e _ w s K h fu c i)

      arms_fine : (S : Subject) (vs : List Value) (l : Arms) (d : Temporary) (w : List Action) (s : State) (K : Pending) → Fits S vs → FormedArms C (ids K) S l d → Fills (ArmsFill l d) (ArmsHaveRight l) → Ctx (order_arms S l d) w → I w s (holding S vs K)
          → (AllFail A S vs s l → Ok (wrong missing_arm)) → FineAt K (λ v. holds d v K) (order_arms S l d) w (arms (fully A) P low S vs l d s)
      arms_fine S vs no_arm d w s K f h fu c i k = halts [] refl walk.rests (k tt)
      arms_fine S vs (arm_and p e rest) d w s K f h fu c i k =
          fine_tested S vs (matching.tests [] p) K (λ v. holds d v K) (binding S (bindings [] p) (mark_of e).node (order.order e d)) (order_arms S rest d) w s _ _ f c i
          (λ w1 s1 c1 i1. fine_bound S vs (bindings [] p) (mark_of e).node K (λ v. holds d v K) (order.order e d) w1 s1 _ f h.0 c1 i1 (λ w2 s2 c2 i2. value_fine e d w2 s2 K h.1 ((λ t x. fu.0 t (inl x)), (λ t x. fu.1 t (inl x))) c2 i2))
          (λ w1 q c1 i1. arms_fine S vs rest d w1 s K f h.2 ((λ t x. fu.0 t (inr x)), (λ t x. fu.1 t (inr x))) c1 i1 (λ r. k (q, r)))

      body_fine : (b : Body) (n : ℕ) (d : Temporary) (w : List Action) (s : State) (K : Pending) → FormedBody C (ids K) b d → Fills (BodyFills b d) (BodyHasRight b) → Ctx (order_body b n d) w → I w s K → FineAt K (λ v. holds d v K) (order_body b n d) w (body (fully A) P low b n d s)
      body_fine (ends e) n d w s K h fu c i = value_fine e d w s K h fu c i
      body_fine (runs e rest) n d w s K h fu c i =
          fine_then Is Ok (Leap K) (λ l v s1. GoesOn (order.order e (temporary_of e)) × I l s1 (holds (temporary_of e) v K)) (Good (λ v. holds d v K)) w _ _ c
          (fine_on Ok (Leap K) (Good (λ v. holds (temporary_of e) v K)) (order.order e (temporary_of e)) w _ (value_fine e _ w s K h.0 ((λ t x. fu.0 t (inl x)), (λ t x. fu.1 t (inl x))) (context_first Is w c) i))
          (λ w1 v s1 c1 i1. body_fine rest n d w1 s1 K h.1 ((λ t x. fu.0 t (inr (i1.0, x))), (λ t x. fu.1 t (inr (i1.0, x)))) c1 (law.drops w1 s1 _ _ (skips (thin_all K)) i1.1))
      body_fine (tree.declares j xs rest) n d w s K h fu c i = fine_begun j xs n K (λ v. holds d v K) (order_body rest n d) w s _ c i (λ w1 s1 c1 i1. body_fine rest n d w1 s1 K h fu c1 i1)
      body_fine (lets j p x rest) n d w s K h fu c i =
          fine_then Is Ok (Leap K) (λ l1 vs s1. GoesOn (order_scrutinee x) × (Fits (subject x) vs × I l1 s1 (holding (subject x) vs K))) (Good (λ v. holds d v K)) w _ _ c
          (fine_on Ok (Leap K) (λ l1 vs s1. Fits (subject x) vs × I l1 s1 (holding (subject x) vs K)) (order_scrutinee x) w _ (matched_fine x w s K h.0 ((λ t x. fu.0 t (inl x)), (λ t x. fu.1 t (inl x))) (context_first Is w c) i))
          (λ w1 vs s1 c1 g. let q = g.1 in
          fine_bound (subject x) vs (bindings [] p) n K (λ v. holds d v K) (order_body rest n d) w1 s1 _ q.0 h.1 c1 q.1 (λ w2 s2 c2 i2. body_fine rest n d w2 s2 K h.2 ((λ t x. fu.0 t (inr (g.0, x))), (λ t x. fu.1 t (inr (g.0, x)))) c2 i2))

-- ---- programs

whole_context : (F : Function) → Context (IsWalk F) (order_function F) []
whole_context F v x h = ([], x, subst (λ l. Walk (order_function F) l x) (sym (append-nil v)) h)

abbrev IsNone : Option (Option Function) → Type 0
IsNone (Some (Some G)) = ⊥
IsNone _ = Unit {0}

differs : {x : Option (Option Function)} (y : Option (Option Function)) (G : Function) → x ≡ y → x ≡ Some (Some G) → IsNone y → ⊥
differs y G p q h = subst IsNone q (subst IsNone (sym p) h)

module _ {E : Type 0} (A : Acting E) (Ok : Ending → Type 0) (P : Functions) (C : ℕ → Subject → Arms → Type 0) (W : Type 0) (I : ℕ → W → Invariant) (laws : Laws A Ok P C W I) (formed : AllFormed P C) where
  AllLow : Meaning (Told E) → Type 0
  AllLow low = (f : ℕ) (F : Function) (q : IsFunction P f F) (k : W) (e : Exp) (d : Temporary) (w : List Action) (s : State) (K : Pending) → Formed (C f) (ids K) e d → ((t : Temporary) → FillsUnit e d t → IsUnitOf F t) × ((t : Temporary) → HasRight e t → IsRightOf F t) → Context (IsWalk F) (order.order e d) w → I f k w s K
      → Follows Ok (λ l v s1. I f k l s1 (holds d v K)) (λ l x v s1. I f k l s1 (landing x v K)) (order.order e d) w (low e d s)

  -- what an activation does
  abbrev pub Activated : ℕ → Function → W → Result (Told E) Value → Type 0
  Activated f F k r = Follows Ok (λ l v s1. I f k l s1 (holds (temporary_of F.body) v [])) (λ l x v s1. I f k l s1 (landing x v [])) (order_function F) [] r

  activation_fine : (low : Meaning (Told E)) → AllLow low → (f : ℕ) (F : Function) (q : IsFunction P f F) (k : W) (vs : List Value) (s : State) → ((AsMany F.params vs → ⊥) → Ok (wrong mistyped)) → I f k [] s (arguments F.params vs) → Activated f F k (activation (fully A) low F vs s)
  unfolding AllLow
  activation_fine low all f F q k vs s m i =
      fine_arguments A Ok (IsWalk F) (IsUnitOf F) (IsRightOf F) (I f k) (laws.steps f F q k) laws.runs_on F.params (mark_of F.body).node vs (λ v. holds (temporary_of F.body) v []) (order.order F.body (temporary_of F.body)) [] s _ m (whole_context F) i
      (λ w1 s1 c1 i1. all f F q k F.body (temporary_of F.body) w1 s1 [] (formed f F q) ((λ t x. x), (λ t x. x)) c1 i1)

  -- a call: it comes back with what the body gave, or it has ended the run; the actions of the callee are not told
  pub data Comes (f : ℕ) (F : Function) (k : W) (G : Frame) : Result (Told E) Value → Type 0 where
    answers : {t : List (Told E)} {v : Value} (s : State) (o : List Action) (m : ℕ) → acted t ≡ [] → Walk (order_function F) o (walk.leaves (returns m)) → I f k o s ((None, v) ∷ []) → Comes f F k G (on t v (record s { frame = G }))
    ends_all : {t : List (Told E)} {e : Ending} → acted t ≡ [] → Ok e → Comes f F k G (stops t e)

  returned_comes : (f : ℕ) (F : Function) (q : IsFunction P f F) (k : W) (G : Frame) (r : Result (Told E) Value) → Activated f F k r → Comes f F k G (returned (fully A) G r)
  unfolding returned
  returned_comes f F q k G _ (goes {t = t} o g h p) = ends_all (sym (acted_saying (A.inner (said t)))) (laws.no_answer f F q o walk.on h tt)
  returned_comes f F q k G _ (leaps {t = t} {x = returns m} {s = s} o g h p) = answers s o m (sym (acted_saying (A.inner (said t)))) h p
  returned_comes f F q k G _ (leaps {t = t} {x = breaks m l} o g h p) = ends_all (sym (acted_saying (A.inner (said t)))) (laws.no_answer f F q o _ h tt)
  returned_comes f F q k G _ (leaps {t = t} {x = continues m l} o g h p) = ends_all (sym (acted_saying (A.inner (said t)))) (laws.no_answer f F q o _ h tt)
  returned_comes f F q k G _ (halts {t = t} o g h e) = ends_all (sym (acted_saying (A.inner (said t)))) e

  callee_fine : (low : Meaning (Told E)) → AllLow low → (f : ℕ) (F : Function) (q : IsFunction P f F) (k : W) → Callee A Ok (IsWalk F) (IsUnitOf F) (IsRightOf F) (I f k) (laws.steps f F q k) laws.runs_on P low
  unfolding Callee
  callee_fine low all f F q k w n g ts d vs s K u pr is i = by (element P g) refl
    where
      Answer : Result (Told E) Value → Type 0
      Answer r = Back A Ok (IsWalk F) (IsUnitOf F) (IsRightOf F) (I f k) (laws.steps f F q k) laws.runs_on (w ++ does n (Call g ts d) ∷ []) K d r

      at : (s1 : State) → I f k (w ++ does n (Call g ts d) ∷ []) s1 (pushes ts vs K) → Calling P I f F k w n g ts d vs s1 K
      at s1 i1 = record { caller = q; fills = u; arguments = pr; begins = is; kept = i1 }

      lost : ((G : Function) → IsFunction P g G → ⊥) → Ok (wrong missing_function)
      lost h = laws.no_callee f F k w n g ts d vs s K (at s i) h

      back : (G : Function) (s1 : State) (k1 : W) → ((o : List Action) (m1 : ℕ) (s2 : State) (v : Value) → Walk (order_function G) o (walk.leaves (returns m1)) → I g k1 o s2 ((None, v) ∷ [])
          → I f k (w ++ does n (Call g ts d) ∷ []) (record s2 { frame = s1.frame }) (holds d v K)) → (r : Result (Told E) Value) → Comes g G k1 s1.frame r → Answer r
      back G s1 k1 ret _ (answers s2 o m1 g h p) = comes g (ret o m1 s2 _ h p)
      back G s1 k1 ret _ (ends_all g e1) = ended g e1

      come : (G : Function) (e : IsFunction P g G) → (s1 : State) → I f k (w ++ does n (Call g ts d) ∷ []) s1 (pushes ts vs K) → Answer (entered (fully A) low g G vs s1)
      come G e s1 i1 = let c = at s1 i1 in let r = laws.enters f F k w n g ts d vs s1 K c G e in
          back G s1 r.0 r.2 _ (returned_comes g G e r.0 s1.frame _ (activation_fine low all g G e r.0 vs (record s1 { frame = new_frame g }) (laws.not_as_many f F k w n g ts d vs s1 K c G e) r.1))

      by : (o : Option (Option Function)) → element P g ≡ o → Answer (found o (λ G. take_turn s (λ s1. entered (fully A) low g G vs s1)))
      by None e = ended refl (lost (λ G e1. absurd (differs None G e e1 tt)))
      by (Some None) e = ended refl (lost (λ G e1. absurd (differs (Some None) G e e1 tt)))
      by (Some (Some G)) e = turn_back A Ok (IsWalk F) (IsUnitOf F) (IsRightOf F) (I f k) (laws.steps f F q k) laws.runs_on (w ++ does n (Call g ts d) ∷ []) K (pushes ts vs K) d s _ i (λ s1 i1. come G e s1 i1)

  levels_fine : (n : ℕ) → AllLow (below_level (fully A) P n)
  unfolding below_level AllLow AllFine NoArm
  levels_fine zero f F q k e d w s K h fu c i = halts [] refl walk.rests laws.runs_on
  levels_fine (suc n) f F q k e d w s K h fu c i =
      value_fine A Ok (IsWalk F) (IsUnitOf F) (IsRightOf F) (I f k) (laws.steps f F q k) laws.runs_on P (C f) (below_level (fully A) P n) (λ e1 d1 w1 s1 K0. levels_fine n f F q k e1 d1 w1 s1 K0)
      (callee_fine (below_level (fully A) P n) (levels_fine n) f F q k) (no_arm f F q k) e d w s K h fu c i
    where
      no_arm : (f : ℕ) (F : Function) (q : IsFunction P f F) (k : W) → NoArm A Ok (IsWalk F) (IsUnitOf F) (IsRightOf F) (I f k) (laws.steps f F q k) laws.runs_on (C f)
      no_arm f F q k = laws.no_arm_left f F q k

  -- What each action keeps, an activation keeps: the actions that it tells are a walk, and it ends the run as is said alone.
  pub activations_keep : (n f : ℕ) (F : Function) (q : IsFunction P f F) (k : W) (vs : List Value) (s : State) → ((AsMany F.params vs → ⊥) → Ok (wrong mistyped)) → I f k [] s (arguments F.params vs)
      → Activated f F k (activation (fully A) (below_level (fully A) P n) F vs s)
  activations_keep n f F q k vs s m i = activation_fine (below_level (fully A) P n) (levels_fine n) f F q k vs s m i

  -- a call of a function, as of `main`
  pub calls_keep : (n f : ℕ) (F : Function) (q : IsFunction P f F) (k : W) (vs : List Value) (s : State) → ((AsMany F.params vs → ⊥) → Ok (wrong mistyped))
      → ((t : ℕ) → s.turns ≡ suc t → I f k [] (record s { turns = t; frame = new_frame f }) (arguments F.params vs)) → Comes f F k s.frame (called (fully A) P n f vs s)
  unfolding take_turn
  calls_keep n f F q k vs s m i = rw (q) (by s.turns refl)
    where
      by : (t : ℕ) → s.turns ≡ t → Comes f F k s.frame (turn_at t s (λ s1. entered (fully A) (below_level (fully A) P n) f F vs s1))
      by zero e = ends_all refl laws.runs_on
      by (suc t) e = returned_comes f F q k s.frame _ (activations_keep n f F q k vs (record s { turns = t; frame = new_frame f }) m (i t e))
