-- What the arms of the match over the exits do: parts of the value are received in variables, which are read once; these end behind the arm.
use Rattle.std.proofs.Common.{◌≡◌, inl, inr, ℕ, Bool, List, [], ◌∷◌, ◌++◌, map, Some, refl, sym, subst}
use Rattle.rx_core.specs.declared.types.Step.{Step}
use Rattle.rx_core.specs.declared.types.Step.TheVariants as step
use Rattle.rx_typed.specs.Tree as tree
use Rattle.rx_typed.specs.Tree.{Temporary, Exp, Operands, Subpatterns, own, temporary_at, temporaries_of, fields_of}
use Rattle.rx_lower_walks.specs.Matching.{Binding, bindings_in, tests_in}
use Rattle.rx_lower_walks.specs.Actions.{Declare, Dead, Read, Write, Build, Action, does, at_mark, in_temporary}
use Rattle.rx_lower_walks.specs.Orders.{order, order_all}
use Rattle.rx_lower_walks.specs.Walks.{Out, on, leaves, fails, stopped, Among, here, there}
use Rattle.rx_exits_plan.specs.Points as point
use Rattle.rx_exits_plan.specs.Plan.{Plan}
use Rattle.rx_engine_simulation.specs.Sights.{In, Sight, Renaming, sight_of, IsNew}
use Rattle.rx_engine_simulation.specs.Packing as packing
use Rattle.rx_engine_simulation.specs.Packing.{AreNew, bare, Gives, gives_unit, gives_empty, gives_one, gives_tuple, TakesAll, takes_none, takes_and, takes_read, receives_none, receives_and}
use Rattle.rx_engine_initial.specs.Variables.{Sides, KnownVariables}
use Rattle.rx_engine_initial.specs.Copies.{easy_build}
use Rattle.rx_engine_initial.specs.Fates.{AllLeave, LeavesBe}
use Rattle.rx_engine_initial.specs.Handing.{by_read, Straight, no_action, one_action, in_sequence}
use Rattle.rx_engine_initial.specs.Matching.{dead}
use Rattle.rx_engine_initial.proofs.Tracing.{joined}
use Rattle.rx_engine_initial_calls.specs.Received.{Receives, no_more, receives_one, takes_one, assigns_one, begins_one, ends_one, does_one}
use Rattle.rx_engine_initial_forms.specs.Agreeing.{Agrees}
use Rattle.rx_engine_initial_related.proofs.Scope.{AllSlots, new_here}
use Rattle.rx_engine_initial_related.proofs.Acts.{Bound, bound_none, bound_and}
use Rattle.rx_engine_initial_related.proofs.Arguments.{one_more_leaves, read_leaves}
use Rattle.rx_engine_initial_related.proofs.Coming.{both_leave, none_left}
use Rattle.rx_engine_initial_related.proofs.Receiving.{Sub}
use Rattle.rx_engine_initial_related.proofs.Singles.{deads}
use Rattle.rx_engine_initial_related.proofs.AroundIt.{NewEnds, no_end, one_end}

pub nothing_tested : {i : ℕ} {qs : List ℕ} {ps : Subpatterns} → packing.Receives i qs ps → (at : List Step) → tests_in at ps ≡ []
nothing_tested receives_none at = refl
nothing_tested (receives_and p) at = nothing_tested p at

-- what is left as it is of all in scope
abbrev pub LeavesAll : Renaming → List Action → Type 0
LeavesAll R us = (x : ℕ) (s : Sight) → sight_of R x ≡ Some s → AllLeave us s.to

pub leaves_both : (R : Renaming) (us vs : List Action) → LeavesAll R us → LeavesAll R vs → LeavesAll R (us ++ vs)
leaves_both R us vs f g x s h = both_leave us vs s.to (f x s h) (g x s h)

pub leaves_nothing : (R : Renaming) → LeavesAll R []
leaves_nothing R x s h = none_left s.to

pub leaves_more : (R : Renaming) (a : Action) (us : List Action) → ((x : ℕ) (s : Sight) → sight_of R x ≡ Some s → LeavesBe a.act s.to) → LeavesAll R us → LeavesAll R (a ∷ us)
leaves_more R a us f g x s h = one_more_leaves a us s.to (f x s h) (g x s h)

module _ (S : Sides) (k : Plan) (e : point.Exit) (R : Renaming) (K : KnownVariables S) (g : Agrees S R K) (all : AllSlots R) where
  -- ---- what ends

  pub ends_then : {us : List Action} (rest : List Action) (ys : List ℕ) → NewEnds K.variables us → ((hs : List ℕ) → Receives S k e K hs ys rest) → (hs : List ℕ) → Receives S k e K hs ys (us ++ rest)
  ends_then rest ys no_end f hs = f hs
  ends_then rest ys (one_end n h) f hs = ends_one {gs = []} n (λ z i. elim i [ ]) (ends_then rest ys h f [])

  dead_ends : (n x : ℕ) (o : Out) → IsNew R x → NewEnds K.variables (dead n x o)
  dead_ends n x on h = one_end (new_here S R K g all x h) no_end
  dead_ends n x (leaves j) h = one_end (new_here S R K g all x h) no_end
  dead_ends n x fails h = no_end
  dead_ends n x stopped h = no_end

  dead_leaves : (n x : ℕ) (o : Out) → IsNew R x → LeavesAll R (dead n x o)
  dead_leaves n x on h = leaves_more R (does n (Dead x)) [] (λ z s q w. h z s q (sym w)) (leaves_nothing R)
  dead_leaves n x (leaves j) h = leaves_more R _ [] (λ z s q w. h z s q (sym w)) (leaves_nothing R)
  dead_leaves n x fails h = leaves_nothing R
  dead_leaves n x stopped h = leaves_nothing R

  ends_both : {vs us : List Action} → NewEnds K.variables us → NewEnds K.variables vs → NewEnds K.variables (us ++ vs)
  ends_both no_end k = k
  ends_both (one_end n h) k = one_end n (ends_both h k)

  pub deads_end : (n : ℕ) (bs : List Binding) (o : Out) → ((x : ℕ) → Among x (map (λ (b : Binding). b.variable) bs) → IsNew R x) → NewEnds K.variables (deads n bs o)
  deads_end n [] o f = no_end
  deads_end n (b ∷ bs) o f = ends_both (deads_end n bs o (λ x i. f x (there i))) (dead_ends n b.variable o (f b.variable here))

  pub deads_leave : (n : ℕ) (bs : List Binding) (o : Out) → ((x : ℕ) → Among x (map (λ (b : Binding). b.variable) bs) → IsNew R x) → LeavesAll R (deads n bs o)
  deads_leave n [] o f = leaves_nothing R
  deads_leave n (b ∷ bs) o f = leaves_both R (deads n bs o) (dead n b.variable o) (deads_leave n bs o (λ x i. f x (there i))) (dead_leaves n b.variable o (f b.variable here))

  -- ---- parts in variables that stand for none

  pub record Parts (t : Temporary) (at : List Step) (ps : Subpatterns) (qs : List ℕ) : Type 0 where
    pub actions : List Action
    pub bound : Bound (in_temporary t) (bindings_in at ps) actions
    pub leave : LeavesAll R actions
    pub new : (x : ℕ) → Among x (map (λ (b : Binding). b.variable) (bindings_in at ps)) → IsNew R x
    pub receives : (rest : List Action) (ys hs : List ℕ) → ((gs : List ℕ) → Sub qs gs → Sub hs gs → Receives S k e K gs ys rest) → Receives S k e K hs ys (actions ++ rest)

  no_parts : (t : Temporary) (at : List Step) → Parts t at tree.no_part []
  no_parts t at = record { actions = []; bound = bound_none; leave = leaves_nothing R; new = λ x i. elim i [ ]; receives = λ rest ys hs f. f hs (λ z i. elim i [ ]) (λ z i. i) }

  one_part : (t : Temporary) (at : List Step) (i b q : ℕ) (mutable : Bool) (ps : Subpatterns) (qs : List ℕ) → IsNew R q → Parts t at ps qs → Parts t at (tree.part_and i (tree.bind b q (tree.by_value mutable)) ps) (q ∷ qs)
  one_part t at i b q mutable ps qs n r = record {
    actions = does b (Declare q) ∷ does b (Write (own q) t (at ++ step.Field i ∷ [])) ∷ r.actions;
    bound = bound_and refl r.bound;
    leave = leaves_more R (does b (Declare q)) _ (λ x s h w. n x s h (sym w)) (leaves_more R (does b (Write (own q) t (at ++ step.Field i ∷ []))) r.actions (λ x s h w. n x s h (sym w)) r.leave);
    new = λ x j. newly x j;
    receives = λ rest ys hs f. receives_one (new_here S R K g all q n) (r.receives rest ys (q ∷ hs) (λ gs a c. f gs (λ z j. subset gs (c q here) a z j) (λ z j. c z (there j))));
  }
    where
      newly : (x : ℕ) → Among x (q ∷ map (λ (c : Binding). c.variable) (bindings_in at ps)) → IsNew R x
      newly _ here = n
      newly x (there j) = r.new x j

      subset : (gs : List ℕ) → Among q gs → Sub qs gs → (z : ℕ) → Among z (q ∷ qs) → Among z gs
      subset gs c a _ here = c
      subset gs c a z (there j) = a z j

  pub parts_of : {i : ℕ} {qs : List ℕ} {ps : Subpatterns} → packing.Receives i qs ps → AreNew R qs → (t : Temporary) (at : List Step) → Parts t at ps qs
  parts_of receives_none n t at = no_parts t at
  parts_of {i = i} (receives_and {k = b} {q = q} {mutable = m} {qs = qs} {ps = ps} p) n t at = one_part t at i b q m ps qs n.0 (parts_of p n.2 t at)

  -- ---- what is given of them

  pub record Given (qs : List ℕ) (v : Exp) (d : Temporary) : Type 0 where
    pub actions : List Action
    pub straight : Straight (order v d) actions
    pub leave : LeavesAll R actions
    pub receives : (rest : List Action) (ys hs : List ℕ) → Sub qs hs → ((gs : List ℕ) → Receives S k e K gs ys rest) → Receives S k e K hs ys (actions ++ rest)

  record AllTaken (qs : List ℕ) (es : Operands) : Type 0 where
    actions : List Action
    straight : Straight (order_all es) actions
    leave : LeavesAll R actions
    receives : (rest : List Action) (ys hs : List ℕ) → Sub qs hs → ((gs : List ℕ) → Receives S k e K gs ys rest) → Receives S k e K hs ys (actions ++ rest)

  read_new : (q : ℕ) (v : Bool) (d : Temporary) → IsNew R q → (x : ℕ) (s : Sight) → sight_of R x ≡ Some s → LeavesBe (Read v (own q) d) s.to
  read_new q v d n x s h = read_leaves v q s.to d (λ (w : q ≡ s.to). n x s h (sym w))

  in_to : (q : ℕ) (qs : List ℕ) → Among q qs → In q qs
  in_to q _ here = inl refl
  in_to q (z ∷ qs) (there i) = inr (in_to q qs i)

  one_taken : (i q : ℕ) (m : tree.Mark) (v : Bool) (qs : List ℕ) (es : Operands) → IsNew R q → (In q qs → ⊥) → AllTaken qs es → AllTaken (q ∷ qs) (tree.operand_and i (tree.read m v (own q)) es)
  one_taken i q m v qs es n apart r = record {
    actions = at_mark m (Read v (own q) (temporary_at m.node 0)) ∷ r.actions;
    straight = in_sequence one_action r.straight;
    leave = leaves_more R (at_mark m (Read v (own q) (temporary_at m.node 0))) r.actions (read_new q v (temporary_at m.node 0) n) r.leave;
    receives = λ rest ys hs s f. takes_one {gs = qs} by_read (s q here) (λ z j. (s z (there j), λ (w : q ≡ z). apart (in_to q qs (subst (λ u. Among u qs) (sym w) j)))) (r.receives rest ys qs (λ z j. j) f);
  }

  all_taken : {i : ℕ} {qs : List ℕ} {es : Operands} → TakesAll i qs es → AreNew R qs → AllTaken qs es
  all_taken takes_none n = record { actions = []; straight = no_action; leave = leaves_nothing R; receives = λ rest ys hs s f. f hs }
  all_taken {i = i} (takes_and {q = q} {qs = qs} {es = es} (takes_read {m = m} {moves = v}) t) n = one_taken i q m v qs es n.0 n.1 (all_taken t n.2)

  pub given_of : {qs : List ℕ} {v : Exp} → Gives bare qs v → AreNew R qs → (d : Temporary) → Given qs v d
  given_of gives_unit n d = record { actions = []; straight = no_action; leave = leaves_nothing R; receives = λ rest ys hs s f. f hs }
  given_of gives_empty n d = record { actions = []; straight = no_action; leave = leaves_nothing R; receives = λ rest ys hs s f. f hs }
  given_of (gives_one {q = q} (takes_read {m = m} {moves = v})) n d = record {
    actions = at_mark m (Read v (own q) d) ∷ [];
    straight = one_action;
    leave = leaves_more R (at_mark m (Read v (own q) d)) [] (read_new q v d n.0) (leaves_nothing R);
    receives = λ rest ys hs s f. takes_one {gs = []} by_read (s q here) (λ z j. elim j [ ]) (f []);
  }
  given_of (gives_tuple {m = m} {es = es} t) n d = let r = all_taken t n in record {
    actions = r.actions ++ at_mark m (Build tree.tuple (fields_of es) (temporaries_of es) d) ∷ [];
    straight = in_sequence r.straight one_action;
    leave = leaves_both R r.actions _ r.leave (leaves_more R (at_mark m (Build tree.tuple (fields_of es) (temporaries_of es) d)) [] (λ x s h. tt) (leaves_nothing R));
    receives = λ rest ys hs s f. subst (λ l. Receives S k e K hs ys l) (sym (joined r.actions (at_mark m (Build tree.tuple (fields_of es) (temporaries_of es) d) ∷ []) rest))
        (r.receives (at_mark m (Build tree.tuple (fields_of es) (temporaries_of es) d) ∷ rest) ys hs s (λ gs. does_one easy_build (f gs)));
  }

-- ---- fronts of what is received, and ends behind it

head_is : {a b : Action} {us vs : List Action} → a ∷ us ≡ b ∷ vs → a ≡ b
head_is e = cc

tail_is : {a b : Action} {us vs : List Action} → a ∷ us ≡ b ∷ vs → us ≡ vs
tail_is e = cc

not_nothing : {A : Type 0} {a : Action} {us : List Action} → a ∷ us ≡ [] → A
not_nothing e = absurd (cc)

module _ (S : Sides) (k : Plan) (e : point.Exit) (K : KnownVariables S) where
  abbrev Got : List ℕ → List ℕ → List Action → Type 0
  Got hs ys us = Receives S k e K hs ys us

  pub received_front : {hs ys : List ℕ} {l : List Action} → Receives S k e K hs ys l → (us vs : List Action) → us ++ vs ≡ l → Receives S k e K hs ys us
  received_front no_more [] vs q = no_more
  received_front no_more (u ∷ us) vs q = not_nothing q
  received_front (receives_one n r) [] vs q = no_more
  received_front {hs = hs} {ys = ys} (receives_one {x = x} n r) (u ∷ []) vs q = subst (λ a. Got hs ys (a ∷ [])) (sym (head_is q)) (begins_one {gs = []} n (λ z i. elim i [ ]) no_more)
  received_front {hs = hs} {ys = ys} (receives_one {m = m} {x = x} n r) (u ∷ w ∷ us) vs q =
      subst (λ a. Got hs ys (a ∷ w ∷ us)) (sym (head_is q)) (subst (λ a. Got hs ys (does m (Declare x) ∷ a ∷ us)) (sym (head_is (tail_is q))) (receives_one n (received_front r us vs (tail_is (tail_is q)))))
  received_front (takes_one t i l r) [] vs q = no_more
  received_front {hs = hs} {ys = ys} (takes_one t i l r) (u ∷ us) vs q = subst (λ a. Got hs ys (a ∷ us)) (sym (head_is q)) (takes_one t i l (received_front r us vs (tail_is q)))
  received_front (assigns_one y i m n r) [] vs q = no_more
  received_front {hs = hs} {ys = ys} (assigns_one y i m n r) (u ∷ us) vs q = subst (λ a. Got hs ys (a ∷ us)) (sym (head_is q)) (assigns_one y i m n (received_front r us vs (tail_is q)))
  received_front (begins_one n l r) [] vs q = no_more
  received_front {hs = hs} {ys = ys} (begins_one n l r) (u ∷ us) vs q = subst (λ a. Got hs ys (a ∷ us)) (sym (head_is q)) (begins_one n l (received_front r us vs (tail_is q)))
  received_front (ends_one n l r) [] vs q = no_more
  received_front {hs = hs} {ys = ys} (ends_one n l r) (u ∷ us) vs q = subst (λ a. Got hs ys (a ∷ us)) (sym (head_is q)) (ends_one n l (received_front r us vs (tail_is q)))
  received_front (does_one h r) [] vs q = no_more
  received_front {hs = hs} {ys = ys} (does_one h r) (u ∷ us) vs q = subst (λ a. Got hs ys (a ∷ us)) (sym (head_is q)) (does_one h (received_front r us vs (tail_is q)))

  pub only_ends : {us : List Action} → NewEnds K.variables us → (hs ys : List ℕ) → Receives S k e K hs ys us
  only_ends no_end hs ys = no_more
  only_ends (one_end n h) hs ys = ends_one {gs = []} n (λ z i. elim i [ ]) (only_ends h [] ys)

  pub received_ends : {hs ys : List ℕ} {us vs : List Action} → Receives S k e K hs ys us → NewEnds K.variables vs → Receives S k e K hs ys (us ++ vs)
  received_ends {hs = hs} {ys = ys} no_more h = only_ends h hs ys
  received_ends (receives_one n r) h = receives_one n (received_ends r h)
  received_ends (takes_one t i l r) h = takes_one t i l (received_ends r h)
  received_ends (assigns_one y i m n r) h = assigns_one y i m n (received_ends r h)
  received_ends (begins_one n l r) h = begins_one n l (received_ends r h)
  received_ends (ends_one n l r) h = ends_one n l (received_ends r h)
  received_ends (does_one g r) h = does_one g (received_ends r h)
