-- What each action keeps, calls keep: the laws of an invariant, of values that are of their types, for each way to act whose actions keep them.
use Rattle.std.specs.Prelude.{ℤ, map, slice_get}
use Rattle.std.proofs.Common.{◌≡◌, ℕ, suc, Bool, List, [], ◌∷◌, ◌++◌, Option, Some, None, refl, sym, ap, subst, ◌∙◌}
use Rattle.rx_typed.specs.Types.{Typ, Declarations, unit_shape, parameters_declared, result_declared}
use Rattle.rx_typed.specs.Tree.{Temporary, Parameter, Function}
use Rattle.rx_lower_walks.specs.Actions.{Act, Call, Build, Action, does}
use Rattle.rx_lower_walks.specs.Orders.{argument}
use Rattle.rx_lower_walks.specs.Walks.{IsWalk}
use Rattle.rx_meaning.specs.Endings.{Ending}
use Rattle.rx_meaning.specs.Values.{Value, unit_value, new_frame, State}
use Rattle.rx_meaning.specs.Results.{stops}
use Rattle.rx_meaning.specs.Acting.{Acting}
use Rattle.rx_meaning.specs.Expressions.{Functions}
use Rattle.rx_meaning.specs.Programs.{Program, run_by}
use Rattle.rx_meaning_keeping.specs.Pending.{Pending, holds, pushes, arguments, AsMany}
use Rattle.rx_meaning_keeping.specs.Pending as waiting
use Rattle.rx_meaning_keeping.specs.Using.{Taken, Does}
use Rattle.rx_meaning_keeping.specs.Using as using
use Rattle.rx_meaning_keeping.specs.Formed.{Any, AllFormed}
use Rattle.rx_meaning_keeping.specs.Keeping.{Kept, Calling, Laws, IsFunction}
use Rattle.rx_meaning_keeping.specs.Reaching.{Reached, Active, starting}
use Rattle.rx_meaning_keeping.specs.Ready.{AllHere}
use Rattle.rx_meaning_keeping.proofs.Reaching.{reached_is_kept, active_has_world}
use Rattle.rx_meaning_keeping.proofs.Runs.{runs_end_so}
use Rattle.rx_meaning_typed.specs.TypedActs.{Typing, ActTyped}
use Rattle.rx_meaning_typed.specs.TypedFunctions.{IsTruth, MakesWholes, FunctionTyped, ProgramTyped}
use Rattle.rx_meaning_typed.specs.MutableActs.{ActLends, FunctionsLend}
use Rattle.rx_meaning_typed.specs.ValueTypes.{Store, HasType, of_tuple, none_typed, AllTyped, no_typed, typed_and, MemoryTyped, Extends}
use Rattle.rx_meaning_typed.specs.TypedStates.{PendingTyped, StateTyped, TypedBehind, IsSensible}
use Rattle.rx_meaning_typed.proofs.Parts.{some_is}
use Rattle.rx_meaning_typed.proofs.Stores.{extends_self, extends_both}
use Rattle.rx_meaning_typed.proofs.Acting.{pending_more, pending_thin, pending_split, MakesWhole}

-- ---- arguments

arguments_typed : (L : Bool) (T : Typing) (S : Store) (ps : List Parameter) (vs : List Value) → AllTyped L T.declared S vs (map (λ p. T.temporaries (argument p)) ps) → AllHere vs → PendingTyped L T S (arguments ps vs)
arguments_typed L T S [] vs h s = tt
arguments_typed L T S (p ∷ ps) _ (typed_and h hs) s = ((h, s.0), arguments_typed L T S ps _ hs s.1)

as_many : (L : Bool) (T : Typing) (S : Store) (ps : List Parameter) (vs : List Value) → AllTyped L T.declared S vs (map (λ p. T.temporaries (argument p)) ps) → AsMany ps vs
as_many L T S [] _ no_typed = waiting.no_more
as_many L T S (p ∷ ps) _ (typed_and h hs) = waiting.one_more (as_many L T S ps _ hs)

no_arguments : (L : Bool) (T : Typing) (S : Store) (ps : List Parameter) → PendingTyped L T S (arguments ps [])
no_arguments L T S [] = tt
no_arguments L T S (p ∷ ps) = tt

whole_of : (F : Function) → MakesWholes F → (w : List Action) (n : ℕ) (a : Act) → IsWalk F (w ++ does n a ∷ []) → MakesWhole a
whole_of F h w n (Build m js ts d) is = h w n m js ts d is
whole_of F h w n _ is = tt

-- other right operands that go on
taken_of : {R S : Temporary → Type 0} {t u x : Temporary} → ((y : Temporary) → R y → S y) → Taken R t u x → Taken S t u x
taken_of f using.left = using.left
taken_of f (using.right r) = using.right (f _ r)

does_of : {R S : Temporary → Type 0} {a : Act} {vs : List Value} {K : Pending} {K1 : Value → Pending} → ((y : Temporary) → R y → S y) → Does R a vs K K1 → Does S a vs K K1
does_of f using.declares = using.declares
does_of f using.dies = using.dies
does_of f (using.reads u) = using.reads u
does_of f (using.borrows u) = using.borrows u
does_of f (using.borrows_held u) = using.borrows_held u
does_of f using.tests = using.tests
does_of f using.tests_held = using.tests_held
does_of f using.writes = using.writes
does_of f using.writes_part = using.writes_part
does_of f (using.builds K p l u) = using.builds K p l u
does_of f (using.joins t u) = using.joins (taken_of f t) u
does_of f (using.inputs u) = using.inputs u
does_of f using.prints = using.prints
does_of f using.gives_up = using.gives_up
does_of f (using.calls K p u) = using.calls K p u

-- the actions of this way keep the types of values
abbrev pub KeepsTypes : {E : Type 0} → Acting E → Type 0
KeepsTypes A = (L : Bool) (T : Typing) (k : Store) (w : List Action) (n : ℕ) (a : Act) (vs : List Value) (s : State) (K : Pending) (K1 : Value → Pending) → Does (IsTruth T) a vs K K1 → ActTyped T a → ActLends L T a → MakesWhole a → TypedBehind L T k w s K
    → Kept (IsSensible L) (TypedBehind L T k) w (does n a) s K1 (A.perform (does n a) vs s)

module _ {E : Type 0} (A : Acting E) (keeps_types : KeepsTypes A) (D : Declarations) (Ts : ℕ → Typing) (P : Functions) (all : ProgramTyped D Ts P) (L : Bool) (lend : FunctionsLend L Ts P) where
  abbrev pub J : ℕ → Store → List Action → State → Pending → Type 0
  J f k w s K = TypedBehind L (Ts f) k w s K

  with_pending : (f : ℕ) (k : Store) (w : List Action) (s : State) (K K1 : Pending) (i : J f k w s K) → PendingTyped L (Ts f) i.0 K1 → J f k w s K1
  with_pending f k w s K K1 i h = (i.0, i.1, record { memory = i.2.memory; variables = i.2.variables; pending = h })

  same : (f g : ℕ) → (Ts f).declared ≡ (Ts g).declared
  same f g = all.declared f ∙ sym (all.declared g)

  module _ (f g : ℕ) (F G : Function) (k : Store) (w : List Action) (n : ℕ) (ts : List Temporary) (d : Temporary) (vs : List Value) (s : State) (K : Pending) (c : Calling P J f F k w n g ts d vs s K) (e : IsFunction P g G) where
    call_typed : ActTyped (Ts f) (Call g ts d)
    call_typed = (all.functions f F c.caller).acts w (does n (Call g ts d)) c.begins

    operands_typed : AllTyped L (Ts f).declared c.kept.0 vs (map (λ t. (Ts f).temporaries t) ts) × AllHere vs × PendingTyped L (Ts f) c.kept.0 K
    operands_typed = pending_split L (Ts f) c.kept.0 K c.arguments c.kept.2.pending

    given_typed : AllTyped L (Ts g).declared c.kept.0 vs (map (λ p. (Ts g).temporaries (argument p)) G.params)
    given_typed =
        subst (λ z. AllTyped L z c.kept.0 vs (map (λ p. (Ts g).temporaries (argument p)) G.params)) (same f g)
        (subst (λ z. AllTyped L (Ts f).declared c.kept.0 vs z) (call_typed.0 ∙ (ap (λ z. parameters_declared (slice_get z g)) (same f g) ∙ sym (all.functions g G e).signed.takes)) operands_typed.0)

    result_typed : (Ts g).result ≡ (Ts f).temporaries d
    result_typed = sym (some_is (sym call_typed.1 ∙ (ap (λ z. result_declared (slice_get z g)) (same f g) ∙ (all.functions g G e).signed.gives)))

    begins_typed : J g c.kept.0 [] (record s { frame = new_frame g }) (arguments G.params vs)
    begins_typed = (
      c.kept.0,
      extends_self c.kept.0,
      record {
        memory = subst (λ z. MemoryTyped L z c.kept.0 s.memory) (same f g) c.kept.2.memory;
        variables = λ x i q. absurd (cc);
        pending = arguments_typed L (Ts g) c.kept.0 G.params vs given_typed operands_typed.1;
      },
    )

    returns_typed : (o : List Action) (s1 : State) (v : Value) → J g c.kept.0 o s1 ((None, v) ∷ []) → J f k (w ++ does n (Call g ts d) ∷ []) (record s1 { frame = s.frame }) (holds d v K)
    returns_typed o s1 v j = (
      j.0,
      extends_both k c.kept.0 j.0 c.kept.1 j.1,
      record {
        memory = subst (λ z. MemoryTyped L z j.0 s1.memory) (same g f) j.2.memory;
        variables = λ x i q. j.1 i ((Ts f).variables x) (c.kept.2.variables x i q);
        pending = ((subst (λ z. HasType L z j.0 v ((Ts f).temporaries d)) (same g f) (subst (λ z. HasType L (Ts g).declared j.0 v z) result_typed j.2.pending.0.0), j.2.pending.0.1), pending_more L (Ts f) c.kept.0 j.0 j.1 K operands_typed.2);
      },
    )

    as_many_typed : AsMany G.params vs
    as_many_typed = as_many L (Ts g) c.kept.0 G.params vs given_typed

  pub laws : Laws A (IsSensible L) P (λ f. Any) Store J
  laws = record {
    steps = λ f F q k. record {
      drops = λ w s K K1 t i. with_pending f k w s K1 K i (pending_thin L (Ts f) i.0 t i.2.pending);
      units = λ w s d K g u i. with_pending f k w s K (holds d unit_value K) i ((subst (λ z. HasType L (Ts f).declared i.0 unit_value z) (sym ((all.functions f F q).units d g)) (of_tuple none_typed), refl), i.2.pending);
      turns = λ w s n K e i. (i.0, i.1, record { memory = i.2.memory; variables = i.2.variables; pending = i.2.pending });
      performs = λ w a vs s K K1 d is i. keeps_types L (Ts f) k w a.node a.act vs s K K1 (does_of (all.functions f F q).rights d) ((all.functions f F q).acts w a is) (lend f F q w a is) (whole_of F (all.functions f F q).wholes w a.node a.act is) i;
    };
    enters = λ f F k w n g ts d vs s K c G e. (c.kept.0, begins_typed f g F G k w n ts d vs s K c e, (λ o m s1 v wk j. returns_typed f g F G k w n ts d vs s K c e o s1 v j));
    runs_on = tt;
    no_callee = λ f F k w n g ts d vs s K c h. tt;
    not_as_many = λ f F k w n g ts d vs s K c G e h. h (as_many_typed f g F G k w n ts d vs s K c e);
    no_arm_left = λ f F q k S l w vs s K c fi i h. tt;
    no_answer = λ f F q o x h no. tt;
  }

-- ---- runs of programs

module _ {E : Type 0} (A : Acting E) (keeps_types : KeepsTypes A) (D : Declarations) (Ts : ℕ → Typing) (P : Program) (all : ProgramTyped D Ts P.functions) (L : Bool) (lend : FunctionsLend L Ts P.functions) where
  starts_typed : (given : List ℤ) (n : ℕ) (ps : List Parameter) → TypedBehind L (Ts P.main) [] [] (starting P given n) (arguments ps [])
  starts_typed given n ps = ([], extends_self [], record { memory = no_typed; variables = λ x i q. absurd (cc); pending = no_arguments L (Ts P.main) [] ps })

  pub reached_typed : (given : List ℤ) (n f : ℕ) (vs : List Value) (s1 : State) (w : List Action) (s : State) (K : Pending) → Active A P.functions P.main [] (starting P given n) f vs s1 → Reached A P.functions f vs s1 w s K
      → (S : Store) × StateTyped L (Ts f) S s K
  reached_typed given n f vs s1 w s K act r =
      let rules = laws A keeps_types D Ts P.functions all L lend in
      let world = active_has_world A (IsSensible L) P.functions (λ g. Any) Store (J A keeps_types D Ts P.functions all L lend) rules act [] (λ F q. starts_typed given n F.params) in
      let i = reached_is_kept A (IsSensible L) P.functions (λ g. Any) Store (J A keeps_types D Ts P.functions all L lend) rules r world.0 world.1 in
      (i.0, i.2)

  pub ends_sensibly : AllFormed P.functions (λ f. Any) → (F : Function) → IsFunction P.functions P.main F → F.params ≡ [] → (given : List ℤ) (n : ℕ) (t : List E) (e : Ending) → run_by A P given n ≡ stops t e → IsSensible L e
  ends_sensibly formed F q np given n t e eq =
      runs_end_so A (IsSensible L) P (λ g. Any) Store (J A keeps_types D Ts P.functions all L lend) (laws A keeps_types D Ts P.functions all L lend) formed F q [] given n
      (λ other. other (subst (λ z. AsMany z []) (sym np) waiting.no_more)) (λ m h. starts_typed given m F.params) t e eq
