-- Runs of covered programs without references don't end because a place leads nowhere, because no arm takes a value, because what is
-- called is no function, or because a body gives no value: what a run reaches is kept, with what the tests of arms say.
use Rattle.std.specs.Prelude.{ℤ}
use Rattle.std.proofs.Common.{◌≡◌, ℕ, suc, Bool, true, false, List, [], ◌∷◌, ◌++◌, Some, refl, subst, ap, ◌∙◌}
use Rattle.rx_core.specs.declared.types.Step.{Step}
use Rattle.rx_typed.specs.Types.{Declarations}
use Rattle.rx_typed.specs.Tree.{Root, variable, temporary, Temporary, Place, temporary_place, under, Pattern, Scrutinee, Arms, Parameter, Function}
use Rattle.rx_lower_walks.specs.Matching.{tests, bindings}
use Rattle.rx_lower_walks.specs.Actions.{Action, Subject, subject, part}
use Rattle.rx_lower_walks.specs.Orders.{order_scrutinee}
use Rattle.rx_lower_walks.specs.Walks.{IsWalk}
use Rattle.rx_meaning.specs.Endings.{Cause, Ending, finished, wrong, lacks, astray, immutable, mistyped, missing_reference, missing_function, missing_arm, missing_value}
use Rattle.rx_meaning.specs.Values.{Value, State}
use Rattle.rx_meaning.specs.Values as meaning
use Rattle.rx_meaning.specs.Results as results
use Rattle.rx_meaning.specs.Results.{Done, gives, Result, on, jumps, stops}
use Rattle.rx_meaning.specs.Acting.{Acting, plainly}
use Rattle.rx_meaning.specs.Telling.{Told, Alike, alike_on, alike_stop, SameSaid}
use Rattle.rx_meaning.specs.Programs.{Program, begins, ending_of, run_by}
use Rattle.rx_meaning.proofs.Told.{runs_say}
use Rattle.rx_facts_tables.specs.Places.{Frame}
use Rattle.rx_meaning_keeping.specs.Pending.{Pending, holding, Fits, of_place, of_held, AsMany, arguments}
use Rattle.rx_meaning_keeping.specs.Units.{GoesOn}
use Rattle.rx_meaning_keeping.specs.RightOperands.{IsRightOf}
use Rattle.rx_meaning_keeping.specs.Using.{Does}
use Rattle.rx_meaning_keeping.specs.Formed.{Any, AllFormed}
use Rattle.rx_meaning_keeping.specs.Keeping.{Invariant, IsFunction, Kept, AllFail}
use Rattle.rx_meaning_keeping.specs.Keeping as keeping
use Rattle.rx_meaning_keeping.specs.Reaching.{Reached, starts, first, Ends, starting}
use Rattle.rx_meaning_keeping.specs.Strict.{does_strictly, strictly}
use Rattle.rx_meaning_keeping.specs.Ready.{IsInitial}
use Rattle.rx_meaning_keeping.specs.Lacking.{World, Here}
use Rattle.rx_meaning_keeping.specs.Behind.{SameRun, same_on, same_jump, same_stop}
use Rattle.rx_meaning_keeping.proofs.Reaching.{Start, I, C, reaching, reached_is_kept, active_has_world}
use Rattle.rx_meaning_keeping.proofs.Looking.{strictly_behaves}
use Rattle.rx_meaning_keeping.proofs.Marking as marking
use Rattle.rx_meaning_keeping.proofs.Marking.{AnyEnd, begins_marked, laws_of}
use Rattle.rx_meaning_typed.specs.TypedActs.{Typing, root_typ, place_typ}
use Rattle.rx_meaning_typed.specs.TypedFunctions.{ProgramTyped}
use Rattle.rx_meaning_typed.specs.ValueTypes.{Store}
use Rattle.rx_meaning_typed.specs.TypedStates.{StateTyped}
use Rattle.rx_meaning_typed.specs.NoReferences.{HasNoReference, NoReferences, RemainsWithoutReferences}
use Rattle.rx_meaning_typed.proofs.Stores.{RootHeld}
use Rattle.rx_meaning_typed.proofs.Typing.{reached_typed}
use Rattle.rx_meaning_typed.proofs.Strictly.{strictly_keeps}
use Rattle.rx_meaning_typed.proofs.Unreferring.{runs_as_plain, causes_remain}
use Rattle.rx_meaning_covered.specs.Ways.{IsHeld, HasNoVariant, Stands}
use Rattle.rx_meaning_covered.specs.Arms.{InTurn, AllLead, HasArm}
use Rattle.rx_meaning_covered.specs.Standing.{Standing}
use Rattle.rx_meaning_covered.specs.Keeping.{Laws}
use Rattle.rx_meaning_covered.specs.Ranged.{IsRanged, StateRanged, PendingRanged, InputRanged}
use Rattle.rx_meaning_covered.specs.Covered.{IsDirectSubject, IsNotOf, ChoiceFits, LetFits, FitsChoice, FitsLet, ProgramCovered}
use Rattle.rx_meaning_covered.proofs.Keeping.{Comes, answers, ends_all, calls_keep}
use Rattle.rx_meaning_covered.proofs.Sound.{IsSound, EndsSoundly, Soundly, acts_strictly}
use Rattle.rx_meaning_covered.proofs.Carrying.{SlotsApart, strict_carries}
use Rattle.rx_meaning_covered.proofs.Slots.{begun_has_slot, slots_for}
use Rattle.rx_meaning_covered.proofs.RangedActs.{in_range, NoEnd, Plain, J, ranged_laws}
use Rattle.rx_meaning_covered.proofs.Getting.{RootRanged}
use Rattle.rx_meaning_covered.proofs.Choosing.{turns, some_arm, alone, arm_fits}

-- ---- runs by these laws

module _ {E : Type 0} (A : Acting E) (Ok : Ending → Type 0) (P : Program) (C : ℕ → Scrutinee → Arms → Type 0) (L : ℕ → Scrutinee → Pattern → Type 0) (W : Type 0) (K : ℕ → W → Invariant) (laws : Laws A Ok P.functions C L W K) (formed : AllFormed P.functions (λ f. Any))
    (standing : (f : ℕ) (F : Function) → IsFunction P.functions f F → Standing (C f) (L f) F.body) (finishes : Ok finished) where
  ended_so : (F : Function) (k : W) (G : meaning.Frame) (r : Result E Value) (q : Result (Told E) Value) → Comes A Ok P.functions C L W K laws formed standing P.main F k G q → Alike SameSaid r q → Ok (ending_of r)
  ended_so F k G _ _ (answers s o m g h p) (alike_on x) = finishes
  ended_so F k G _ _ (ends_all g h) (alike_stop x) = h

  -- a run ends only so
  pub runs_end_so : (F : Function) (q : IsFunction P.functions P.main F) (k : W) (given : List ℤ) (n : ℕ) → ((AsMany F.params [] → ⊥) → Ok (wrong mistyped))
      → ((m : ℕ) → n ≡ suc m → K P.main k [] (starting P given m) (arguments F.params [])) → Ok (ending_of (run_by A P given n))
  runs_end_so F q k given n other i = ended_so F k _ _ _ (calls_keep A Ok P.functions C L W K laws formed standing n P.main F q k [] (begins given n) other i) (runs_say A P given n)

-- ---- what is matched, by its place

record Stood (T : Typing) (St : Store) (S : Subject) (vs : List Value) : Type 0 where
  pub place : Place
  pub same : (at : List Step) → part S at ≡ under place at
  pub given : RootHeld false T St place.root vs
  pub in_range : RootRanged place.root vs
  pub is_held : IsHeld place.root vs
  pub direct : HasNoVariant place.steps

none_typed : (T : Typing) (St : Store) (r : Root) → RootHeld false T St r []
none_typed T St (variable x) = tt
none_typed T St (temporary t) = tt

none_ranged : (r : Root) → RootRanged r []
none_ranged (variable x) = tt
none_ranged (temporary t) = tt

stood : (N : Temporary → Bool) (T : Typing) (St : Store) (s : State) (S : Subject) (vs : List Value) (K : Pending) → Fits S vs → IsDirectSubject S → IsNotOf N S → StateTyped false T St s (holding S vs K) → StateRanged N s (holding S vs K) → Stood T St S vs
stood N T St s _ _ K (of_place {p = p}) d m i r = record { place = p; same = λ at. refl; given = none_typed T St p.root; in_range = none_ranged p.root; is_held = d.1; direct = d.0 }
stood N T St s _ _ K (of_held {t = t} {v = v}) d m i r = record { place = temporary_place t; same = λ at. refl; given = i.pending.0.0; in_range = in_range (N t ≡ true) (IsRanged v) m r.pending.0; is_held = tt; direct = tt }

-- at a typed state without references whose integers are in their ranges
module _ (N : Temporary → Bool) (T : Typing) (free : (r : Root) → HasNoReference T.declared (root_typ T r)) (St : Store) (s : State) (c : Scrutinee) (vs : List Value) (K : Pending) (x : StateTyped false T St s (holding (subject c) vs K)) (y : StateRanged N s (holding (subject c) vs K))
    (fits : Fits (subject c) vs) (plain : IsNotOf N (subject c)) where
  -- the tests of an arm lead to parts that are there, each behind those in front of it
  pub arm_turns : (l : Arms) (ch : ChoiceFits T c l) (p : Pattern) → HasArm p l → InTurn strictly (subject c) vs s (tests [] p) (AllLead (subject c) vs s (bindings [] p))
  arm_turns l ch p arm =
      let b = stood N T St s (subject c) vs K fits ch.direct plain x y in
      let a = arm_fits T.declared (subject c) ch.typ l ch.arms p arm in
      turns T St s x.memory x.variables y.memory (subject c) b.place b.same vs (free b.place.root) b.given b.in_range b.is_held b.direct ch.typ (subst (λ z. place_typ T z ≡ Some ch.typ) (b.same []) ch.typed) p a.0 a.1

  -- so does what a `let` binds
  pub let_leads : (p : Pattern) → LetFits T c p → AllLead (subject c) vs s (bindings [] p)
  let_leads p ch =
      let b = stood N T St s (subject c) vs K fits ch.direct plain x y in
      alone T St s x.memory x.variables y.memory (subject c) b.place b.same vs (free b.place.root) b.given b.in_range b.is_held b.direct ch.typ (subst (λ z. place_typ T z ≡ Some ch.typ) (b.same []) ch.typed) p ch.fits ch.other ch.covers ch.inhabited

  -- and some arm takes what is matched
  pub takes_an_arm : (l : Arms) → ChoiceFits T c l → AllFail strictly (subject c) vs s l → ⊥
  takes_an_arm l ch a =
      let b = stood N T St s (subject c) vs K fits ch.direct plain x y in
      some_arm T St s x.memory x.variables y.memory (subject c) b.place b.same vs (free b.place.root) b.given b.in_range b.is_held b.direct ch.typ (subst (λ z. place_typ T z ≡ Some ch.typ) (b.same []) ch.typed) l ch.arms ch.covers ch.inhabited a

no_arguments : (N : Temporary → Bool) (ps : List Parameter) → PendingRanged N (arguments ps [])
no_arguments N [] = tt
no_arguments N (p ∷ ps) = tt

here_none : (ps : List Parameter) → Here (arguments ps [])
here_none [] = tt
here_none (p ∷ ps) = tt

-- ---- the least invariant, with what is so of all that is reached

module _ (D : Declarations) (N : ℕ → Temporary → Bool) (Ts : ℕ → Typing) (P : Program) (typed : ProgramTyped D Ts P.functions) (free : NoReferences Ts) (Fs : ℕ → Frame) (muts : ℕ → List Bool) (initial : IsInitial P.functions Fs muts) (covered : ProgramCovered N Ts P.functions)
    (given : List ℤ) (is_ranged : InputRanged given) (n : ℕ) where
  abbrev At : ℕ → Start → List Action → State → Pending → Type 0
  At = I strictly strictly_behaves P.functions P.main [] (starting P given n)

  base : keeping.Laws strictly (Ends strictly P.functions P.main [] (starting P given n)) P.functions (C strictly strictly_behaves P.functions P.main [] (starting P given n)) Start (I strictly strictly_behaves P.functions P.main [] (starting P given n))
  base = reaching strictly strictly_behaves P.functions P.main [] (starting P given n)

  root_free : (f : ℕ) (r : Root) → HasNoReference (Ts f).declared (root_typ (Ts f) r)
  root_free f (variable x) = free.variables f x
  root_free f (temporary t) = free.temporaries f t

  module _ (f : ℕ) (k : Start) (w : List Action) (s : State) (K : Pending) (i : At f k w s K) where
    state_typed : (S : Store) × StateTyped false (Ts f) S s K
    state_typed = reached_typed strictly strictly_keeps D Ts P typed false (λ g G x o a is. tt) given n f k.given k.state w s K i.0 i.1

    state_ranged : StateRanged (N f) s K
    state_ranged =
        let rules = ranged_laws N P.functions (λ g G x. (covered.functions g G x).ranges) in
        let world = active_has_world strictly NoEnd P.functions (λ g. Any) Plain (J N) rules i.0 (record { none = 0 }) (λ F q. record { memory = tt; pending = no_arguments (N P.main) F.params; input = is_ranged }) in
        reached_is_kept strictly NoEnd P.functions (λ g. Any) Plain (J N) rules i.1 world.0 world.1

    slots_apart : SlotsApart s
    slots_apart =
        let rules = laws_of P.functions Fs muts initial in
        let world = active_has_world strictly AnyEnd P.functions (λ g. Any) World (marking.J P.functions Fs muts initial) rules i.0 (record { memory = [] })
        (λ F q. begins_marked P.functions Fs muts initial P.main (begins given n) P.main (arguments F.params []) (here_none F.params)) in
        (reached_is_kept strictly AnyEnd P.functions (λ g. Any) World (marking.J P.functions Fs muts initial) rules i.1 world.0 world.1).apart

  kept_soundly : (f : ℕ) (k : Start) (w : List Action) (a : Action) (s : State) (K1 : Value → Pending) (r : Done ℕ) → Kept (Ends strictly P.functions P.main [] (starting P given n)) (At f k) w a s K1 r → Soundly r → Kept EndsSoundly (At f k) w a s K1 r
  kept_soundly f k w a s K1 (gives t v s1) h g = h
  kept_soundly f k w a s K1 (results.ends t e) h g = g

  module _ (f : ℕ) (F : Function) (q : IsFunction P.functions f F) (k : Start) where
    acts_well : (w : List Action) (a : Action) (vs : List Value) (s : State) (K : Pending) (K1 : Value → Pending) → Does (IsRightOf F) a.act vs K K1 → Stands a.act vs s → IsWalk F (w ++ a ∷ []) → At f k w s K → Kept EndsSoundly (At f k) w a s K1 (does_strictly a.act vs s)
    acts_well w a vs s K K1 d st is i =
        let x = state_typed f k w s K i in
        kept_soundly f k w a s K1 (does_strictly a.act vs s) ((base.steps f F q k).performs w a vs s K K1 d is i)
        (acts_strictly false (Ts f) x.0 s x.1.memory x.1.variables (root_free f) a.act vs K K1 d ((typed.functions f F q).acts w a is) x.1 (slots_for a.act w s (λ y b. begun_has_slot P.functions i.1 y b) ((covered.functions f F q).begun w a is)) st)

    in_arm : (c : Scrutinee) (l : Arms) (p : Pattern) (w : List Action) (vs : List Value) (s : State) (K : Pending) → FitsChoice (N f) (Ts f) c l → GoesOn (order_scrutinee c) → HasArm p l → Fits (subject c) vs → At f k w s (holding (subject c) vs K)
        → InTurn strictly (subject c) vs s (tests [] p) (AllLead (subject c) vs s (bindings [] p))
    in_arm c l p w vs s K h gone arm fits i =
        let x = state_typed f k w s (holding (subject c) vs K) i in arm_turns (N f) (Ts f) (root_free f) x.0 s c vs K x.1 (state_ranged f k w s (holding (subject c) vs K) i) fits (h gone).0 l (h gone).1 p arm

    in_let : (c : Scrutinee) (p : Pattern) (w : List Action) (vs : List Value) (s : State) (K : Pending) → FitsLet (N f) (Ts f) c p → GoesOn (order_scrutinee c) → Fits (subject c) vs → At f k w s (holding (subject c) vs K) → AllLead (subject c) vs s (bindings [] p)
    in_let c p w vs s K h gone fits i =
        let x = state_typed f k w s (holding (subject c) vs K) i in let_leads (N f) (Ts f) (root_free f) x.0 s c vs K x.1 (state_ranged f k w s (holding (subject c) vs K) i) fits (h gone).0 p (h gone).1

    no_arm : (c : Scrutinee) (l : Arms) (w : List Action) (vs : List Value) (s : State) (K : Pending) → FitsChoice (N f) (Ts f) c l → GoesOn (order_scrutinee c) → Fits (subject c) vs → At f k w s (holding (subject c) vs K) → AllFail strictly (subject c) vs s l → ⊥
    no_arm c l w vs s K h gone fits i a =
        let x = state_typed f k w s (holding (subject c) vs K) i in takes_an_arm (N f) (Ts f) (root_free f) x.0 s c vs K x.1 (state_ranged f k w s (holding (subject c) vs K) i) fits (h gone).0 l (h gone).1 a

  pub laws : Laws strictly EndsSoundly P.functions (λ f. FitsChoice (N f) (Ts f)) (λ f. FitsLet (N f) (Ts f)) Start (I strictly strictly_behaves P.functions P.main [] (starting P given n))
  laws = record {
    steps = λ f F q k. record {
      drops = λ w s K K1 t i. (base.steps f F q k).drops w s K K1 t i;
      units = λ w s d K g u i. (base.steps f F q k).units w s d K g u i;
      turns = λ w s m K e i. (base.steps f F q k).turns w s m K e i;
      performs = λ w a vs s K K1 d st is i. acts_well f F q k w a vs s K K1 d st is i;
      carries = λ S us ss w a vs s K K1 t v s1 d h i e l. strict_carries S us ss a.act vs s t v s1 (slots_apart f k w s K i) h e l;
      in_arm = λ c l p w vs s K h gone arm fits i. in_arm f F q k c l p w vs s K h gone arm fits i;
      in_let = λ c p w vs s K h gone fits i. in_let f F q k c p w vs s K h gone fits i;
      no_arm_left = λ c l w vs s K h gone fits i a. no_arm f F q k c l w vs s K h gone fits i a;
    };
    enters = λ f F k w m g ts d vs s K c G e. base.enters f F k w m g ts d vs s K c G e;
    runs_on = tt;
    no_callee = λ f F k w m g ts d vs s K c none. let G = (covered.functions f F c.caller).calls w m g ts d c.begins in none G.0 G.1;
    not_as_many = λ f F k w m g ts d vs s K c G e other. tt;
    no_answer = λ f F q o x h none. (covered.functions f F q).answers o x h none;
  }

  pub ends_soundly : (F : Function) → IsFunction P.functions P.main F → EndsSoundly (ending_of (run_by strictly P given (suc n)))
  ends_soundly F q =
      runs_end_so strictly EndsSoundly P (λ f. FitsChoice (N f) (Ts f)) (λ f. FitsLet (N f) (Ts f)) Start (I strictly strictly_behaves P.functions P.main [] (starting P given n)) laws initial.formed (λ f G x. (covered.functions f G x).standing) tt F q
      (record { given = []; state = starting P given n }) given (suc n) (λ other. tt) (λ m i. (first, subst (λ z. Reached strictly P.functions P.main [] (starting P given n) [] (starting P given z) (arguments F.params [])) (less i) (starts F q)))
    where
      less : {m : ℕ} → suc n ≡ suc m → n ≡ m
      less i = cc

  neither : (c : Cause) → IsSound c → RemainsWithoutReferences c → ⊥
  neither astray h k = h
  neither missing_function h k = h
  neither missing_arm h k = h
  neither missing_value h k = h
  neither lacks h k = k
  neither immutable h k = k
  neither mistyped h k = k
  neither missing_reference h k = k

  pub never_wrong : (F : Function) → IsFunction P.functions P.main F → F.params ≡ [] → (c : Cause) → ending_of (run_by strictly P given (suc n)) ≡ wrong c → ⊥
  never_wrong F q np c e = by (run_by strictly P given (suc n)) refl e
    where
      sound : (r : Result ℕ Value) → run_by strictly P given (suc n) ≡ r → ending_of r ≡ wrong c → IsSound c
      sound r x y = subst EndsSoundly y (subst (λ z. EndsSoundly (ending_of z)) x (ends_soundly F q))

      by : (r : Result ℕ Value) → run_by strictly P given (suc n) ≡ r → ending_of r ≡ wrong c → ⊥
      by (on w v s) x y = absurd (cc)
      by (jumps w z v s) x y = subst (λ u. EndsSoundly (ending_of u)) x (ends_soundly F q)
      by (stops w z) x y = neither c (sound (stops w z) x y) (causes_remain D Ts P typed free Fs muts initial F q np given n w c (x ∙ ap (λ u. stops w u) y))

-- the same ends
same_ending : {r q : Result ℕ Value} → SameRun r q → ending_of r ≡ ending_of q
same_ending same_on = refl
same_ending same_jump = refl
same_ending same_stop = refl

pub never_wrong_plainly : (D : Declarations) (N : ℕ → Temporary → Bool) (Ts : ℕ → Typing) (P : Program) → ProgramTyped D Ts P.functions → NoReferences Ts → (Fs : ℕ → Frame) (muts : ℕ → List Bool) → IsInitial P.functions Fs muts → ProgramCovered N Ts P.functions → (given : List ℤ) → InputRanged given → (n : ℕ)
    (F : Function) → IsFunction P.functions P.main F → F.params ≡ [] → (c : Cause) → ending_of (run_by plainly P given (suc n)) ≡ wrong c → ⊥
never_wrong_plainly D N Ts P typed free Fs muts initial covered given is_ranged n F q np c e =
    never_wrong D N Ts P typed free Fs muts initial covered given is_ranged n F q np c (same_ending (runs_as_plain D Ts P typed free Fs muts initial F q given n) ∙ e)
