-- In a program that acts by types a function of the unit's type gives the unit, so the run by which it may give that alone is the plain run; so what
-- drops what its calls give, in front of a block's unit, runs as what gives it.
use Rattle.std.proofs.Common.{◌≡◌, ◌⊎◌, inl, inr, ℕ, ℤ, zero, suc, Bool, true, false, nat_eq, List, [], ◌∷◌, Option, Some, None, if◌then◌else◌, refl, sym, ap, ◌∙◌, subst, eqb-true, slice_get}
use Rattle.rx_typed.specs.Types.{Typ, Declarations, unit_shape, result_declared}
use Rattle.rx_typed.specs.Tree.{Mark, Temporary, Function}
use Rattle.rx_lower_walks.specs.Actions.{Act, Declare, Dead, Read, Write, Borrow, Test, Call, Build, Input, Print, Give, Action}
use Rattle.rx_lower_walks.specs.Walks.{here}
use Rattle.rx_meaning.specs.Endings as endings
use Rattle.rx_meaning.specs.Endings.{Cause, Ending, finished, wrong}
use Rattle.rx_meaning.specs.Straying.{why_no_part, why_not_found, why_not_written, why_not_checked}
use Rattle.rx_meaning.specs.Places as places
use Rattle.rx_meaning.specs.Places.{spot, found, after_write}
use Rattle.rx_meaning.specs.Operators as operators
use Rattle.rx_meaning.specs.Operators.{Computed, make, shown}
use Rattle.rx_meaning.specs.Values.{Value, number, truth, whole, tagged, pointer, lacking, unit_value, get, element, new_frame, State, with_turns}
use Rattle.rx_meaning.specs.Results as results
use Rattle.rx_meaning.specs.Results.{Done, gives, or_ends, Result, on, jumps, stops}
use Rattle.rx_meaning.specs.Acting.{checked, computed, next_input, does_plainly, plainly, performed}
use Rattle.rx_meaning.specs.Expressions as meaning
use Rattle.rx_meaning.specs.Expressions.{Functions, turn_at, take_turn, called}
use Rattle.rx_meaning.specs.Programs.{Program, begins, run_by}
use Rattle.rx_meaning_keeping.specs.Pending.{Pending}
use Rattle.rx_meaning_keeping.specs.Using.{Does, gives_up}
use Rattle.rx_meaning_keeping.specs.Formed.{Any, AllFormed}
use Rattle.rx_meaning_keeping.specs.Keeping.{IsFunction}
use Rattle.rx_meaning_keeping.specs.Reaching.{Behaves, Reached, starts, performs, comes_back, takes_turn, gets_unit, lets_go, Active, first, called as calls_on, Ends, by_action, without_turns, at_no_function, at_other_number, starts_with_other_number, at_no_arm, at_no_value, starting}
use Rattle.rx_meaning_keeping.specs.Relating.{Relation, DecideAlike, by_truth, by_none, DoneRelated, gave, ended, excused, Related, both_on, both_jump, both_stop, excused_stop, have_parted, AllRelated, no_more, and_one, IsRelated}
use Rattle.rx_meaning_keeping.proofs.Behaving.{plainly_behaves}
use Rattle.rx_meaning_keeping.proofs.Relating.{calls_relate}
use Rattle.rx_meaning_keeping.proofs.Runs.{runs_end_for_reasons}
use Rattle.rx_meaning_typed.specs.TypedActs.{Typing, ActTyped}
use Rattle.rx_meaning_typed.specs.TypedFunctions.{ProgramTyped}
use Rattle.rx_meaning_typed.specs.ValueTypes.{Store}
use Rattle.rx_meaning_typed.specs.TypedStates.{StateTyped}
use Rattle.rx_meaning_typed.specs.Shapes.{HasShape}
use Rattle.rx_meaning_typed.proofs.Shapes.{pending_shape}
use Rattle.rx_meaning_typed.proofs.Strictly.{plainly_keeps}
use Rattle.rx_meaning_typed.proofs.Typing.{reached_typed}
use Rattle.rx_engine_dropped.specs.Undrops.{UndropsProgram}
use Rattle.rx_engine_dropped.proofs.UnitCalls.{is_unit, only_unit, acts, guarding, DoneStays, plain_stays, call_gives_unit}
use Rattle.rx_engine_dropped.proofs.Same.{IsBlind, called_same}

some_same : {A : Type 0} {a b : A} → Some a ≡ Some b → a ≡ b
some_same e = cc

true_false : true ≡ false → ⊥
true_false e = cc

-- ---- the plain way ends no run so

abbrev Unfinished : Done ℕ → Type 0
Unfinished (gives w v s) = Unit {0}
Unfinished (results.ends w e) = e ≡ finished → ⊥

wrong_other : (c : Cause) → wrong c ≡ finished → ⊥
wrong_other c e = cc

unfinished_or : {X : Type 0} (c : Cause) (o : Option X) (f : X → Done ℕ) → ((a : X) → Unfinished (f a)) → Unfinished (or_ends c o f)
unfinished_or c None f k = wrong_other c
unfinished_or c (Some a) f k = k a

unfinished_computed : (c : Computed) (s : State) → Unfinished (computed c s)
unfinished_computed (operators.gives v) s = tt
unfinished_computed (operators.traps t) s = by
  where
    by : endings.trapped t ≡ finished → ⊥
    by e = cc
unfinished_computed operators.senseless s = wrong_other endings.mistyped

unfinished_input : (zs : List ℤ) (s : State) → Unfinished (next_input zs s)
unfinished_input [] s = tt
unfinished_input (z ∷ zs) s = tt

unfinished : (a : Act) (vs : List Value) (s : State) → Unfinished (does_plainly a vs s)
unfinished (Declare x) vs s = tt
unfinished (Dead x) vs s = tt
unfinished (Read m p d) vs s = unfinished_or (why_not_found p vs s) (found p vs s) _ (λ f. unfinished_or endings.lacks (places.whole_value f) _ (λ v. tt))
unfinished (Write p t ss) (v ∷ []) s =
    unfinished_or (why_no_part ss v) (get ss v) _ (λ u. unfinished_or (why_not_found p [] s) (spot p [] s) _ (λ at. unfinished_or (why_not_written s.memory at) (after_write u s.memory at) _ (λ M. tt)))
unfinished (Write p t ss) [] s = wrong_other endings.mistyped
unfinished (Write p t ss) (v ∷ u ∷ vs) s = wrong_other endings.mistyped
unfinished (Borrow k p d) vs s = unfinished_or (why_not_found p vs s) (spot p vs s) _ (λ at. unfinished_or endings.astray (places.reference_to k at) _ (λ v. tt))
unfinished (Test p c) vs s = unfinished_or (why_not_found p vs s) (found p vs s) _ (λ f. unfinished_or (why_not_checked f.1) (checked c f.1) _ (λ b. tt))
unfinished (Call f ts d) vs s = tt
unfinished (Build w js ts d) vs s = unfinished_computed (make w js vs) s
unfinished (Input d) vs s = unfinished_input s.input s
unfinished (Print t) (v ∷ []) s = unfinished_or (why_not_checked v) (shown v) _ (λ bytes. tt)
unfinished (Print t) [] s = wrong_other endings.mistyped
unfinished (Print t) (v ∷ u ∷ vs) s = wrong_other endings.mistyped
unfinished (Give t) (v ∷ []) s = tt
unfinished (Give t) [] s = wrong_other endings.mistyped
unfinished (Give t) (v ∷ u ∷ vs) s = wrong_other endings.mistyped

not_finished : (a : Act) (vs : List Value) (s : State) (w : List ℕ) → does_plainly a vs s ≡ results.ends w finished → ⊥
not_finished a vs s w e = subst (λ r. Unfinished r) e (unfinished a vs s) refl

-- ---- relations of states and values: the same

abbrev alike : Relation
alike = record {
  W = Unit {0};
  R = λ k s s'. s ≡ s';
  V = λ k v v'. v ≡ v';
  Grows = λ k l. Unit {0};
  Excused = λ e. e ≡ finished;
  Parted = ⊥;
}

abbrev Prints : List ℕ → List ℕ → Type 0
Prints w u = w ≡ u

values_same : (vs us : List Value) → AllRelated alike tt vs us → vs ≡ us
values_same _ _ no_more = refl
values_same _ _ (and_one h t) = rw (h) (rw (values_same _ _ t) refl)

decide : (v : Value) → DecideAlike alike v v
decide (truth b) = by_truth b
decide (number k z) = by_none tt tt refl
decide (whole vs) = by_none tt tt refl
decide (tagged i vs) = by_none tt tt refl
decide (pointer i p m) = by_none tt tt refl
decide (lacking l) = by_none tt tt refl

done_same : (r : Done ℕ) → DoneRelated alike Prints tt r r
done_same (gives w v s) = gave tt refl tt refl refl
done_same (results.ends w e) = ended refl

only_same : (r : Done ℕ) → DoneRelated alike Prints tt (only_unit r) r
only_same (gives w v s) = by (is_unit v)
  where
    by : (b : Bool) → DoneRelated alike Prints tt (if b then gives w v s else results.ends w finished) (gives w v s)
    by true = done_same (gives w v s)
    by false = excused refl
only_same (results.ends w e) = ended refl

either_same : (b : Bool) (r : Done ℕ) → DoneRelated alike Prints tt (if b then only_unit r else r) r
either_same true r = only_same r
either_same false r = done_same r

only_gives : (r : Done ℕ) (t : List ℕ) (v : Value) (s1 : State) → only_unit r ≡ gives t v s1 → r ≡ gives t v s1
only_gives (gives w u s) t v s1 e = by (is_unit u) e
  where
    by : (b : Bool) → (if b then gives w u s else results.ends w finished) ≡ gives t v s1 → gives w u s ≡ gives t v s1
    by true e = e
    by false e = absurd (cc)
only_gives (results.ends w e1) t v s1 e = absurd (cc)

either_gives : (b : Bool) (r : Done ℕ) (t : List ℕ) (v : Value) (s1 : State) → (if b then only_unit r else r) ≡ gives t v s1 → r ≡ gives t v s1
either_gives true r t v s1 e = only_gives r t v s1 e
either_gives false r t v s1 e = e

-- ---- the way to act

module _ (N : ℕ) where
  acts_same : (a : Act) (vs : List Value) (s : State) → DoneRelated alike Prints tt (acts N a vs s) (does_plainly a vs s)
  acts_same (Give t) vs s = either_same (nat_eq s.frame.item N) (does_plainly (Give t) vs s)
  acts_same (Declare x) vs s = done_same _
  acts_same (Dead x) vs s = done_same _
  acts_same (Read m p d) vs s = done_same _
  acts_same (Write p t ss) vs s = done_same _
  acts_same (Borrow k p d) vs s = done_same _
  acts_same (Test p c) vs s = done_same _
  acts_same (Call f ts d) vs s = done_same _
  acts_same (Build w js ts d) vs s = done_same _
  acts_same (Input d) vs s = done_same _
  acts_same (Print t) vs s = done_same _

  acts_give : (a : Act) (vs : List Value) (s : State) (t : List ℕ) (v : Value) (s1 : State) → acts N a vs s ≡ gives t v s1 → does_plainly a vs s ≡ gives t v s1
  acts_give (Give d) vs s t v s1 e = either_gives (nat_eq s.frame.item N) (does_plainly (Give d) vs s) t v s1 e
  acts_give (Declare x) vs s t v s1 e = e
  acts_give (Dead x) vs s t v s1 e = e
  acts_give (Read m p d) vs s t v s1 e = e
  acts_give (Write p d ss) vs s t v s1 e = e
  acts_give (Borrow k p d) vs s t v s1 e = e
  acts_give (Test p c) vs s t v s1 e = e
  acts_give (Call f ts d) vs s t v s1 e = e
  acts_give (Build w js ts d) vs s t v s1 e = e
  acts_give (Input d) vs s t v s1 e = e
  acts_give (Print d) vs s t v s1 e = e

  behaves : Behaves (guarding N)
  behaves a vs s t v s1 e = plainly_behaves a vs s t v s1 (acts_give a.act vs s t v s1 e)

  blind : IsBlind (guarding N)
  blind = record { calls = λ m f ts d d' vs s. refl; gives = each }
    where
      each : (m : Mark) (t t' : Temporary) (vs : List Value) (s : State) → performed (guarding N) (record { node = m.node; act = Give t }) vs s ≡ performed (guarding N) (record { node = m.node; act = Give t' }) vs s
      each m t t' [] s = refl
      each m t t' (v ∷ []) s = refl
      each m t t' (v ∷ u ∷ vs) s = refl

  related : IsRelated alike Prints (guarding N) plainly
  related = record {
    told_none = refl;
    told_more = λ w v u z p q. rw (p) (rw (q) refl);
    told_inner = λ w u p. p;
    same = λ k. tt;
    chain = λ k l m a b. tt;
    values_grow = λ k l v v' g h. h;
    unit = λ k. refl;
    truths = λ k v v' h. subst (λ u. DecideAlike alike v u) h (decide v);
    turns = λ k s s' r. ((λ i. (r i).turns), λ n e. λ i. with_turns (r i) n);
    enters = λ k s s' f r. λ i. record (r i) { frame = new_frame f };
    returns = λ k l s s' s1 s1' g r q. λ i. record (q i) { frame = (r i).frame };
    performs = λ k a vs vs' s s' h r. rw (← r) (rw (← values_same vs vs' h) (acts_same a.act vs s));
  }

  -- the run by it is the plain run, or has ended so
  abbrev SameOrEnded : Result ℕ Value → Result ℕ Value → Type 0
  SameOrEnded r q = (r ≡ q) ⊎ ((w : List ℕ) × (r ≡ stops w finished))

  of_related : (r q : Result ℕ Value) → Related alike Prints tt (λ k v v'. v ≡ v') r q → SameOrEnded r q
  of_related _ _ (both_on {w = w} {a = a} {b = b} {s = s} {s' = s'} m t g e r) = inl (λ i. on (t i) (e i) (r i))
  of_related _ _ (both_jump {w = w} {x = x} {v = a} {v' = b} {s = s} {s' = s'} m t g e r) = inl (λ i. jumps (t i) x (e i) (r i))
  of_related _ _ (both_stop {w = w} {e = e} t) = inl (ap (λ z. stops z e) t)
  of_related _ q (excused_stop {w = w} x) = inr (w, ap (λ z. stops w z) x)
  of_related r q (have_parted p) = absurd p

  same_or_ended : (R : Program) (given : List ℤ) (n : ℕ) → SameOrEnded (run_by (guarding N) R given n) (run_by plainly R given n)
  same_or_ended R given n = of_related _ _ (calls_relate alike Prints (guarding N) plainly related R.functions n R.main tt [] [] (begins given n) (begins given n) no_more refl)

  -- ---- where it ends a run so

  data GuardEnds : Act → List Value → State → Type 0 where
    guard_ends : {t : Temporary} {v : Value} {s : State} → s.frame.item ≡ N → is_unit v ≡ false → GuardEnds (Give t) (v ∷ []) s

  guard_why : (a : Act) (vs : List Value) (s : State) (w : List ℕ) → acts N a vs s ≡ results.ends w finished → GuardEnds a vs s
  guard_why (Give t) (v ∷ []) s w e = by (nat_eq s.frame.item N) refl e
    where
      only : (b : Bool) → is_unit v ≡ b → s.frame.item ≡ N → (if b then gives [] v s else results.ends [] finished) ≡ results.ends w finished → GuardEnds (Give t) (v ∷ []) s
      only true q i e = absurd (cc)
      only false q i e = guard_ends i q

      by : (b : Bool) → nat_eq s.frame.item N ≡ b → (if b then only_unit (gives [] v s) else gives [] v s) ≡ results.ends w finished → GuardEnds (Give t) (v ∷ []) s
      by true q e = only (is_unit v) refl (eqb-true s.frame.item N q) e
      by false q e = absurd (cc)
  guard_why (Give t) [] s w e = absurd (by (nat_eq s.frame.item N) e)
    where
      by : (b : Bool) → (if b then only_unit (results.ends [] (wrong endings.mistyped)) else results.ends [] (wrong endings.mistyped)) ≡ results.ends w finished → ⊥
      by true e = cc
      by false e = cc
  guard_why (Give t) (v ∷ u ∷ vs) s w e = absurd (by (nat_eq s.frame.item N) e)
    where
      by : (b : Bool) → (if b then only_unit (results.ends [] (wrong endings.mistyped)) else results.ends [] (wrong endings.mistyped)) ≡ results.ends w finished → ⊥
      by true e = cc
      by false e = cc
  guard_why (Declare x) vs s w e = absurd (not_finished (Declare x) vs s w e)
  guard_why (Dead x) vs s w e = absurd (not_finished (Dead x) vs s w e)
  guard_why (Read m p d) vs s w e = absurd (not_finished (Read m p d) vs s w e)
  guard_why (Write p d ss) vs s w e = absurd (not_finished (Write p d ss) vs s w e)
  guard_why (Borrow k p d) vs s w e = absurd (not_finished (Borrow k p d) vs s w e)
  guard_why (Test p c) vs s w e = absurd (not_finished (Test p c) vs s w e)
  guard_why (Call f ts d) vs s w e = absurd (not_finished (Call f ts d) vs s w e)
  guard_why (Build k js ts d) vs s w e = absurd (not_finished (Build k js ts d) vs s w e)
  guard_why (Input d) vs s w e = absurd (not_finished (Input d) vs s w e)
  guard_why (Print d) vs s w e = absurd (not_finished (Print d) vs s w e)

  -- ---- what it reaches the plain way reaches

  module _ (P : Functions) where
    plainly_reached : {f : ℕ} {vs : List Value} {s0 : State} {w : List Action} {s : State} {K : Pending} → Reached (guarding N) P f vs s0 w s K → Reached plainly P f vs s0 w s K
    plainly_reached (starts F q) = starts F q
    plainly_reached (performs w s K F a us K1 t u s1 q d is r e) = performs w s K F a us K1 t u s1 q d is (plainly_reached r) (acts_give a.act us s t u s1 e)
    plainly_reached (comes_back w s K F G n g ts d us o m s1 v q un pr is r qg wk rg) = comes_back w s K F G n g ts d us o m s1 v q un pr is (plainly_reached r) qg wk (plainly_reached rg)
    plainly_reached (takes_turn s n e r) = takes_turn s n e (plainly_reached r)
    plainly_reached (gets_unit d F q i un r) = gets_unit d F q i un (plainly_reached r)
    plainly_reached (lets_go t r) = lets_go t (plainly_reached r)

    plainly_active : {f0 : ℕ} {vs0 : List Value} {s0 : State} {f : ℕ} {vs : List Value} {s : State} → Active (guarding N) P f0 vs0 s0 f vs s → Active plainly P f0 vs0 s0 f vs s
    plainly_active first = first
    plainly_active (calls_on f vs s1 w s K F G n g ts d us act q un pr is r qg) = calls_on f vs s1 w s K F G n g ts d us (plainly_active act) q un pr is (plainly_reached r) qg

-- an activation is of its frame's item
module _ (P : Functions) where
  reached_item : {f : ℕ} {vs : List Value} {s0 : State} {w : List Action} {s : State} {K : Pending} → Reached plainly P f vs s0 w s K → s0.frame.item ≡ f → s.frame.item ≡ f
  reached_item (starts F q) h = h
  reached_item {f = f} (performs w s K F a us K1 t u s1 q d is r e) h = subst (λ x. DoneStays f x) e (plain_stays f a.act us s (reached_item r h))
  reached_item (comes_back w s K F G n g ts d us o m s1 v q un pr is r qg wk rg) h = reached_item r h
  reached_item (takes_turn s n e r) h = reached_item r h
  reached_item (gets_unit d F q i un r) h = reached_item r h
  reached_item (lets_go t r) h = reached_item r h

  active_item : {f0 : ℕ} {vs0 : List Value} {s0 : State} {f : ℕ} {vs : List Value} {s : State} → Active plainly P f0 vs0 s0 f vs s → s0.frame.item ≡ f0 → s.frame.item ≡ f
  active_item first h = h
  active_item (calls_on f vs s1 w s K F G n g ts d us act q un pr is r qg) h = refl

-- ---- a program that acts by types

module _ (N : ℕ) (D : Declarations) (Ts : ℕ → Typing) (P : Program) (all : ProgramTyped D Ts P.functions) (declared : result_declared (slice_get D N) ≡ Some unit_shape) (formed : AllFormed P.functions (λ f. Any)) where
  result_unit : (f : ℕ) (F : Function) → IsFunction P.functions f F → f ≡ N → (Ts f).result ≡ unit_shape
  result_unit f F q e = some_same (sym (subst (λ z. result_declared (slice_get z f) ≡ Some (Ts f).result) (all.declared f) (all.functions f F q).signed.gives) ∙ subst (λ i. result_declared (slice_get D i) ≡ Some unit_shape) (sym e) declared)

  shape_unit : (t : Typ) (v : Value) → t ≡ unit_shape → HasShape t v → v ≡ unit_value
  shape_unit t v e h = subst (λ z. HasShape z v) e h

  not_given : (f : ℕ) (F : Function) → IsFunction P.functions f F → {Rs : Temporary → Type 0} (b : Act) (us : List Value) (s : State) (K : Pending) (K1 : Value → Pending) → GuardEnds N b us s → Does Rs b us K K1 → ActTyped (Ts f) b
      → (S : Store) × StateTyped false (Ts f) S s K → s.frame.item ≡ f → ⊥
  not_given f F q _ _ s _ _ (guard_ends item other) (gives_up {t = t} {v = v}) typed st here_item =
      true_false (sym (ap is_unit (shape_unit ((Ts f).temporaries t) v (typed ∙ result_unit f F q (sym here_item ∙ item)) (pending_shape false (Ts f) st.0 t v _ st.1.pending here))) ∙ other)

  ends_otherwise : (given : List ℤ) (n : ℕ) {e : Ending} → Ends (guarding N) P.functions P.main [] (starting P given n) e → e ≡ finished → ⊥
  ends_otherwise given n (by_action f vs s1 w s K F a us K1 t act r q d is perf) e =
      let act1 = plainly_active N P.functions act in
      let r1 = plainly_reached N P.functions r in
      not_given f F q a.act us s K K1 (guard_why N a.act us s t (subst (λ x. acts N a.act us s ≡ results.ends t x) e perf)) d ((all.functions f F q).acts w a is)
      (reached_typed plainly plainly_keeps D Ts P all false (λ f G x w a is. tt) given n f vs s1 w s K act1 r1) (reached_item P.functions r1 (active_item P.functions act1 refl))
  ends_otherwise given n without_turns e = cc
  ends_otherwise given n (at_no_function f vs s1 w s K F m g ts d us act r q pr is none) e = cc
  ends_otherwise given n (at_other_number f vs s1 w s K F G m g ts d us act r q pr is qg none) e = cc
  ends_otherwise given n (starts_with_other_number F q none) e = cc
  ends_otherwise given n (at_no_arm f vs s1 w s K F S l us act r q c fi fa) e = cc
  ends_otherwise given n (at_no_value f F o x q wk ends_none) e = cc

  -- a call at the start of a run, of what stands there
  not_none : (given : List ℤ) (n : ℕ) (w : List ℕ) (o : Option (Option Function)) → (o ≡ Some None) ⊎ (o ≡ None) → meaning.found o (λ g. take_turn (begins given n) (λ s1. meaning.entered (guarding N) (meaning.below_level (guarding N) P.functions n) P.main g [] s1)) ≡ stops w finished → ⊥
  not_none given n w _ (inl refl) e = cc
  not_none given n w _ (inr refl) e = cc

  not_at_once : (given : List ℤ) (w : List ℕ) (F : Function) → turn_at 0 (begins given 0) (λ s1. meaning.entered (guarding N) (meaning.below_level (guarding N) P.functions 0) P.main F [] s1) ≡ stops w finished → ⊥
  not_at_once given w F e = cc

  never : (given : List ℤ) (n : ℕ) (w : List ℕ) → run_by (guarding N) P given n ≡ stops w finished → ⊥
  never given n w e = by n (element P.functions P.main) refl e
    where
      started : (F : Function) (n : ℕ) → element P.functions P.main ≡ Some (Some F) → run_by (guarding N) P given n ≡ stops w finished → ⊥
      started F zero q e = not_at_once given w F (unfold take_turn in subst (λ o. meaning.found o (λ g. take_turn (begins given 0) (λ s1. meaning.entered (guarding N) (meaning.below_level (guarding N) P.functions 0) P.main g [] s1)) ≡ stops w finished) q e)
      started F (suc m) q e = ends_otherwise given m (runs_end_for_reasons (guarding N) (behaves N) P formed F q given m w finished e) refl

      by : (n : ℕ) (o : Option (Option Function)) → element P.functions P.main ≡ o → run_by (guarding N) P given n ≡ stops w finished → ⊥
      by n None q e = not_none given n w (element P.functions P.main) (inr q) e
      by n (Some None) q e = not_none given n w (element P.functions P.main) (inl q) e
      by n (Some (Some F)) q e = started F n q e

  -- so what drops what its calls give runs as what gives it
  module _ (Q : Program) (u : UndropsProgram N P Q) where
    guarded_same : (given : List ℤ) (n : ℕ) → run_by (guarding N) Q given n ≡ run_by (guarding N) P given n
    guarded_same given n = subst (λ f. called (guarding N) Q.functions n f [] (begins given n) ≡ called (guarding N) P.functions n P.main [] (begins given n)) u.mains
        (called_same (guarding N) (blind N) N P.functions Q.functions u.all (call_gives_unit N P.functions) n P.main [] (begins given n))

    pub undropped_runs : (given : List ℤ) (n : ℕ) → run_by plainly Q given n ≡ run_by plainly P given n
    undropped_runs given n = by (same_or_ended N P given n) (same_or_ended N Q given n)
      where
        by : SameOrEnded N (run_by (guarding N) P given n) (run_by plainly P given n) → SameOrEnded N (run_by (guarding N) Q given n) (run_by plainly Q given n) → run_by plainly Q given n ≡ run_by plainly P given n
        by (inl p) (inl q) = sym q ∙ (guarded_same given n ∙ p)
        by (inr e) q = absurd (never given n e.0 e.1)
        by p (inr e) = absurd (never given n e.0 (sym (guarded_same given n) ∙ e.1))
