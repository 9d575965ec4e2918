-- A way to act by which one function ends the run where it would give another value than the unit: so its calls give the unit, in each state.
use Rattle.std.proofs.Common.{◌≡◌, ℕ, ℤ, zero, suc, Bool, true, false, nat_eq, List, [], ◌∷◌, Option, Some, None, refl, sym, subst, eq-eqb, if◌then◌else◌}
use Rattle.rx_typed.specs.Tree as tree
use Rattle.rx_typed.specs.Tree.{Mark, Exp, Operands, Scrutinee, Arms, Body, Function, Temporary, Parameter, temporary_of}
use Rattle.rx_lower_walks.specs.Matching.{PartTest, Binding, tests, bindings}
use Rattle.rx_lower_walks.specs.Actions.{Act, Declare, Dead, Read, Write, Borrow, Test, Call, Build, Input, Print, Give, Action, Subject, does, at_mark, test_of, taken, declared, written, subject}
use Rattle.rx_lower_walks.specs.Orders.{Exit, breaks, continues, returns, exit_node, declared_parameter, written_parameter}
use Rattle.rx_meaning.specs.Endings.{Cause, Ending, finished}
use Rattle.rx_meaning.specs.Straying.{why_no_part, why_not_found, why_not_written, why_not_checked}
use Rattle.rx_meaning.specs.Places.{spot, found, after_write}
use Rattle.rx_meaning.specs.Operators as operators
use Rattle.rx_meaning.specs.Operators.{Computed, make, shown}
use Rattle.rx_meaning.specs.Values.{Value, number, truth, whole, tagged, pointer, lacking, no_value, unit_value, get, element, Frame, State, with_turns}
use Rattle.rx_meaning.specs.Values as values_of
use Rattle.rx_meaning.specs.Endings as endings
use Rattle.rx_meaning.specs.Places as places
use Rattle.rx_meaning.specs.Results as results
use Rattle.rx_meaning.specs.Results.{Result, on, jumps, stops, Done, or_ends, after, bind, result_of}
use Rattle.rx_meaning.specs.Acting.{Acting, performed, checked, computed, next_input, does_plainly}
use Rattle.rx_meaning.specs.Patterns.{decided, tested, closed, took, bound, begun}
use Rattle.rx_meaning.specs.Expressions as meaning
use Rattle.rx_meaning.specs.Expressions.{Functions, Meaning, take_turn, turn_at, passed, returned, with_arguments, value, values, matched, arms, body, below_level}

-- ---- the way to act

abbrev pub is_unit : Value → Bool
is_unit (whole no_value) = true
is_unit _ = false

abbrev pub only_unit : Done ℕ → Done ℕ
only_unit (results.gives w v s) = if is_unit v then results.gives w v s else results.ends w finished
only_unit (results.ends w e) = results.ends w e

abbrev pub acts : ℕ → Act → List Value → State → Done ℕ
acts N (Give t) vs s = if nat_eq s.frame.item N then only_unit (does_plainly (Give t) vs s) else does_plainly (Give t) vs s
acts N a vs s = does_plainly a vs s

-- by the function's item
abbrev pub guarding : ℕ → Acting ℕ
guarding N = record { perform = λ a vs s. acts N a.act vs s; inner = λ w. w }

pub data OnUnit : Result ℕ Value → Type 0 where
  on_unit : {w : List ℕ} {s : State} → OnUnit (on w unit_value s)
  no_gift : {w : List ℕ} {x : Exit} {v : Value} {s : State} → OnUnit (jumps w x v s)
  no_end : {w : List ℕ} {e : Ending} → OnUnit (stops w e)

is_the_unit : (v : Value) → is_unit v ≡ true → v ≡ unit_value
is_the_unit (whole no_value) e = refl
is_the_unit (number k z) e = absurd (cc)
is_the_unit (truth b) e = absurd (cc)
is_the_unit (whole (values_of.value_and v vs)) e = absurd (cc)
is_the_unit (tagged i vs) e = absurd (cc)
is_the_unit (pointer i ss m) e = absurd (cc)
is_the_unit (lacking l) e = absurd (cc)

-- ---- an activation of the function stays in its frame, and returns the unit

abbrev pub Stays : ℕ → State → Type 0
Stays N s = s.frame.item ≡ N

pub data Keeps (N : ℕ) {X : Type 0} : Result ℕ X → Type 0 where
  goes_on : {w : List ℕ} {a : X} {s : State} → Stays N s → Keeps N (on w a s)
  breaks_off : {w : List ℕ} {n l : ℕ} {v : Value} {s : State} → Stays N s → Keeps N (jumps w (breaks n l) v s)
  continues_at : {w : List ℕ} {n l : ℕ} {v : Value} {s : State} → Stays N s → Keeps N (jumps w (continues n l) v s)
  returns_unit : {w : List ℕ} {n : ℕ} {s : State} → Stays N s → Keeps N (jumps w (returns n) unit_value s)
  ends_so : {w : List ℕ} {e : Ending} → Keeps N (stops w e)

-- what an action gives
pub data Given (N : ℕ) : Result ℕ Value → Type 0 where
  given_unit : {w : List ℕ} {s : State} → Stays N s → Given N (on w unit_value s)
  given_end : {w : List ℕ} {e : Ending} → Given N (stops w e)

module _ (N : ℕ) (A : Acting ℕ) (keeps_act : (a : Action) (vs : List Value) (s : State) → Stays N s → Keeps N (performed A a vs s))
    (given_act : (m : Mark) (t : Temporary) (vs : List Value) (s : State) → Stays N s → Given N (performed A (at_mark m (Give t)) vs s)) where
  abbrev On : State → Type 0
  On s = Stays N s

  keeps_after : {X : Type 0} (w : List ℕ) (r : Result ℕ X) → Keeps N r → Keeps N (after w r)
  unfolding after
  keeps_after w _ (goes_on h) = goes_on h
  keeps_after w _ (breaks_off h) = breaks_off h
  keeps_after w _ (continues_at h) = continues_at h
  keeps_after w _ (returns_unit h) = returns_unit h
  keeps_after w _ ends_so = ends_so

  keeps_bind : {X Y : Type 0} (r : Result ℕ X) (go : X → State → Result ℕ Y) → Keeps N r → ((a : X) (s : State) → On s → Keeps N (go a s)) → Keeps N (bind r go)
  unfolding bind
  keeps_bind _ go (goes_on {w = w} {a = a} {s = s} h) l = keeps_after w (go a s) (l a s h)
  keeps_bind _ go (breaks_off h) l = breaks_off h
  keeps_bind _ go (continues_at h) l = continues_at h
  keeps_bind _ go (returns_unit h) l = returns_unit h
  keeps_bind _ go ends_so l = ends_so

  given_bind : {Y : Type 0} (r : Result ℕ Value) (go : Value → State → Result ℕ Y) → Given N r → ((s : State) → On s → Keeps N (go unit_value s)) → Keeps N (bind r go)
  unfolding bind
  given_bind _ go (given_unit {w = w} {s = s} h) l = keeps_after w (go unit_value s) (l s h)
  given_bind _ go given_end l = ends_so

  -- ---- scopes, patterns, turns, calls

  abbrev KeepsOn : (State → Result ℕ Value) → Type 0
  KeepsOn go = (s : State) → On s → Keeps N (go s)

  keeps_closed : (n x : ℕ) (r : Result ℕ Value) → Keeps N r → Keeps N (closed A n x r)
  unfolding closed
  keeps_closed n x _ (goes_on {w = w} {s = s} h) = keeps_after w _ (keeps_bind _ _ (keeps_act (does n (Dead x)) [] s h) (λ u s1 h1. goes_on h1))
  keeps_closed n x _ (breaks_off {w = w} {n = j} {l = l} {s = s} h) = keeps_after w _ (keeps_bind _ _ (keeps_act (does (exit_node (breaks j l)) (Dead x)) [] s h) (λ u s1 h1. breaks_off h1))
  keeps_closed n x _ (continues_at {w = w} {n = j} {l = l} {s = s} h) = keeps_after w _ (keeps_bind _ _ (keeps_act (does (exit_node (continues j l)) (Dead x)) [] s h) (λ u s1 h1. continues_at h1))
  keeps_closed n x _ (returns_unit {w = w} {n = j} {s = s} h) = keeps_after w _ (keeps_bind _ _ (keeps_act (does (exit_node (returns j)) (Dead x)) [] s h) (λ u s1 h1. returns_unit h1))
  keeps_closed n x _ ends_so = ends_so

  keeps_decided : (v : Value) (go other : State → Result ℕ Value) (s : State) → On s → KeepsOn go → KeepsOn other → Keeps N (decided v go other s)
  unfolding decided
  keeps_decided (truth true) go other s h k l = k s h
  keeps_decided (truth false) go other s h k l = l s h
  keeps_decided (number a z) go other s h k l = ends_so
  keeps_decided (whole vs) go other s h k l = ends_so
  keeps_decided (tagged i vs) go other s h k l = ends_so
  keeps_decided (pointer i ss m) go other s h k l = ends_so
  keeps_decided (lacking a) go other s h k l = ends_so

  keeps_tested : (S : Subject) (vs : List Value) (ts : List PartTest) (go next : State → Result ℕ Value) (s : State) → On s → KeepsOn go → KeepsOn next → Keeps N (tested A S vs ts go next s)
  unfolding tested
  keeps_tested S vs [] go next s h k l = k s h
  keeps_tested S vs (t ∷ ts) go next s h k l = keeps_bind _ _ (keeps_act (test_of S t) vs s h) (λ v s1 h1. keeps_decided v _ _ s1 h1 (λ s2 h2. keeps_tested S vs ts go next s2 h2 k l) l)

  keeps_took : (n : ℕ) (o : Option Act) (vs : List Value) (s : State) → On s → Keeps N (took A n o vs s)
  unfolding took
  keeps_took n None vs s h = goes_on h
  keeps_took n (Some a) vs s h = keeps_bind _ _ (keeps_act (does n a) vs s h) (λ v s1 h1. goes_on h1)

  keeps_bound : (S : Subject) (vs : List Value) (bs : List Binding) (n : ℕ) (go : State → Result ℕ Value) (s : State) → On s → KeepsOn go → Keeps N (bound A S vs bs n go s)
  unfolding bound
  keeps_bound S vs [] n go s h k = k s h
  keeps_bound S vs (b ∷ bs) n go s h k = keeps_bind _ _ (keeps_took b.node (taken S b) vs s h) (λ ws s1 h1. keeps_bind _ _ (keeps_act (declared b) [] s1 h1) (λ u s2 h2.
      keeps_bind _ _ (keeps_act (written S b) ws s2 h2) (λ w s3 h3. keeps_closed n b.variable _ (keeps_bound S vs bs n go s3 h3 k))))

  keeps_begun : (i : ℕ) (xs : List ℕ) (n : ℕ) (go : State → Result ℕ Value) (s : State) → On s → KeepsOn go → Keeps N (begun A i xs n go s)
  unfolding begun
  keeps_begun i [] n go s h k = k s h
  keeps_begun i (x ∷ xs) n go s h k = keeps_bind _ _ (keeps_act (does i (Declare x)) [] s h) (λ u s1 h1. keeps_closed n x _ (keeps_begun i xs n go s1 h1 k))

  keeps_turn : (s : State) (go : State → Result ℕ Value) → On s → KeepsOn go → Keeps N (take_turn s go)
  unfolding take_turn
  keeps_turn s go h k = by s.turns
    where
      by : (n : ℕ) → Keeps N (turn_at n s go)
      by zero = ends_so
      by (suc n) = k (with_turns s n) h

  keeps_if : {X : Type 0} (b : Bool) (r q : Result ℕ X) → Keeps N r → Keeps N q → Keeps N (if b then r else q)
  keeps_if true r q h k = h
  keeps_if false r q h k = k

  keeps_passed : (l : ℕ) (r : Result ℕ Value) (again : State → Result ℕ Value) → Keeps N r → KeepsOn again → Keeps N (passed l r again)
  unfolding passed
  keeps_passed l _ again (goes_on {w = w} {s = s} h) k = keeps_after w (again s) (k s h)
  keeps_passed l _ again (breaks_off {w = w} {n = n} {l = i} {v = v} {s = s} h) k = keeps_if (nat_eq i l) (on w unit_value s) (jumps w (breaks n i) v s) (goes_on h) (breaks_off h)
  keeps_passed l _ again (continues_at {w = w} {n = n} {l = i} {v = v} {s = s} h) k = keeps_if (nat_eq i l) (after w (again s)) (jumps w (continues n i) v s) (keeps_after w (again s) (k s h)) (continues_at h)
  keeps_passed l _ again (returns_unit h) k = returns_unit h
  keeps_passed l _ again ends_so k = ends_so

  keeps_returned : (F : Frame) (r : Result ℕ Value) → F.item ≡ N → Keeps N (returned A F r)
  unfolding returned
  keeps_returned F (on w v s) h = ends_so
  keeps_returned F (jumps w (returns n) v s) h = goes_on h
  keeps_returned F (jumps w (breaks n l) v s) h = ends_so
  keeps_returned F (jumps w (continues n l) v s) h = ends_so
  keeps_returned F (stops w e) h = ends_so

  keeps_arguments : (ps : List Parameter) (n : ℕ) (vs : List Value) (go : State → Result ℕ Value) (s : State) → On s → KeepsOn go → Keeps N (with_arguments A ps n vs go s)
  unfolding with_arguments
  keeps_arguments [] n [] go s h k = k s h
  keeps_arguments [] n (v ∷ vs) go s h k = ends_so
  keeps_arguments (p ∷ ps) n [] go s h k = ends_so
  keeps_arguments (p ∷ ps) n (v ∷ vs) go s h k =
      keeps_bind _ _ (keeps_act (declared_parameter p) [] s h) (λ u s1 h1. keeps_bind _ _ (keeps_act (written_parameter p) (v ∷ []) s1 h1) (λ w s2 h2. keeps_closed n p.variable _ (keeps_arguments ps n vs go s2 h2 k)))

  keeps_found : (o : Option (Option Function)) (go : Function → Result ℕ Value) → ((g : Function) → Keeps N (go g)) → Keeps N (meaning.found o go)
  keeps_found (Some (Some g)) go k = k g
  keeps_found (Some None) go k = ends_so
  keeps_found None go k = ends_so

  -- ---- meanings

  module _ (P : Functions) (b : Meaning ℕ) (low : (e : Exp) (d : Temporary) (s : State) → On s → Keeps N (b e d s)) where
    mutual
      unfolding value

      keeps_value : (e : Exp) (d : Temporary) (s : State) → On s → Keeps N (value A P b e d s)
      keeps_value (tree.read m v p) d s h = keeps_act _ [] s h
      keeps_value (tree.borrow m k p) d s h = keeps_act _ [] s h
      keeps_value (tree.share m e) d s h = keeps_bind _ _ (keeps_value e _ s h) (λ v s1 h1. keeps_act _ (v ∷ []) s1 h1)
      keeps_value (tree.build m w es) d s h = keeps_bind _ _ (keeps_values es s h) (λ vs s1 h1. keeps_act _ vs s1 h1)
      keeps_value (tree.unit m) d s h = goes_on h
      keeps_value (tree.lazily m t e f) d s h = keeps_bind _ _ (keeps_value e _ s h) (λ v s1 h1. keeps_bind _ _ (keeps_act _ (v ∷ []) s1 h1) (λ u s2 h2.
          keeps_bind _ _ (keeps_decided u _ _ s2 h2 (λ s3 h3. keeps_value f _ s3 h3) (λ s3 h3. goes_on h3)) (λ w s4 h4. keeps_act _ (w ∷ []) s4 h4)))
      keeps_value (tree.assign m p e) d s h = keeps_bind _ _ (keeps_value e _ s h) (λ v s1 h1. keeps_act _ (v ∷ []) s1 h1)
      keeps_value (tree.update m o p e) d s h = keeps_bind _ _ (keeps_value e _ s h) (λ v s1 h1. keeps_bind _ _ (keeps_act _ [] s1 h1) (λ u s2 h2.
          keeps_bind _ _ (keeps_act _ (u ∷ v ∷ []) s2 h2) (λ w s3 h3. keeps_act _ (w ∷ []) s3 h3)))
      keeps_value (tree.call m f es) d s h = keeps_bind _ _ (keeps_values es s h) (λ vs s1 h1. keeps_bind _ _ (keeps_act _ vs s1 h1) (λ u s2 h2.
          keeps_found (element P f) _ (λ g. keeps_turn s2 _ h2 (λ s3 h3. keeps_returned s3.frame _ h3))))
      keeps_value (tree.input m) d s h = keeps_act _ [] s h
      keeps_value (tree.print m e) d s h = keeps_bind _ _ (keeps_value e _ s h) (λ v s1 h1. keeps_act _ (v ∷ []) s1 h1)
      keeps_value (tree.block m c) d s h = keeps_body c m.node d s h
      keeps_value (tree.choose m c l) d s h = keeps_bind _ _ (keeps_matched c s h) (λ vs s1 h1. keeps_arms (subject c) vs l d s1 h1)
      keeps_value (tree.loop m l e) d s h = keeps_turn s _ h (λ s1 h1. keeps_passed l _ _ (low e (temporary_of e) s1 h1) (λ s2 h2. low (tree.loop m l e) d s2 h2))
      keeps_value (tree.jump m l true) d s h = continues_at h
      keeps_value (tree.jump m l false) d s h = breaks_off h
      keeps_value (tree.give m e) d s h = keeps_bind _ _ (keeps_value e _ s h) (λ v s1 h1.
          given_bind _ _ (given_act m (temporary_of e) (v ∷ []) s1 h1) (λ s2 h2. returns_unit h2))

      keeps_values : (es : Operands) (s : State) → On s → Keeps N (values A P b es s)
      keeps_values tree.no_operand s h = goes_on h
      keeps_values (tree.operand_and i e es) s h = keeps_bind _ _ (keeps_value e _ s h) (λ v s1 h1. keeps_bind _ _ (keeps_values es s1 h1) (λ vs s2 h2. goes_on h2))

      keeps_matched : (c : Scrutinee) (s : State) → On s → Keeps N (matched A P b c s)
      keeps_matched (tree.at_place m p) s h = goes_on h
      keeps_matched (tree.of_value e) s h = keeps_bind _ _ (keeps_value e _ s h) (λ v s1 h1. goes_on h1)

      keeps_arms : (S : Subject) (vs : List Value) (l : Arms) (d : Temporary) (s : State) → On s → Keeps N (arms A P b S vs l d s)
      keeps_arms S vs tree.no_arm d s h = ends_so
      keeps_arms S vs (tree.arm_and q e l) d s h =
          keeps_tested S vs (tests [] q) _ _ s h (λ s1 h1. keeps_bound S vs (bindings [] q) _ _ s1 h1 (λ s2 h2. keeps_value e d s2 h2)) (λ s1 h1. keeps_arms S vs l d s1 h1)

      keeps_body : (c : Body) (n : ℕ) (d : Temporary) (s : State) → On s → Keeps N (body A P b c n d s)
      keeps_body (tree.ends e) n d s h = keeps_value e d s h
      keeps_body (tree.runs e c) n d s h = keeps_bind _ _ (keeps_value e _ s h) (λ v s1 h1. keeps_body c n d s1 h1)
      keeps_body (tree.declares i xs c) n d s h = keeps_begun i xs n _ s h (λ s1 h1. keeps_body c n d s1 h1)
      keeps_body (tree.lets i q x c) n d s h = keeps_bind _ _ (keeps_matched x s h) (λ vs s1 h1. keeps_bound (subject x) vs (bindings [] q) n _ s1 h1 (λ s2 h2. keeps_body c n d s2 h2))

  keeps_below : (P : Functions) (n : ℕ) (e : Exp) (d : Temporary) (s : State) → On s → Keeps N (below_level A P n e d s)
  unfolding below_level
  keeps_below P zero e d s h = ends_so
  keeps_below P (suc n) e d s h = keeps_value P (below_level A P n) (λ e1 d1 s1 h1. keeps_below P n e1 d1 s1 h1) e d s h

  -- ---- its calls give the unit

  on_after : (w : List ℕ) (r : Result ℕ Value) → OnUnit r → OnUnit (after w r)
  unfolding after
  on_after w _ on_unit = on_unit
  on_after w _ no_gift = no_gift
  on_after w _ no_end = no_end

  on_bind : {X : Type 0} (r : Result ℕ X) (go : X → State → Result ℕ Value) → ((a : X) (s : State) → OnUnit (go a s)) → OnUnit (bind r go)
  unfolding bind
  on_bind (on w a s) go k = on_after w (go a s) (k a s)
  on_bind (jumps w x v s) go k = no_gift
  on_bind (stops w e) go k = no_end

  on_returned : (F : Frame) (r : Result ℕ Value) → Keeps N r → OnUnit (returned A F r)
  unfolding returned
  on_returned F _ (goes_on h) = no_end
  on_returned F _ (returns_unit h) = on_unit
  on_returned F _ (breaks_off h) = no_end
  on_returned F _ (continues_at h) = no_end
  on_returned F _ ends_so = no_end

  on_found : (o : Option (Option Function)) (go : Function → Result ℕ Value) → ((g : Function) → OnUnit (go g)) → OnUnit (meaning.found o go)
  on_found (Some (Some g)) go k = k g
  on_found (Some None) go k = no_end
  on_found None go k = no_end

  on_turn : (s : State) (go : State → Result ℕ Value) → ((s1 : State) → OnUnit (go s1)) → OnUnit (take_turn s go)
  unfolding take_turn
  on_turn s go k = by s.turns
    where
      by : (n : ℕ) → OnUnit (turn_at n s go)
      by zero = no_end
      by (suc n) = k (with_turns s n)

  call_gives : (P : Functions) (n : ℕ) (m : Mark) (es : Operands) (d : Temporary) (s : State) → OnUnit (value A P (below_level A P n) (tree.call m N es) d s)
  unfolding value
  call_gives P n m es d s = on_bind _ _ (λ vs s1. on_bind _ _ (λ u s2. on_found (element P N) _ (λ g. on_turn s2 _ (λ s3.
      on_returned s3.frame _ (keeps_arguments g.params _ vs _ (record s3 { frame = values_of.new_frame N }) refl (λ s4 h4. keeps_below P n g.body (temporary_of g.body) s4 h4))))))

-- ---- its actions

module _ (N : ℕ) where
  abbrev pub DoneStays : Done ℕ → Type 0
  DoneStays (results.gives w v s) = Stays N s
  DoneStays (results.ends w e) = Unit {0}

  done_or : {X : Type 0} (c : Cause) (o : Option X) (f : X → Done ℕ) → ((a : X) → DoneStays (f a)) → DoneStays (or_ends c o f)
  done_or c None f k = tt
  done_or c (Some a) f k = k a

  computed_stays : (c : Computed) (s : State) → Stays N s → DoneStays (computed c s)
  computed_stays (operators.gives v) s h = h
  computed_stays (operators.traps t) s h = tt
  computed_stays operators.senseless s h = tt

  input_stays : (zs : List ℤ) (s : State) → Stays N s → DoneStays (next_input zs s)
  input_stays [] s h = h
  input_stays (z ∷ zs) s h = h

  pub plain_stays : (a : Act) (vs : List Value) (s : State) → Stays N s → DoneStays (does_plainly a vs s)
  plain_stays (Declare x) vs s h = h
  plain_stays (Dead x) vs s h = h
  plain_stays (Read m p d) vs s h = done_or (why_not_found p vs s) (found p vs s) _ (λ f. done_or endings.lacks (places.whole_value f) _ (λ v. h))
  plain_stays (Write p t ss) (v ∷ []) s h =
      done_or (why_no_part ss v) (get ss v) _ (λ u. done_or (why_not_found p [] s) (spot p [] s) _ (λ at. done_or (why_not_written s.memory at) (after_write u s.memory at) _ (λ M. h)))
  plain_stays (Write p t ss) [] s h = tt
  plain_stays (Write p t ss) (v ∷ u ∷ vs) s h = tt
  plain_stays (Borrow k p d) vs s h = done_or (why_not_found p vs s) (spot p vs s) _ (λ at. done_or endings.astray (places.reference_to k at) _ (λ v. h))
  plain_stays (Test p c) vs s h = done_or (why_not_found p vs s) (found p vs s) _ (λ f. done_or (why_not_checked f.1) (checked c f.1) _ (λ b. h))
  plain_stays (Call f ts d) vs s h = h
  plain_stays (Build w js ts d) vs s h = computed_stays (make w js vs) s h
  plain_stays (Input d) vs s h = input_stays s.input s h
  plain_stays (Print t) (v ∷ []) s h = done_or (why_not_checked v) (shown v) _ (λ bytes. h)
  plain_stays (Print t) [] s h = tt
  plain_stays (Print t) (v ∷ u ∷ vs) s h = tt
  plain_stays (Give t) (v ∷ []) s h = h
  plain_stays (Give t) [] s h = tt
  plain_stays (Give t) (v ∷ u ∷ vs) s h = tt

  unit_stays : (r : Done ℕ) → DoneStays r → DoneStays (only_unit r)
  unit_stays (results.gives w v s) h = by (is_unit v)
    where
      by : (b : Bool) → DoneStays (if b then results.gives w v s else results.ends w finished)
      by true = h
      by false = tt
  unit_stays (results.ends w e) h = tt

  either_stays : (b : Bool) (r : Done ℕ) → DoneStays r → DoneStays (if b then only_unit r else r)
  either_stays true r h = unit_stays r h
  either_stays false r h = h

  acts_stay : (a : Act) (vs : List Value) (s : State) → Stays N s → DoneStays (acts N a vs s)
  acts_stay (Give t) vs s h = either_stays (nat_eq s.frame.item N) (does_plainly (Give t) vs s) (plain_stays (Give t) vs s h)
  acts_stay (Declare x) vs s h = plain_stays (Declare x) vs s h
  acts_stay (Dead x) vs s h = plain_stays (Dead x) vs s h
  acts_stay (Read m p d) vs s h = plain_stays (Read m p d) vs s h
  acts_stay (Write p t ss) vs s h = plain_stays (Write p t ss) vs s h
  acts_stay (Borrow k p d) vs s h = plain_stays (Borrow k p d) vs s h
  acts_stay (Test p c) vs s h = plain_stays (Test p c) vs s h
  acts_stay (Call f ts d) vs s h = plain_stays (Call f ts d) vs s h
  acts_stay (Build w js ts d) vs s h = plain_stays (Build w js ts d) vs s h
  acts_stay (Input d) vs s h = plain_stays (Input d) vs s h
  acts_stay (Print t) vs s h = plain_stays (Print t) vs s h

  keeps_done : (r : Done ℕ) → DoneStays r → Keeps N (result_of r)
  unfolding result_of
  keeps_done (results.gives w v s) h = goes_on h
  keeps_done (results.ends w e) h = ends_so

  keeps_each : (a : Action) (vs : List Value) (s : State) → Stays N s → Keeps N (performed (guarding N) a vs s)
  keeps_each a vs s h = keeps_done (acts N a.act vs s) (acts_stay a.act vs s h)

  given_only : (r : Done ℕ) → DoneStays r → Given N (result_of (only_unit r))
  unfolding result_of
  given_only (results.gives w v s) h = by (is_unit v) (λ e. is_the_unit v e)
    where
      by : (b : Bool) → (b ≡ true → v ≡ unit_value) → Given N (result_of (if b then results.gives w v s else results.ends w finished))
      by true k = subst (λ u. Given N (on w u s)) (sym (k refl)) (given_unit h)
      by false k = given_end
  given_only (results.ends w e) h = given_end

  given_each : (m : Mark) (t : Temporary) (vs : List Value) (s : State) → Stays N s → Given N (performed (guarding N) (at_mark m (Give t)) vs s)
  given_each m t vs s h = by (nat_eq s.frame.item N) (eq-eqb s.frame.item N h)
    where
      by : (b : Bool) → b ≡ true → Given N (result_of (if b then only_unit (does_plainly (Give t) vs s) else does_plainly (Give t) vs s))
      by true e = given_only (does_plainly (Give t) vs s) (plain_stays (Give t) vs s h)
      by false e = absurd (cc)

  pub call_gives_unit : (P : Functions) (n : ℕ) (m : Mark) (es : Operands) (d : Temporary) (s : State) → OnUnit (value (guarding N) P (below_level (guarding N) P n) (tree.call m N es) d s)
  call_gives_unit P n m es d s = call_gives N (guarding N) keeps_each given_each P n m es d s
