-- Values of variables in a row: read and packed into a result, taken out of it again and received in variables of the answer. Each step
-- is computed.
use Rattle.std.proofs.Common.{◌≡◌, ℕ, zero, suc, ◌+◌, ◌<◌, Bool, true, false, nat_eq, List, [], ◌∷◌, ◌++◌, length, Some, None, refl, ap, ap₂, ◌∙◌, subst, arith, inl, inr, if◌then◌else◌}
use Rattle.rx_core.specs.declared.types.Step.{Step}
use Rattle.rx_typed.specs.Tree as tree
use Rattle.rx_typed.specs.Tree.{Mark, Exp, Body, Arms, Operands, Subpatterns, Temporary, own, mark_of, temporary_of, temporaries_of, fields_of}
use Rattle.rx_lower_walks.specs.Actions.{Write, Build, at_mark, does, in_temporary}
use Rattle.rx_lower_walks.specs.Matching as matching
use Rattle.rx_lower_walks.specs.Matching.{tests_in, bindings_in}
use Rattle.rx_meaning.specs.Straying.{why_no_part, why_not_found, why_not_written}
use Rattle.rx_meaning.specs.Places.{spot, after_write}
use Rattle.rx_meaning.specs.Values.{Value, Values, truth, whole, tagged, unit_value, no_value, value_and, and_then, field, get, is_set, element, with_element, slot_of, State, with_memory, with_variable}
use Rattle.rx_meaning.specs.Results as results
use Rattle.rx_meaning.specs.Results.{Result, on, after, bind, result_of, or_ends}
use Rattle.rx_meaning.specs.Operators.{for_field, arranged, fields}
use Rattle.rx_meaning.specs.Acting.{performed, plainly}
use Rattle.rx_meaning.specs.Patterns.{decided, tested, bound, took, closed}
use Rattle.rx_meaning.specs.Expressions.{Functions, Meaning, arms, value, values, body}
use Rattle.rx_meaning.proofs.Sequences.{after_nothing, bind_on, bind_bind, bind_same, closed_is}
use Rattle.rx_engine_simulation.specs.Sights.{In}
use Rattle.rx_engine_simulation.specs.Packing.{Way, bare, as_variant, no_way, Takes, takes_read, TakesAll, takes_none, takes_and, Gives, gives_unit, gives_empty, gives_one, gives_tuple, gives_variant, Receives, receives_none, receives_and, Picks, picks_here, picks_later, AreNew}
use Rattle.rx_engine_simulation.proofs.Memory.{put_other, at_end, at_before, at_below, length_more}
use Rattle.rx_engine_simulation.proofs.States.{Renaming}
use Rattle.rx_engine_simulation.proofs.Declaring.{eq_self, ne_false, new_slot, old_slot}
use Rattle.rx_engine_simulation.proofs.Parts.{declare_answer}
use Rattle.rx_engine_simulation.proofs.Entry.{with_value}
use Rattle.rx_engine_simulation.proofs.Given.{read_is, write_is, values_are}

-- ---- results

abbrev pub listed : List Value → Values
listed [] = no_value
listed (v ∷ vs) = value_and v (listed vs)

abbrev pub packed : Way → List Value → Value
packed bare [] = unit_value
packed bare (v ∷ []) = v
packed bare (v ∷ w ∷ vs) = whole (listed (v ∷ w ∷ vs))
packed (as_variant i) vs = tagged i (listed vs)
packed no_way vs = unit_value

-- ---- fields of operands that are counted

abbrev Counted : ℕ → List ℕ → Type 0
Counted a [] = Unit {0}
Counted a (i ∷ is) = (i ≡ a) × Counted (suc a) is

none_some : {A : Type 0} {a : A} → None ≡ Some a → ⊥
none_some e = cc

some_same : {A : Type 0} {a b : A} → Some a ≡ Some b → a ≡ b
some_same e = cc

for_counted : (a k i : ℕ) (is : List ℕ) (vs : List Value) (v : Value) → i ≡ a + k → Counted a is → length is ≡ length vs → element vs k ≡ Some v → for_field is vs i ≡ v
for_counted a k i is [] v e c l f = absurd (none_some f)
for_counted a k i [] (u ∷ vs) v e c l f = absurd (omega arith)
for_counted a zero i (n ∷ is) (u ∷ vs) v e c l f =
    let first : n ≡ a = c.0 in
    let same : n ≡ i = omega arith in
    ap (λ b. if b then u else for_field is vs i) (ap (λ n. nat_eq i n) same ∙ eq_self i) ∙ some_same f
for_counted a (suc k) i (n ∷ is) (u ∷ vs) v e c l f =
    let first : n ≡ a = c.0 in
    ap (λ b. if b then u else for_field is vs i) (ne_false n i (λ g. absurd (omega arith))) ∙ for_counted (suc a) k i is vs v (omega arith) c.1 (omega arith) f

arranged_is : (n a : ℕ) (is : List ℕ) (vs us : List Value) → length us ≡ n → ((k i : ℕ) (v : Value) → i ≡ a + k → element us k ≡ Some v → for_field is vs i ≡ v) → arranged n a is vs ≡ listed us
arranged_is zero a is vs [] e f = refl
arranged_is zero a is vs (u ∷ us) e f = absurd (omega arith)
arranged_is (suc n) a is vs [] e f = absurd (omega arith)
arranged_is (suc n) a is vs (u ∷ us) e f = ap₂ (λ v vs. value_and v vs) (f 0 a u (omega arith) refl) (arranged_is n (suc a) is vs us (omega arith) (λ k i v e g. f (suc k) i v (omega arith) g))

fields_listed : (is : List ℕ) (vs : List Value) → Counted 0 is → length is ≡ length vs → fields is vs ≡ listed vs
fields_listed is vs c l = arranged_is (length vs) 0 is vs vs refl (λ k i v e g. for_counted 0 k i is vs v e c l g)

takes_counted : {i : ℕ} {qs : List ℕ} {es : Operands} → TakesAll i qs es → Counted i (fields_of es)
takes_counted takes_none = tt
takes_counted (takes_and t r) = (refl, takes_counted r)

-- ---- variables that hold values, each set

pub data Holding (s : State) : List ℕ → List Value → Type 0 where
  holds_none : Holding s [] []
  holds_and : {q k : ℕ} {w : Value} {qs : List ℕ} {ws : List Value} → slot_of s.frame.slots q ≡ Some k → element s.memory k ≡ Some w → is_set w ≡ true → Holding s qs ws → Holding s (q ∷ qs) (w ∷ ws)

takes_length : {i : ℕ} {qs : List ℕ} {es : Operands} {s : State} {ws : List Value} → TakesAll i qs es → Holding s qs ws → length (fields_of es) ≡ length ws
takes_length takes_none holds_none = refl
takes_length (takes_and t r) (holds_and e f set h) = ap suc (takes_length r h)

module _ (Q : Functions) (low : Meaning ℕ) where
  pub takes_is : {q k : ℕ} {e : Exp} → Takes q e → (t : Temporary) (v : Value) (s : State) → slot_of s.frame.slots q ≡ Some k → element s.memory k ≡ Some v → is_set v ≡ true → value plainly Q low e t s ≡ on [] v s
  takes_is {q} {k} (takes_read {m = m} {moves = moves}) t v s e f set = read_is Q low m moves q k t v s e f set

  none_read : (s : State) → values plainly Q low tree.no_operand s ≡ on [] [] s
  unfolding value
  none_read s = refl

  pub values_held : {i : ℕ} {qs : List ℕ} {es : Operands} {s : State} {ws : List Value} → TakesAll i qs es → Holding s qs ws → values plainly Q low es s ≡ on [] ws s
  values_held {s = s} takes_none holds_none = none_read s
  values_held {i} {s = s} (takes_and {e = e} {es = es} t r) (holds_and {w = w} {ws = ws} f g set h) = values_are Q low i e es w ws s (takes_is t (temporary_of e) w s f g set) (values_held r h)

  tuple_is : (m : Mark) (es : Operands) (vs : List Value) (t : Temporary) (s : State) → values plainly Q low es s ≡ on [] vs s → value plainly Q low (tree.build m tree.tuple es) t s ≡ on [] (whole (fields (fields_of es) vs)) s
  unfolding value result_of
  tuple_is m es vs t s e = ap (λ r. bind r (λ vs s1. performed plainly (at_mark m (Build tree.tuple (fields_of es) (temporaries_of es) t)) vs s1)) e ∙ bind_on vs s _

  variant_is : (m : Mark) (i v : ℕ) (es : Operands) (vs : List Value) (t : Temporary) (s : State) → values plainly Q low es s ≡ on [] vs s → value plainly Q low (tree.build m (tree.variant_of i v) es) t s ≡ on [] (tagged v (fields (fields_of es) vs)) s
  unfolding value result_of
  variant_is m i v es vs t s e = ap (λ r. bind r (λ vs s1. performed plainly (at_mark m (Build (tree.variant_of i v) (fields_of es) (temporaries_of es) t)) vs s1)) e ∙ bind_on vs s _

  unit_is : (m : Mark) (t : Temporary) (s : State) → value plainly Q low (tree.unit m) t s ≡ on [] unit_value s
  unfolding value
  unit_is m t s = refl

  empty_is : (m mu : Mark) (t : Temporary) (s : State) → value plainly Q low (tree.block m (tree.ends (tree.unit mu))) t s ≡ on [] unit_value s
  unfolding value
  empty_is m mu t s = refl

  pub gives_is : {w : Way} {qs : List ℕ} {e : Exp} {ws : List Value} {s : State} → Gives w qs e → Holding s qs ws → (t : Temporary) → value plainly Q low e t s ≡ on [] (packed w ws) s
  gives_is {s = s} (gives_unit {m = m}) holds_none t = unit_is m t s
  gives_is {s = s} (gives_empty {m = m} {mu = mu}) holds_none t = empty_is m mu t s
  gives_is {s = s} (gives_one k) (holds_and {w = w} e f set holds_none) t = takes_is k t w s e f set
  gives_is {s = s} (gives_tuple {m = m} {es = es} k) (holds_and {w = v} e f set (holds_and {w = w} {ws = ws} e1 f1 set1 h)) t =
      tuple_is m es (v ∷ w ∷ ws) t s (values_held k (holds_and e f set (holds_and e1 f1 set1 h)))
      ∙ ap (λ vs. on [] (whole vs) s) (fields_listed (fields_of es) (v ∷ w ∷ ws) (takes_counted k) (takes_length k (holds_and e f set (holds_and e1 f1 set1 h))))
  gives_is {ws = ws} {s = s} (gives_variant {i = i} {v = v} {m = m} {es = es} k) h t =
      variant_is m i v es ws t s (values_held k h) ∙ ap (λ vs. on [] (tagged v vs) s) (fields_listed (fields_of es) ws (takes_counted k) (takes_length k h))

  -- behind another value in front
  pub variant_with : {qs : List ℕ} {ws : List Value} {es : Operands} {s : State} (m : Mark) (i v : ℕ) (u : Value) → TakesAll 1 qs es → Holding s qs ws → (vs : List ℕ) → vs ≡ 0 ∷ fields_of es → fields vs (u ∷ ws) ≡ listed (u ∷ ws)
  variant_with {ws = ws} {es = es} m i v u k h vs e = ap (λ is. fields is (u ∷ ws)) e ∙ fields_listed (0 ∷ fields_of es) (u ∷ ws) (refl, takes_counted k) (ap suc (takes_length k h))

-- ---- variables that receive values

-- as many, each value set
pub data Beside : List ℕ → List Value → Type 0 where
  beside_none : Beside [] []
  beside_and : {q : ℕ} {w : Value} {qs : List ℕ} {ws : List Value} → is_set w ≡ true → Beside qs ws → Beside (q ∷ qs) (w ∷ ws)

pub beside_of : {s : State} {qs : List ℕ} {ws : List Value} → Holding s qs ws → (os : List ℕ) → length os ≡ length qs → Beside os ws
beside_of holds_none [] e = beside_none
beside_of holds_none (o ∷ os) e = absurd (omega arith)
beside_of (holds_and a b set h) [] e = absurd (omega arith)
beside_of (holds_and a b set h) (o ∷ os) e = beside_and set (beside_of h os (omega arith))

abbrev pub with_all : List ℕ → List Value → State → State
with_all [] ws s = s
with_all (q ∷ qs) [] s = s
with_all (q ∷ qs) (w ∷ ws) s = with_all qs ws (with_value q w s)

abbrev pub Apart : List ℕ → Type 0
Apart [] = Unit {0}
Apart (q ∷ qs) = (In q qs → ⊥) × Apart qs

pub new_apart : (R : Renaming) (qs : List ℕ) → AreNew R qs → Apart qs
new_apart R [] n = tt
new_apart R (q ∷ qs) n = (n.1, new_apart R qs n.2)

pub all_slot : {qs : List ℕ} {ws : List Value} → Beside qs ws → (s : State) (y : ℕ) → (In y qs → ⊥) → slot_of (with_all qs ws s).frame.slots y ≡ slot_of s.frame.slots y
all_slot beside_none s y n = refl
all_slot (beside_and {q = q} {w = w} set b) s y n = all_slot b (with_value q w s) y (λ i. n (inr i)) ∙ old_slot q (length s.memory) y s.frame.slots (λ e. n (inl e))

pub all_at : {qs : List ℕ} {ws : List Value} → Beside qs ws → (s : State) (k : ℕ) → k < length s.memory → element (with_all qs ws s).memory k ≡ element s.memory k
all_at beside_none s k l = refl
all_at (beside_and {q = q} {w = w} set b) s k l = all_at b (with_value q w s) k (omega (arith, l, length_more s.memory w)) ∙ at_before s.memory w k l

pub all_held : {qs : List ℕ} {ws : List Value} → Beside qs ws → Apart qs → (s : State) → Holding (with_all qs ws s) qs ws
all_held beside_none d s = holds_none
all_held (beside_and {q = q} {w = w} set b) d s =
    holds_and (all_slot b (with_value q w s) q d.0 ∙ new_slot q (length s.memory) s.frame.slots) (all_at b (with_value q w s) (length s.memory) (omega (arith, length_more s.memory w)) ∙ at_end s.memory w) set (all_held b d.1 (with_value q w s))

-- others hold theirs still
pub held_on : {qs : List ℕ} {ws : List Value} → Beside qs ws → (s : State) {os : List ℕ} {us : List Value} → Holding s os us → ((o : ℕ) → In o os → In o qs → ⊥) → Holding (with_all qs ws s) os us
held_on b s holds_none n = holds_none
held_on b s (holds_and {q = o} {k = k} {w = w} e f set h) n =
    holds_and (all_slot b s o (n o (inl refl)) ∙ e) (all_at b s k (at_below s.memory k w f) ∙ f) set (held_on b s h (λ o i. n o (inr i)))

pub held_put : (s : State) (k : ℕ) (v : Value) {os : List ℕ} {us : List Value} → Holding s os us → ((o : ℕ) → In o os → slot_of s.frame.slots o ≡ Some k → ⊥) → Holding (with_memory s (with_element s.memory k v)) os us
held_put s k v holds_none n = holds_none
held_put s k v (holds_and {q = o} {k = i} e f set h) n =
    holds_and e (put_other s.memory k i v (λ g. n o (inl refl) (e ∙ ap Some g)) ∙ f) set (held_put s k v h (λ o i. n o (inr i)))

-- a part is received
write_part : (n z : ℕ) (ss : List Step) (t : Temporary) (u v : Value) (s : State) → get ss u ≡ Some v → performed plainly (does n (Write (own z) t ss)) (u ∷ []) (with_variable z s) ≡ on [] unit_value (with_value z v s)
unfolding result_of
write_part n z ss t u v s e =
    ap (λ g. result_of (or_ends (why_no_part ss u) g (λ u. or_ends (why_not_found (own z) [] (with_variable z s)) (spot (own z) [] (with_variable z s)) (λ at.
    or_ends (why_not_written (with_variable z s).memory at) (after_write u (with_variable z s).memory at) (λ M. results.gives [] unit_value (with_memory (with_variable z s) M)))))) e
    ∙ write_is n z t v s

one_bound : (p : Temporary) (n z : ℕ) (ss : List Step) (mutable : Bool) (u v : Value) (bs : List matching.Binding) (b : ℕ) (go : State → Result ℕ Value) (s : State) → get ss u ≡ Some v
    → bound plainly (in_temporary p) (u ∷ []) (record { node = n; variable = z; steps = ss; mode = tree.by_value mutable } ∷ bs) b go s ≡ bound plainly (in_temporary p) (u ∷ []) bs b go (with_value z v s)
unfolding bound took
one_bound p n z ss mutable u v bs b go s e =
    bind_on (u ∷ []) s _
    ∙ declare_answer n z s (λ w s1. bind (performed plainly (does n (Write (own z) p ss)) (u ∷ []) s1) (λ w s2. closed plainly b z (bound plainly (in_temporary p) (u ∷ []) bs b go s2)))
    ∙ after_nothing _
    ∙ ap (λ r. bind r (λ w s2. closed plainly b z (bound plainly (in_temporary p) (u ∷ []) bs b go s2))) (write_part n z ss p u v s e)
    ∙ bind_on unit_value (with_value z v s) _
    ∙ closed_is b z _

none_bound : (p : Temporary) (u : Value) (b : ℕ) (go : State → Result ℕ Value) (s : State) → bound plainly (in_temporary p) (u ∷ []) [] b go s ≡ go s
unfolding bound
none_bound p u b go s = refl

-- the value alone
pub let_is : (p : Temporary) (n z : ℕ) (mutable : Bool) (v : Value) (b : ℕ) (go : State → Result ℕ Value) (s : State) → bound plainly (in_temporary p) (v ∷ []) (matching.bindings [] (tree.bind n z (tree.by_value mutable))) b go s ≡ go (with_value z v s)
let_is p n z mutable v b go s = one_bound p n z [] mutable v v [] b go s refl ∙ none_bound p v b go (with_value z v s)

-- a value has these parts from this field on, behind these steps
abbrev HoldsAt : List Step → Value → ℕ → List Value → Type 0
HoldsAt at u i [] = Unit {0}
HoldsAt at u i (v ∷ vs) = (get (at ++ Step.Field i ∷ []) u ≡ Some v) × HoldsAt at u (suc i) vs

bound_all : {i : ℕ} {qs : List ℕ} {ps : Subpatterns} {ws : List Value} → Receives i qs ps → Beside qs ws → (at : List Step) (u : Value) → HoldsAt at u i ws → (p : Temporary) (b : ℕ) (go : State → Result ℕ Value) (s : State)
    → bound plainly (in_temporary p) (u ∷ []) (bindings_in at ps) b go s ≡ go (with_all qs ws s)
bound_all receives_none beside_none at u k p b go s = none_bound p u b go s
bound_all {i} (receives_and {k = n} {q = q} {mutable = mutable} {ps = ps} r) (beside_and {w = w} set l) at u k p b go s =
    one_bound p n q (at ++ Step.Field i ∷ []) mutable u w (bindings_in at ps) b go s k.0 ∙ bound_all r l at u k.1 p b go (with_value q w s)

field_listed : (vs : List Value) (k : ℕ) → field (listed vs) k ≡ element vs k
field_listed [] k = refl
field_listed (v ∷ vs) zero = refl
field_listed (v ∷ vs) (suc k) = field_listed vs k

from_whole : (vs : List Value) (k : ℕ) (us : List Value) → ((n i : ℕ) (v : Value) → i ≡ k + n → element us n ≡ Some v → element vs i ≡ Some v) → HoldsAt [] (whole (listed vs)) k us
from_whole vs k [] f = tt
from_whole vs k (v ∷ us) f = (ap (λ o. and_then o (λ u. get [] u)) (field_listed vs k ∙ f 0 k v (omega arith) refl), from_whole vs (suc k) us (λ n i v e g. f (suc n) i v (omega arith) g))

from_variant : (w : ℕ) (vs : List Value) (k : ℕ) (us : List Value) → ((n i : ℕ) (v : Value) → i ≡ k + n → element us n ≡ Some v → element vs i ≡ Some v) → HoldsAt (Step.Variant w ∷ []) (tagged w (listed vs)) k us
from_variant w vs k [] f = tt
from_variant w vs k (v ∷ us) f = (
  ap (λ b. and_then (if b then Some (whole (listed vs)) else None) (λ u. get (Step.Field k ∷ []) u)) (eq_self w) ∙ ap (λ o. and_then o (λ u. get [] u)) (field_listed vs k ∙ f 0 k v (omega arith) refl),
  from_variant w vs (suc k) us (λ n i v e g. f (suc n) i v (omega arith) g),
)

same_at : (vs : List Value) (n i : ℕ) (v : Value) → i ≡ 0 + n → element vs n ≡ Some v → element vs i ≡ Some v
same_at vs n i v e g = subst (λ i. element vs i ≡ Some v) (omega (arith, e)) g

-- a tuple is received
pub spread_is : {qs : List ℕ} {ps : Subpatterns} {ws : List Value} → Receives 0 qs ps → Beside qs ws → (u : Value) → u ≡ whole (listed ws) → (p : Temporary) (b : ℕ) (go : State → Result ℕ Value) (s : State)
    → bound plainly (in_temporary p) (u ∷ []) (bindings_in [] ps) b go s ≡ go (with_all qs ws s)
spread_is {qs} {ps} {ws} r l u e p b go s = ap (λ u. bound plainly (in_temporary p) (u ∷ []) (bindings_in [] ps) b go s) e ∙ bound_all r l [] (whole (listed ws)) (from_whole ws 0 ws (same_at ws)) p b go s

-- ---- the match of a variant

abbrev arm_step : (go other : State → Result ℕ Value) (s : State) → Bool → Result ℕ Value
arm_step go other s b = bind (on [] (truth b) s) (λ u s1. decided u go other s1)

-- the tests of the parts, and what is bound
abbrev in_arm : (Q : Functions) (low : Meaning ℕ) (tc : Temporary) (u : Value) (w : ℕ) (ps : Subpatterns) (e : Exp) (d : Temporary) (other : State → Result ℕ Value) → State → Result ℕ Value
in_arm Q low tc u w ps e d other s =
    tested plainly (in_temporary tc) (u ∷ []) (tests_in (Step.Variant w ∷ []) ps) (λ s1. bound plainly (in_temporary tc) (u ∷ []) (bindings_in (Step.Variant w ∷ []) ps) (mark_of e).node (λ s2. value plainly Q low e d s2) s1) other s

arm_is : (Q : Functions) (low : Meaning ℕ) (tc : Temporary) (n i w v : ℕ) (vs : Values) (ps : Subpatterns) (e : Exp) (rest : Arms) (d : Temporary) (s : State) (b : Bool) → nat_eq w v ≡ b
    → arms plainly Q low (in_temporary tc) (tagged v vs ∷ []) (tree.arm_and (tree.variant n i true w ps) e rest) d s
    ≡ (if b then in_arm Q low tc (tagged v vs) w ps e d (λ s1. arms plainly Q low (in_temporary tc) (tagged v vs ∷ []) rest d s1) s else arms plainly Q low (in_temporary tc) (tagged v vs ∷ []) rest d s)
unfolding value tested decided bind after result_of
arm_is Q low tc n i w v vs ps e rest d s true f = ap (λ b. arm_step (in_arm Q low tc (tagged v vs) w ps e d (λ s1. arms plainly Q low (in_temporary tc) (tagged v vs ∷ []) rest d s1)) (λ s1. arms plainly Q low (in_temporary tc) (tagged v vs ∷ []) rest d s1) s b) f ∙ after_nothing _
arm_is Q low tc n i w v vs ps e rest d s false f = ap (λ b. arm_step (in_arm Q low tc (tagged v vs) w ps e d (λ s1. arms plainly Q low (in_temporary tc) (tagged v vs ∷ []) rest d s1)) (λ s1. arms plainly Q low (in_temporary tc) (tagged v vs ∷ []) rest d s1) s b) f ∙ after_nothing _

-- of an enum with one
only_arm_is : (Q : Functions) (low : Meaning ℕ) (tc : Temporary) (n i w : ℕ) (u : Value) (ps : Subpatterns) (e : Exp) (rest : Arms) (d : Temporary) (s : State)
    → arms plainly Q low (in_temporary tc) (u ∷ []) (tree.arm_and (tree.variant n i false w ps) e rest) d s ≡ in_arm Q low tc u w ps e d (λ s1. arms plainly Q low (in_temporary tc) (u ∷ []) rest d s1) s
unfolding value
only_arm_is Q low tc n i w u ps e rest d s = refl

tests_none : {i : ℕ} {qs : List ℕ} {ps : Subpatterns} → Receives i qs ps → (at : List Step) → tests_in at ps ≡ []
tests_none receives_none at = refl
tests_none (receives_and r) at = tests_none r at

none_tested : (Q : Functions) (low : Meaning ℕ) (tc : Temporary) (u : Value) (w : ℕ) {qs : List ℕ} {ps : Subpatterns} → Receives 0 qs ps → (e : Exp) (d : Temporary) (other : State → Result ℕ Value) (s : State)
    → in_arm Q low tc u w ps e d other s ≡ bound plainly (in_temporary tc) (u ∷ []) (bindings_in (Step.Variant w ∷ []) ps) (mark_of e).node (λ s2. value plainly Q low e d s2) s
unfolding tested
none_tested Q low tc u w {ps = ps} r e d other s =
    ap (λ ts. tested plainly (in_temporary tc) (u ∷ []) ts (λ s1. bound plainly (in_temporary tc) (u ∷ []) (bindings_in (Step.Variant w ∷ []) ps) (mark_of e).node (λ s2. value plainly Q low e d s2) s1) other s) (tests_none r (Step.Variant w ∷ []))

pub arms_are : (Q : Functions) (low : Meaning ℕ) (tc : Temporary) {l : Arms} {v : ℕ} {qs : List ℕ} {ps : Subpatterns} {e : Exp} {ws : List Value} → Picks l v ps e → Receives 0 qs ps → Beside qs ws → (d : Temporary) (s : State)
    → arms plainly Q low (in_temporary tc) (tagged v (listed ws) ∷ []) l d s ≡ value plainly Q low e d (with_all qs ws s)
arms_are Q low tc {ws = ws} (picks_here {n = n} {i = i} {v = v} {several = true} {ps = ps} {e = e} {rest = rest}) r b d s =
    arm_is Q low tc n i v v (listed ws) ps e rest d s true (eq_self v) ∙ none_tested Q low tc (tagged v (listed ws)) v r e d _ s
    ∙ bound_all r b (Step.Variant v ∷ []) (tagged v (listed ws)) (from_variant v ws 0 ws (same_at ws)) tc (mark_of e).node (λ s2. value plainly Q low e d s2) s
arms_are Q low tc {ws = ws} (picks_here {n = n} {i = i} {v = v} {several = false} {ps = ps} {e = e} {rest = rest}) r b d s =
    only_arm_is Q low tc n i v (tagged v (listed ws)) ps e rest d s ∙ none_tested Q low tc (tagged v (listed ws)) v r e d _ s
    ∙ bound_all r b (Step.Variant v ∷ []) (tagged v (listed ws)) (from_variant v ws 0 ws (same_at ws)) tc (mark_of e).node (λ s2. value plainly Q low e d s2) s
arms_are Q low tc {ws = ws} (picks_later {n = n} {i = i} {w = w} {v = v} {qs = qs} {f = f} {rest = rest} k l) r b d s = arm_is Q low tc n i w v (listed ws) qs f rest d s false k ∙ arms_are Q low tc l r b d s

pub let_body_is : (Q : Functions) (low : Meaning ℕ) (s0 k y : ℕ) (mutable : Bool) (e : Exp) (rest : Body) (i : ℕ) (t : Temporary) (s : State) → body plainly Q low (tree.lets s0 (tree.bind k y (tree.by_value mutable)) (tree.of_value e) rest) i t s
    ≡ bind (value plainly Q low e (temporary_of e) s) (λ v s1. body plainly Q low rest i t (with_value y v s1))
unfolding value
let_body_is Q low s0 k y mutable e rest i t s =
    bind_bind (value plainly Q low e (temporary_of e) s) _ _
    ∙ bind_same (value plainly Q low e (temporary_of e) s) _ _ _ refl (λ v s1. bind_on (v ∷ []) s1 _ ∙ let_is (temporary_of e) k y mutable v i (λ s2. body plainly Q low rest i t s2) s1)
