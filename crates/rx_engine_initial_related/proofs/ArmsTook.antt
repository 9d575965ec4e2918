-- A walk through the arms of the match over the exits: some tests of the variant, and then the walk of one exit's arm, or a front of it.
use Rattle.std.proofs.Common.{◌≡◌, ℕ, Bool, true, false, List, [], ◌∷◌, ◌++◌, Some, refl, sym, ◌∙◌, subst, ap}
use Rattle.rx_core.specs.declared.types.Step.TheVariants as step
use Rattle.rx_typed.specs.Tree.{Temporary, Place, Exp, Arms, Subpatterns, mark_of}
use Rattle.rx_lower_walks.specs.Matching.{Check, bindings_in, tests_in, tag_test}
use Rattle.rx_lower_walks.specs.Actions.{Test, Action, does}
use Rattle.rx_lower_walks.specs.Actions.{in_temporary as subject_in}
use Rattle.rx_lower_walks.specs.Orders.{Order, testing, binding, order, order_arms}
use Rattle.rx_lower_walks.specs.Orders as orders
use Rattle.rx_lower_walks.specs.Walks.{Out, on, fails, stopped, IsAway, DoesNotFail, Walk, rests, stops, both, first, one, other, holds, next, Among}
use Rattle.rx_lower_walks.specs.Walks as walk
use Rattle.rx_exits_plan.specs.Points.{Exit}
use Rattle.rx_exits_plan.specs.Plan.{Plan}
use Rattle.rx_engine_simulation.specs.Packing.{Picks}
use Rattle.rx_engine_related.specs.Leaving.{variant_for}
use Rattle.rx_engine_initial.specs.Copies.{IsSafe, in_temporary}
use Rattle.rx_engine_initial.proofs.Tracing.{nil_right, joined}
use Rattle.rx_engine_initial_related.specs.ExitArms.{OnlyExits, no_more_arms, arm_of}
use Rattle.rx_engine_initial_related.proofs.Singles.{Took, took_all, took_some, Single, single_act}

-- tests of a value in a temporary
pub data Tests : List Action → Type 0 where
  no_test : Tests []
  one_test : {n : ℕ} {p : Place} {c : Check} {us : List Action} → IsSafe [] p → Tests us → Tests (does n (Test p c) ∷ us)

pub tests_both : {us vs : List Action} → Tests us → Tests vs → Tests (us ++ vs)
tests_both no_test k = k
tests_both (one_test s h) k = one_test s (tests_both h k)

-- ---- an arm in front of others

-- it is taken, in whole or in part, or its test fails
data First (l : List Action) (o : Out) : List Action → Out → Type 0 where
  first_all : (pre : List Action) → Tests pre → First l o (pre ++ l) o
  first_some : {us : List Action} (pre vs : List Action) → Tests pre → us ++ vs ≡ pre ++ l → First l o us stopped
  first_failed : {us : List Action} → Tests us → First l o us fails

first_stops : {l us : List Action} {o p : Out} → First l o us p → First l o us stopped
first_stops {l = l} (first_all pre t) = first_some pre [] t (nil_right (pre ++ l))
first_stops (first_some pre vs t e) = first_some pre vs t e
first_stops {l = l} (first_failed {us = us} t) = first_some us l t refl

of_took : {l us : List Action} {o p : Out} → Took l o us p → First l o us p
of_took took_all = first_all [] no_test
of_took (took_some vs e) = first_some [] vs no_test e

-- behind a test
behind_test : {l us : List Action} {o p : Out} (n : ℕ) (q : Place) (c : Check) → IsSafe [] q → First l o us p → First l o (does n (Test q c) ∷ us) p
behind_test n q c s (first_all pre t) = first_all (does n (Test q c) ∷ pre) (one_test s t)
behind_test n q c s (first_some pre vs t e) = first_some (does n (Test q c) ∷ pre) vs (one_test s t) (ap (λ w. does n (Test q c) ∷ w) e)
behind_test n q c s (first_failed t) = first_failed (one_test s t)

fail_first : {l us : List Action} {o p : Out} → Walk orders.fail us p → First l o us p
fail_first {l = l} rests = first_some [] l no_test refl
fail_first (stops h) = first_stops (fail_first h)
fail_first walk.fail = first_failed no_test

or_first : (s : Order) {l us : List Action} {o p : Out} → Single s l o → Walk (orders.or s orders.fail) us p → First l o us p
or_first s {l = l} f rests = first_some [] l no_test refl
or_first s f (stops h) = first_stops (or_first s f h)
or_first s f (one {us = us} {o = p} h) = of_took (f us p h)
or_first s f (other h) = fail_first h

test_only : {a : Action} {us : List Action} → Took (a ∷ []) on us on → us ≡ a ∷ []
test_only took_all = refl

test_first : (s : Order) (n : ℕ) (q : Place) (c : Check) → IsSafe [] q → {l us : List Action} {o p : Out} → Single s l o → Walk (orders.then (orders.act (does n (Test q c))) (orders.or s orders.fail)) us p → First l o us p
test_first s n q c safe {l = l} f rests = first_some (does n (Test q c) ∷ []) (does n (Test q c) ∷ l) (one_test safe no_test) refl
test_first s n q c safe f (stops h) = first_stops (test_first s n q c safe f h)
test_first s n q c safe {l = l} {o = o} {p = p} f (both {us = u} {vs = v} h k) =
    subst (λ w. First l o (w ++ v) p) (sym (test_only (single_act (does n (Test q c)) u on h))) (behind_test n q c safe (or_first s f k))
test_first s n q c safe {l = l} {us = us} {o = o} {p = p} f (first e h) = by e (single_act (does n (Test q c)) us p h)
  where
    by : {u : List Action} {r : Out} → IsAway r → Took (does n (Test q c) ∷ []) on u r → First l o u r
    by a took_all = elim a [ ]
    by a (took_some {us = u} vs g) = first_some (does n (Test q c) ∷ []) (vs ++ l) (one_test safe no_test) (sym (joined u vs l) ∙ ap (λ w. w ++ l) g)

-- of the arm of an exit: what it does as a whole; its pattern tests no more than the variant
pub record Says (t : Temporary) (P : Exit → List Action → Out → Type 0) (d : Temporary) (v : ℕ) (ps : Subpatterns) (e : Exp) (x : Exit) : Type 0 where
  pub all : List Action
  pub out : Out
  pub is : P x all out
  pub single : Single (binding (subject_in t) (bindings_in (step.Variant v ∷ []) ps) (mark_of e).node (order e d)) all out
  pub no_tests : tests_in (step.Variant v ∷ []) ps ≡ []

-- ---- the arms

module _ (k : Plan) (t : Temporary) (P : Exit → List Action → Out → Type 0) (proper : (x : Exit) (l : List Action) → P x l fails → ⊥) (x₀ : Exit) (there₀ : Among x₀ k.exits) (l₀ : List Action) (o₀ : Out) (p₀ : P x₀ l₀ o₀) (d : Temporary) where
  pub data ArmTook : List Action → Out → Type 0 where
    arm_all : {l : List Action} {o : Out} (x : Exit) → Among x k.exits → (pre : List Action) → Tests pre → P x l o → ArmTook (pre ++ l) o
    arm_some : {us : List Action} (x : Exit) → Among x k.exits → (pre l vs : List Action) (o : Out) → Tests pre → us ++ vs ≡ pre ++ l → P x l o → ArmTook us stopped

  arm_stops : {us : List Action} {o : Out} → ArmTook us o → ArmTook us stopped
  arm_stops (arm_all {l = l} {o = o} x i pre h p) = arm_some x i pre l [] o h (nil_right (pre ++ l)) p
  arm_stops (arm_some x i pre l vs o h e p) = arm_some x i pre l vs o h e p

  arm_behind : {us vs : List Action} {o : Out} → Tests us → ArmTook vs o → ArmTook (us ++ vs) o
  arm_behind {us = us} h (arm_all {l = l} {o = o} x i pre g p) = subst (λ w. ArmTook w o) (joined us pre l) (arm_all x i (us ++ pre) (tests_both h g) p)
  arm_behind {us = us} {vs = vs} h (arm_some x i pre l ws o g e p) =
      arm_some x i (us ++ pre) l ws o (tests_both h g) (joined us vs ws ∙ (ap (λ w. us ++ w) e ∙ sym (joined us pre l))) p

  nothing_took : {us : List Action} → Tests us → ArmTook us stopped
  nothing_took {us = us} h = arm_some x₀ there₀ us l₀ l₀ o₀ h refl p₀

  of_first : {l us : List Action} {o p : Out} (x : Exit) → Among x k.exits → P x l o → DoesNotFail p → First l o us p → ArmTook us p
  of_first x i q n (first_all pre h) = arm_all x i pre h q
  of_first {l = l} {o = o} x i q n (first_some pre vs h e) = arm_some x i pre l vs o h e q
  of_first x i q n (first_failed h) = elim n [ ]

  then_others : {l us vs : List Action} {o p : Out} (x : Exit) → P x l o → First l o us fails → ArmTook vs p → ArmTook (us ++ vs) p
  then_others {l = l} x q (first_all pre h) g = absurd (proper x l q)
  then_others x q (first_failed h) g = arm_behind h g

  other_took : (s r : Order) {l : List Action} {o : Out} (x : Exit) → Among x k.exits → P x l o → ((us : List Action) (p : Out) → Walk s us p → First l o us p) → ((us : List Action) (p : Out) → Walk r us p → ArmTook us p)
      → {us : List Action} {p : Out} → Walk (orders.otherwise s r) us p → ArmTook us p
  other_took s r x i q f g rests = nothing_took no_test
  other_took s r x i q f g (stops h) = arm_stops (other_took s r x i q f g h)
  other_took s r x i q f g {us = us} {p = p} (holds n h) = of_first x i q n (f us p h)
  other_took s r x i q f g {p = p} (next {us = u} {vs = v} h m) = then_others x q (f u fails h) (g v p m)

  no_arms_took : {us : List Action} {p : Out} → Walk orders.nowhere us p → ArmTook us p
  no_arms_took rests = nothing_took no_test
  no_arms_took (stops h) = arm_stops (no_arms_took h)

  tag_first : (several : Bool) (n v : ℕ) (s : Order) {l : List Action} {o : Out} → Single s l o → (us : List Action) (p : Out) → Walk (testing (subject_in t) (tag_test several n [] v) s) us p → First l o us p
  tag_first true n v s f us p w = test_first s n _ _ in_temporary f w
  tag_first false n v s f us p w = of_took (f us p w)

  arm_first : (several : Bool) (n i v : ℕ) (ps : Subpatterns) (e : Exp) (x : Exit) (z : Says t P d v ps e x) (us : List Action) (p : Out)
      → Walk (testing (subject_in t) (tag_test several n [] v ++ tests_in (step.Variant v ∷ []) ps) (binding (subject_in t) (bindings_in (step.Variant v ∷ []) ps) (mark_of e).node (order e d))) us p → First z.all z.out us p
  arm_first several n i v ps e x z us p w =
      tag_first several n v (binding (subject_in t) (bindings_in (step.Variant v ∷ []) ps) (mark_of e).node (order e d)) z.single us p
      (subst (λ ts. Walk (testing (subject_in t) ts (binding (subject_in t) (bindings_in (step.Variant v ∷ []) ps) (mark_of e).node (order e d))) us p)
      (ap (λ ts. tag_test several n [] v ++ ts) z.no_tests ∙ nil_right (tag_test several n [] v)) w)

  pub arms_took : (all l : Arms) → ((x : Exit) (v : ℕ) (ps : Subpatterns) (e : Exp) → Among x k.exits → variant_for k x ≡ Some v → Picks all v ps e → Says t P d v ps e x) → OnlyExits k all l
      → (us : List Action) (p : Out) → Walk (order_arms (subject_in t) l d) us p → ArmTook us p
  arms_took all _ says no_more_arms us p w = no_arms_took w
  arms_took all _ says (arm_of {n = n} {i = i} {v = v} {several = several} {ps = ps} {e = e} {l = l} x j h picks only) us p w =
      let z = says x v ps e j h picks in
      other_took _ _ x j z.is (λ vs q g. arm_first several n i v ps e x z vs q g) (λ vs q g. arms_took all l says only vs q g) w
