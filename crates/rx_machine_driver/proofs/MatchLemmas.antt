-- Which arm is the first whose tests hold, and what bindings take, by the machine's data.
use Rattle.std.proofs.Common.{◌≡◌, ℕ, Bool, true, false, List, [], ◌∷◌, ◌++◌, Option, None, Some, refl, sym, ap, ◌∙◌}
use Rattle.std.proofs.lemmas.List.{append_assoc, append-nil}
use Rattle.rx_core.specs.declared.types.Step.{Step as PlaceStep}
use Rattle.rx_typed.specs.Tree as tree
use Rattle.rx_typed.specs.Tree.{Mode, by_value, by_reference, Pattern, any, bind, exactly, parts, variant, behind, Subpatterns, no_part, part_and, Exp, Arms, no_arm, arm_and}
use Rattle.rx_lower_walks.specs.Matching.{PartTest, has_tag, equals, tests, tests_in, tag_test}
use Rattle.rx_lower_walks.specs.Actions.{in_place, in_temporary, part}
use Rattle.rx_lower_walks.specs.Actions as actions
use Rattle.rx_meaning.specs.Values.{Value, and_then, slot_of, State}
use Rattle.rx_meaning.specs.Places.{Spot, in_slot, in_value, content, follow, first_held, start, found, whole_value, reference_to}
use Rattle.rx_meaning.specs.Acting.{checked}
use Rattle.rx_machine_values.specs.PlainMemory.{plain-Memory}
use Rattle.rx_machine_values.specs.PlainValues.{plain-Value}
use Rattle.rx_machine_values.specs.Reaching.{stepped, reached}
use Rattle.rx_machine_values.proofs.ReachLemmas.{led, none_there, reached_is}
use Rattle.rx_machine_actions.specs.Matching as matching
use Rattle.rx_machine_actions.specs.Matching.{deeper}
use Rattle.rx_machine_frames.specs.Choosing.{both, holds, all_hold, if_holds, first_arm, takes}
use Rattle.rx_machine_frames.specs.Frames.{Around}
use Rattle.rx_machine_driver.specs.declared.next.Subject.{Subject}
use Rattle.rx_machine_driver.specs.declared.next.Subject.TheVariants as subject
use Rattle.rx_machine_driver.specs.PlainSteps.{plain-Subject, held_of}
use Rattle.rx_machine_driver.specs.declared.data.Machine.{Machine}
use Rattle.rx_machine_direct.specs.Direct.{recorded}
use Rattle.rx_machine_driver.specs.Fitting.{Fits}
use Rattle.rx_machine_driver.specs.Binding.{taken_of, seen_at, arm_of}
use Rattle.rx_machine_driver.proofs.ActLemmas.{spot_is, found_is}

-- ---- what stands where steps lead

reached_step : (M : List Value) (ss : List PlaceStep) (x : PlaceStep) (v : Value) → reached M (ss ++ x ∷ []) v ≡ and_then (reached M ss v) (λ u. stepped M x u)
reached_step M [] x v = by (stepped M x v)
  where
    by : (o : Option Value) → and_then o (λ u. Some u) ≡ o
    by None = refl
    by (Some u) = refl
reached_step M (y ∷ ss) x v = by (stepped M y v) (reached_step M ss x)
  where
    by : (o : Option Value) → ((u : Value) → reached M (ss ++ x ∷ []) u ≡ and_then (reached M ss u) (λ w. stepped M x w)) → and_then o (λ u. reached M (ss ++ x ∷ []) u) ≡ and_then (and_then o (λ u. reached M ss u)) (λ w. stepped M x w)
    by None h = refl
    by (Some u) h = h u

led_step : (M : List Value) (ss : List PlaceStep) (x : PlaceStep) (at : Spot) → led M (ss ++ x ∷ []) at ≡ and_then (led M ss at) (λ u. stepped M x u)
led_step M ss x at = by (content M at) refl
  where
    by : (o : Option Value) → content M at ≡ o → led M (ss ++ x ∷ []) at ≡ and_then (led M ss at) (λ u. stepped M x u)
    by None e = none_there M (ss ++ x ∷ []) at e ∙ ap (λ o. and_then o (λ u. stepped M x u)) (sym (none_there M ss at e))
    by (Some v) e = sym (reached_is M (ss ++ x ∷ []) at v e) ∙ reached_step M ss x v ∙ ap (λ o. and_then o (λ u. stepped M x u)) (reached_is M ss at v e)

-- at a part of what is matched
seen : actions.Subject → List Value → State → List PlaceStep → Option Value
seen S vs s ss = and_then (found (part S ss) vs s) (λ (f : Spot × Value). Some f.1)

seen_from : (M : List Value) (ss : List PlaceStep) (o : Option Spot)
    → and_then (and_then (and_then o (λ at. follow M ss at)) (λ at. and_then (content M at) (λ v. Some (at, v)))) (λ (f : Spot × Value). Some f.1) ≡ and_then o (λ at. led M ss at)
seen_from M ss None = refl
seen_from M ss (Some at) = by (follow M ss at)
  where
    by_content : (to : Spot) (o : Option Value) → and_then (and_then o (λ v. Some (to, v))) (λ (f : Spot × Value). Some f.1) ≡ o
    by_content to None = refl
    by_content to (Some v) = refl

    by : (o : Option Spot) → and_then (and_then o (λ at. and_then (content M at) (λ v. Some (at, v)))) (λ (f : Spot × Value). Some f.1) ≡ and_then o (λ to. content M to)
    by None = refl
    by (Some to) = by_content to (content M to)

from_step : (M : List Value) (ss : List PlaceStep) (x : PlaceStep) (o : Option Spot) → and_then o (λ at. led M (ss ++ x ∷ []) at) ≡ and_then (and_then o (λ at. led M ss at)) (λ u. stepped M x u)
from_step M ss x None = refl
from_step M ss x (Some at) = led_step M ss x at

seen_step : (S : actions.Subject) (vs : List Value) (s : State) (ss : List PlaceStep) (x : PlaceStep) → seen S vs s (ss ++ x ∷ []) ≡ deeper s.memory (seen S vs s ss) x
unfolding seen
seen_step (in_place p) vs s ss x =
    seen_from s.memory (p.steps ++ (ss ++ x ∷ [])) (start p.root vs s.frame)
    ∙ ap (λ l. and_then (start p.root vs s.frame) (λ at. led s.memory l at)) (sym (append_assoc p.steps ss (x ∷ [])))
    ∙ from_step s.memory (p.steps ++ ss) x (start p.root vs s.frame)
    ∙ ap (λ o. and_then o (λ u. stepped s.memory x u)) (sym (seen_from s.memory (p.steps ++ ss) (start p.root vs s.frame)))
seen_step (in_temporary t) vs s ss x =
    seen_from s.memory (ss ++ x ∷ []) (first_held vs) ∙ from_step s.memory ss x (first_held vs) ∙ ap (λ o. and_then o (λ u. stepped s.memory x u)) (sym (seen_from s.memory ss (first_held vs)))

-- ---- tests

both_true : (o : Option Bool) → both o (Some true) ≡ o
both_true None = refl
both_true (Some true) = refl
both_true (Some false) = refl

both_assoc : (a b c : Option Bool) → both (both a b) c ≡ both a (both b c)
both_assoc None b c = refl
both_assoc (Some true) b c = refl
both_assoc (Some false) b c = refl

all_hold_append : (S : actions.Subject) (vs : List Value) (a b : List PartTest) (s : State) → all_hold S vs (a ++ b) s ≡ both (all_hold S vs a s) (all_hold S vs b s)
all_hold_append S vs [] b s = refl
all_hold_append S vs (t ∷ a) b s = ap (both (holds S vs t s)) (all_hold_append S vs a b s) ∙ sym (both_assoc (holds S vs t s) (all_hold S vs a s) (all_hold S vs b s))

-- one test, by what is seen
one_holds : (S : actions.Subject) (vs : List Value) (t : PartTest) (s : State) → both (holds S vs t s) (Some true) ≡ and_then (seen S vs s t.steps) (λ u. checked t.check u)
unfolding seen
one_holds S vs t s = both_true (holds S vs t s) ∙ by (found (part S t.steps) vs s)
  where
    by : (o : Option (Spot × Value)) → and_then o (λ f. checked t.check f.1) ≡ and_then (and_then o (λ (f : Spot × Value). Some f.1)) (λ u. checked t.check u)
    by None = refl
    by (Some f) = refl

tag_holds_is : (S : actions.Subject) (vs : List Value) (s : State) (ss : List PlaceStep) (several : Bool) (n v : ℕ) → all_hold S vs (tag_test several n ss v) s ≡ matching.tag_holds several v (seen S vs s ss)
tag_holds_is S vs s ss true n v = one_holds S vs (record { node = n; steps = ss; check = has_tag v }) s
tag_holds_is S vs s ss false n v = refl

mutual
  holds_is : (S : actions.Subject) (vs : List Value) (s : State) (ss : List PlaceStep) (p : Pattern) → all_hold S vs (tests ss p) s ≡ matching.holds s.memory (seen S vs s ss) p
  holds_is S vs s ss any = refl
  holds_is S vs s ss (bind n x m) = refl
  holds_is S vs s ss (exactly n c) = one_holds S vs (record { node = n; steps = ss; check = equals c }) s
  holds_is S vs s ss (parts ps) = parts_hold S vs s ss ps
  holds_is S vs s ss (variant n i several v ps) =
      all_hold_append S vs (tag_test several n ss v) (tests_in (ss ++ PlaceStep.Variant v ∷ []) ps) s
      ∙ ap (λ o. both o (all_hold S vs (tests_in (ss ++ PlaceStep.Variant v ∷ []) ps) s)) (tag_holds_is S vs s ss several n v)
      ∙ ap (both (matching.tag_holds several v (seen S vs s ss))) (parts_hold S vs s (ss ++ PlaceStep.Variant v ∷ []) ps ∙ ap (λ o. matching.all_parts_hold s.memory o ps) (seen_step S vs s ss (PlaceStep.Variant v)))
  holds_is S vs s ss (behind m p) = holds_is S vs s (ss ++ PlaceStep.Deref m ∷ []) p ∙ ap (λ o. matching.holds s.memory o p) (seen_step S vs s ss (PlaceStep.Deref m))

  parts_hold : (S : actions.Subject) (vs : List Value) (s : State) (ss : List PlaceStep) (ps : Subpatterns) → all_hold S vs (tests_in ss ps) s ≡ matching.all_parts_hold s.memory (seen S vs s ss) ps
  parts_hold S vs s ss no_part = refl
  parts_hold S vs s ss (part_and i p ps) =
      all_hold_append S vs (tests (ss ++ PlaceStep.Field i ∷ []) p) (tests_in ss ps) s
      ∙ ap (λ o. both o (all_hold S vs (tests_in ss ps) s)) (holds_is S vs s (ss ++ PlaceStep.Field i ∷ []) p ∙ ap (λ o. matching.holds s.memory o p) (seen_step S vs s ss (PlaceStep.Field i)))
      ∙ ap (both (matching.holds s.memory (deeper s.memory (seen S vs s ss) (PlaceStep.Field i)) p)) (parts_hold S vs s ss ps)

first_is : (S : actions.Subject) (vs : List Value) (s : State) (l : Arms) → first_arm S vs l s ≡ arm_of s.memory (seen S vs s []) l
first_is S vs s no_arm = refl
first_is S vs s (arm_and p e rest) =
    ap (λ o. if_holds o (Some (p, e)) (first_arm S vs rest s)) (holds_is S vs s [] p) ∙ ap (if_holds (matching.holds s.memory (seen S vs s []) p) (Some (p, e))) (first_is S vs s rest)

-- ---- by the machine's data

seen_is : (m : Machine) (t : ℕ) (K : List Around) (s : State) (S : Subject) → Fits m t K s → seen (plain-Subject S) (held_of S) s [] ≡ seen_at m S
unfolding seen
seen_is m t K s (subject.Held n v) f = refl
seen_is m t K s (subject.Place p) f =
    seen_from s.memory (p.now.steps ++ []) (start (tree.variable p.now.var) [] s.frame)
    ∙ ap (λ l. and_then (start (tree.variable p.now.var) [] s.frame) (λ at. led s.memory l at)) (append-nil p.now.steps)
    ∙ by (slot_of s.frame.slots p.now.var)
    ∙ ap (λ o. and_then o (λ i. led s.memory p.now.steps (in_slot i [] true))) (f.slots p.now.var)
    ∙ ap (λ M. and_then (recorded m.slots.table.items p.now.var) (λ i. led M p.now.steps (in_slot i [] true))) (sym f.memory)
  where
    by : (o : Option ℕ) → and_then (and_then o (λ i. Some (in_slot i [] true))) (λ at. led s.memory p.now.steps at) ≡ and_then o (λ i. led s.memory p.now.steps (in_slot i [] true))
    by None = refl
    by (Some i) = refl

pub arm_is : (m : Machine) (t : ℕ) (K : List Around) (s : State) (S : Subject) (l : Arms) → Fits m t K s → first_arm (plain-Subject S) (held_of S) l s ≡ arm_of (plain-Memory m.memory) (seen_at m S) l
arm_is m t K s S l f =
    first_is (plain-Subject S) (held_of S) s l ∙ ap (λ o. arm_of s.memory o l) (seen_is m t K s S f) ∙ ap (λ M. arm_of M (seen_at m S) l) (sym f.memory)

pub taken_is : (m : Machine) (t : ℕ) (K : List Around) (s : State) (d : Mode) (S : Subject) (ss : List PlaceStep) → Fits m t K s → takes d (plain-Subject S) ss (held_of S) s ≡ taken_of m d S ss
taken_is m t K s (by_reference k) (subject.Place p) ss f = ap (λ o. and_then o (λ at. reference_to k at)) (spot_is m t K s p.now.var (p.now.steps ++ ss) f)
taken_is m t K s (by_reference k) (subject.Held n v) ss f = ap (λ M. and_then (follow M ss (in_value (plain-Value v))) (λ at. reference_to k at)) (sym f.memory)
taken_is m t K s (by_value b) (subject.Place p) ss f = ap (λ o. and_then o (λ f. whole_value f)) (found_is m t K s p.now.var (p.now.steps ++ ss) f)
taken_is m t K s (by_value b) (subject.Held n v) ss f = refl
