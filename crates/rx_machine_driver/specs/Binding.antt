-- What bindings take and which arm is the first, by the machine's data.
use Rattle.std.specs.Prelude.{◌≡◌, true, false, Bool, List, [], ◌∷◌, ◌++◌, Option, Some, None}
use Rattle.rx_core.specs.declared.types.Step.{Step as PlaceStep}
use Rattle.rx_typed.specs.Tree.{Mode, by_value, by_reference, Pattern, Exp, Arms, no_arm, arm_and}
use Rattle.rx_typed.specs.declared.tree.Arm.{Arm}
use Rattle.rx_typed.specs.PlainTree.{plain-Pattern, plain-Expr}
use Rattle.rx_lower_walks.specs.Matching.{bindings}
use Rattle.rx_meaning.specs.declared.outcome.End.{End}
use Rattle.rx_meaning.specs.Values as values
use Rattle.rx_meaning.specs.Values.{and_then, get}
use Rattle.rx_meaning.specs.Places.{in_slot, in_value, follow, content, whole_value, reference_to}
use Rattle.rx_machine_values.specs.declared.value.Value.{Value}
use Rattle.rx_machine_values.specs.PlainValues.{plain-Value}
use Rattle.rx_machine_values.specs.PlainMemory.{plain-Memory}
use Rattle.rx_machine_actions.specs.Matching as matching
use Rattle.rx_machine_frames.specs.Choosing.{if_holds, bind_all}
use Rattle.rx_machine_frames.specs.Frames as frames
use Rattle.rx_machine_driver.specs.declared.next.Subject.{Subject}
use Rattle.rx_machine_driver.specs.declared.next.Subject.TheVariants as subject
use Rattle.rx_machine_driver.specs.PlainSteps.{plain-Subject, held_of, plain-Next}
use Rattle.rx_machine_driver.specs.declared.data.Machine.{Machine}
use Rattle.rx_machine_driver.specs.declared.data.Step.{Step}
use Rattle.rx_machine_driver.specs.declared.data.Step.TheVariants as step_to
use Rattle.rx_machine_direct.specs.Direct.{recorded}
use Rattle.rx_machine_driver.specs.Running.{spot_at, found_at, Changes}

-- what a binding takes of what is matched
abbrev pub taken_of : Machine → Mode → Subject → List PlaceStep → Option values.Value
taken_of m (by_reference k) (subject.Place p) ss = and_then (spot_at m p.now.var (p.now.steps ++ ss)) (λ at. reference_to k at)
taken_of m (by_reference k) (subject.Held n v) ss = and_then (follow (plain-Memory m.memory) ss (in_value (plain-Value v))) (λ at. reference_to k at)
taken_of m (by_value b) (subject.Place p) ss = and_then (found_at m p.now.var (p.now.steps ++ ss)) (λ f. whole_value f)
taken_of m (by_value b) (subject.Held n v) ss = get ss (plain-Value v)

-- what stands where a pattern is matched
abbrev pub seen_at : Machine → Subject → Option values.Value
seen_at m (subject.Place p) =
    and_then (recorded m.slots.table.items p.now.var) (λ i. and_then (follow (plain-Memory m.memory) p.now.steps (in_slot i [] true)) (λ to. content (plain-Memory m.memory) to))
seen_at m (subject.Held n v) = Some (plain-Value v)

-- the first arm whose tests hold, by what stands where it is matched
abbrev pub arm_of : List values.Value → Option values.Value → Arms → Option (Pattern × Exp)
arm_of M o no_arm = None
arm_of M o (arm_and p e rest) = if_holds (matching.holds M o p) (Some (p, e)) (arm_of M o rest)

-- an arm's pattern is bound, and its body comes
abbrev pub TakesArm : Machine → Subject → Arm → Machine → Step → Type 0
TakesArm old S a new (step_to.Next y) =
    Changes (λ s. bind_all (plain-Subject S) (held_of S) (bindings [] (plain-Pattern a.pattern)) s) old new true × (plain-Next y ≡ frames.goes_into (plain-Expr a.body))
TakesArm old S a new (step_to.End e) =
    Changes (λ s. bind_all (plain-Subject S) (held_of S) (bindings [] (plain-Pattern a.pattern)) s) old new false × (e ≡ End.Wrong)
TakesArm old S a new _ = ⊥

abbrev pub NoneLeft : List Value → Bool → Type 0
NoneLeft l true = l ≡ []
NoneLeft l false = (rest : List Value) × (v : Value) × (l ≡ rest ++ v ∷ [])
