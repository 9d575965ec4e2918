-- What the code's data stand for, and what its functions do to memory and text.
use Rattle.std.specs.Prelude.{◌≡◌, ℕ, zero, suc, Bool, true, false, List, [], ◌∷◌, ◌++◌, Option, Some, None, if◌then◌else◌, map}
use Rattle.rx_core.specs.declared.types.Step.{Step}
use Rattle.rx_typed.specs.Tree.{fields_of}
use Rattle.rx_typed.specs.declared.tree.Operand.{Operand}
use Rattle.rx_typed.specs.PlainTree.{plain-Operand, operands_of}
use Rattle.rx_meaning.specs.Values.{Value, Values, lacking, unset, is_set, and_then, with_field}
use Rattle.rx_meaning.specs.Places as places
use Rattle.rx_meaning.specs.Places.{in_slot, in_value, content, follow, after_write}
use Rattle.rx_meaning.specs.Operators.{Computed, gives, traps, senseless}
use Rattle.rx_machine_values.specs.PlainValues.{plain-Value, plain-Part}
use Rattle.rx_machine_actions.specs.declared.operators.Made.{Made}
use Rattle.rx_machine_actions.specs.declared.operators.Made.TheVariants as made
use Rattle.rx_machine_actions.specs.declared.spots.Spot.{Spot}
use Rattle.rx_machine_actions.specs.declared.spots.Spot.TheVariants as spot
use Rattle.rx_machine_actions.specs.declared.spots.Way.{Way}

abbrev pub plain-Made : Made → Computed
plain-Made (made.Value v) = gives (plain-Value v)
plain-Made (made.Traps t) = traps t
plain-Made made.Senseless = senseless

abbrev pub plain-Spot : Spot → places.Spot
plain-Spot (spot.Slot i p w) = in_slot i p w
plain-Spot (spot.Held v) = in_value (plain-Part v)

abbrev pub plain-Way : Way → places.Spot
plain-Way w = in_slot w.slot w.path true

-- where something may be written
abbrev pub writable_spot : places.Spot → Option places.Spot
writable_spot (in_slot i p true) = Some (in_slot i p true)
writable_spot _ = None

-- the value, where each part of it has one
abbrev pub if_set : Value → Option Value
if_set v = if is_set v then Some v else None

-- what steps lead to from a place, and what stands there
abbrev pub found_from : List Value → places.Spot → List Step → Option (places.Spot × Value)
found_from M at ss = and_then (follow M ss at) (λ to. and_then (content M to) (λ v. Some (to, v)))

-- one step of a place
abbrev pub one_step : List Value → Step → places.Spot → Option places.Spot
one_step M (Step.Deref m) at = and_then (content M at) (λ v. places.pointed (places.may_write at) v)
one_step M s at = places.deeper s at

-- the memory after a write where the steps lead from a slot; nothing changes where that is Wrong
abbrev pub Wrote : List Value → ℕ → List Step → Value → List Value → Bool → Type 0
Wrote M i ss v N true = and_then (follow M ss (in_slot i [] true)) (λ at. after_write v M at) ≡ Some N
Wrote M i ss v N false = (and_then (follow M ss (in_slot i [] true)) (λ at. after_write v M at) ≡ None) × (N ≡ M)

-- the fields of operands
abbrev pub written_fields : List Operand → List ℕ
written_fields es = fields_of (operands_of (map plain-Operand es))

abbrev pub unsets : ℕ → List Value
unsets zero = []
unsets (suc n) = lacking unset ∷ unsets n

-- with the value in the place of the field of the operand at a number, where there is one
abbrev pub PlacedAt : List Operand → ℕ → Value → Values → Values → Type 0
PlacedAt [] k v old new = new ≡ old
PlacedAt (e ∷ es) zero v old new = new ≡ with_field old e.field v
PlacedAt (e ∷ es) (suc k) v old new = PlacedAt es k v old new

-- the text with these bytes behind it, where there are some
abbrev pub Printed : Option (List ℕ) → List ℕ → List ℕ → Bool → Type 0
Printed (Some w) old new true = new ≡ old ++ w
Printed None old new false = new ≡ old
Printed _ old new _ = ⊥
