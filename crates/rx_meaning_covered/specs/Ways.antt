-- Ways into values through the parts of variants: each variant on the way is the one that is there (Rust Reference, "Enumerations";
-- "Place expressions and value expressions"). What lacks a value has no variant.
use Rattle.std.specs.Prelude.{◌≡◌, ℕ, List, [], ◌∷◌, Option, Some, None}
use Rattle.rx_core.specs.declared.types.Step.{Step}
use Rattle.rx_typed.specs.Tree.{Root, variable, temporary, Place, temporary_place, under}
use Rattle.rx_lower_walks.specs.Actions.{Act, Read, Write, Borrow, Test}
use Rattle.rx_meaning.specs.Values.{Value, whole, tagged, and_then, field, element, slot_of, State}

-- of what is there, if anything is
abbrev pub Where : {A : Type 0} → Option A → (A → Type 0) → Type 0
Where None P = Unit {0}
Where (Some a) P = P a

abbrev pub OnWay : List Step → Value → Type 0
OnWay [] v = Unit {0}
OnWay (Step.Field i ∷ ss) (whole vs) = Where (field vs i) (λ u. OnWay ss u)
OnWay (Step.Variant j ∷ ss) (tagged i vs) = (i ≡ j) × OnWay ss (whole vs)
OnWay (_ ∷ ss) _ = Unit {0}

-- what stands at the root of a place: in the slot of its variable, or held in its temporary
abbrev pub root_value : Root → List Value → State → Option Value
root_value (variable x) vs s = and_then (slot_of s.frame.slots x) (λ i. element s.memory i)
root_value (temporary t) [] s = None
root_value (temporary t) (v ∷ vs) s = Some v

-- a value is held where the place is of a temporary
abbrev pub IsHeld : Root → List Value → Type 0
IsHeld (variable x) vs = Unit {0}
IsHeld (temporary t) [] = ⊥
IsHeld (temporary t) (v ∷ vs) = Unit {0}

abbrev pub Leads : Place → List Value → State → Type 0
Leads p vs s = IsHeld p.root vs × Where (root_value p.root vs s) (λ v. OnWay p.steps v)

abbrev pub HasNoVariant : List Step → Type 0
HasNoVariant [] = Unit {0}
HasNoVariant (Step.Variant j ∷ ss) = ⊥
HasNoVariant (_ ∷ ss) = HasNoVariant ss

-- of a variable, through no variant
abbrev pub IsDirect : Place → Type 0
IsDirect p = HasNoVariant p.steps × IsHeld p.root []

-- each place of an action leads so; what is written is a place without variants
abbrev pub Stands : Act → List Value → State → Type 0
Stands (Read m p d) vs s = Leads p vs s
Stands (Borrow k p d) vs s = Leads p vs s
Stands (Test p c) vs s = Leads p vs s
Stands (Write p t ss) vs s = HasNoVariant p.steps × IsHeld p.root [] × Leads (under (temporary_place t) ss) vs s
Stands _ vs s = Unit {0}

-- ---- slots

abbrev pub HasSlot : State → ℕ → Type 0
HasSlot s x = (i : ℕ) × (slot_of s.frame.slots x ≡ Some i)

abbrev pub IsRooted : Place → State → Type 0
IsRooted p s = (x : ℕ) → p.root ≡ variable x → HasSlot s x

-- the variable of each place of an action has a slot
abbrev pub SlotsFor : Act → State → Type 0
SlotsFor (Read m p d) s = IsRooted p s
SlotsFor (Borrow k p d) s = IsRooted p s
SlotsFor (Test p c) s = IsRooted p s
SlotsFor (Write p t ss) s = IsRooted p s
SlotsFor _ s = Unit {0}
