-- Where places lead (Rust Reference, "Place expressions and value expressions", "The dereference operator",
-- "Field access expressions"), and what is read, written and borrowed there.
use Rattle.std.specs.Prelude.{ℕ, Bool, true, ◌&&◌, List, [], ◌∷◌, ◌++◌, Option, Some, None, if◌then◌else◌}
use Rattle.rx_core.specs.declared.types.Step.{Step}
use Rattle.rx_typed.specs.Tree.{Root, variable, temporary, Place}
use Rattle.rx_meaning.specs.Values.{Value, pointer, is_set, and_then, part, get, put, element, with_element, Frame, slot_of, State}

pub data Spot : Type 0 where
  -- slot, path, whether it was come to through mutable references alone
  in_slot : ℕ → List Step → Bool → Spot
  -- a part of a value that is held in a temporary
  in_value : Value → Spot

abbrev pub content : List Value → Spot → Option Value
content M (in_slot i p w) = and_then (element M i) (λ v. get p v)
content M (in_value v) = Some v

-- a step to a field, or to the parts of a variant
abbrev pub deeper : Step → Spot → Option Spot
deeper s (in_slot i p w) = Some (in_slot i (p ++ s ∷ []) w)
deeper s (in_value v) = and_then (part v s) (λ u. Some (in_value u))

abbrev pub may_write : Spot → Bool
may_write (in_slot i p w) = w
may_write (in_value v) = true

-- the place that a reference leads to
abbrev pub pointed : Bool → Value → Option Spot
pointed w (pointer i p m) = Some (in_slot i p (w && m))
pointed w _ = None

abbrev pub follow : List Value → List Step → Spot → Option Spot
follow M [] at = Some at
follow M (Step.Deref m ∷ ss) at = and_then (content M at) (λ v. and_then (pointed (may_write at) v) (λ to. follow M ss to))
follow M (s ∷ ss) at = and_then (deeper s at) (λ to. follow M ss to)

-- the value in the temporary of a place is the first that is held
abbrev pub first_held : List Value → Option Spot
first_held [] = None
first_held (v ∷ vs) = Some (in_value v)

abbrev pub start : Root → List Value → Frame → Option Spot
start (variable x) vs F = and_then (slot_of F.slots x) (λ i. Some (in_slot i [] true))
start (temporary t) vs F = first_held vs

abbrev pub spot : Place → List Value → State → Option Spot
spot p vs s = and_then (start p.root vs s.frame) (λ at. follow s.memory p.steps at)

-- what a place leads to, and what stands there
abbrev pub found : Place → List Value → State → Option (Spot × Value)
found p vs s = and_then (spot p vs s) (λ at. and_then (content s.memory at) (λ v. Some (at, v)))

-- what is read has a value in each part
abbrev pub whole_value : Spot × Value → Option Value
whole_value f = if is_set f.1 then Some f.1 else None

-- A reference to a place: it is mutable where it is asked to be and the place may be written, so that nothing behind a shared
-- reference is written by way of another. None leads into a temporary.
abbrev pub reference_to : Bool → Spot → Option Value
reference_to k (in_slot i p w) = Some (pointer i p (k && w))
reference_to k (in_value v) = None

-- the memory after a write; nothing is written through a shared reference
abbrev pub after_write : Value → List Value → Spot → Option (List Value)
after_write v M (in_slot i p true) = and_then (element M i) (λ u. and_then (put p v u) (λ x. Some (with_element M i x)))
after_write v M _ = None
