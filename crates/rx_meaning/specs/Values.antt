-- Values and their parts; memory; the state of a run.
use Rattle.std.specs.Prelude.{ℕ, zero, suc, ℤ, Bool, true, false, ◌&&◌, nat_eq, List, [], ◌∷◌, ◌++◌, length, Option, Some, None, if◌then◌else◌}
use Rattle.rx_core.specs.declared.types.Kind.{Kind}
use Rattle.rx_core.specs.declared.types.Step.{Step}

-- ---- values

-- why a part has no value
pub data Lack : Type 0 where
  -- it was never written
  unset : Lack
  -- where a run marks this: it was moved; its variable has ended
  moved : Lack
  ended : Lack

mutual
  pub data Value : Type 0 where
    number : Kind → ℤ → Value
    truth : Bool → Value
    -- a tuple or struct: its fields in order
    whole : Values → Value
    -- a variant with its parts
    tagged : ℕ → Values → Value
    -- slot, path in it, whether it is mutable
    pointer : ℕ → List Step → Bool → Value
    -- what stands in memory where no value does
    lacking : Lack → Value

  pub data Values : Type 0 where
    no_value : Values
    value_and : Value → Values → Values

abbrev pub unit_value : Value
unit_value = whole no_value

abbrev mutual
  -- each part of it has a value
  pub is_set : Value → Bool
  is_set (number k z) = true
  is_set (truth b) = true
  is_set (whole vs) = are_set vs
  is_set (tagged i vs) = are_set vs
  is_set (pointer i p m) = true
  is_set (lacking l) = false

  pub are_set : Values → Bool
  are_set no_value = true
  are_set (value_and v vs) = is_set v && are_set vs

-- ---- parts

abbrev pub and_then : {A B : Type 0} → Option A → (A → Option B) → Option B
and_then None go = None
and_then (Some a) go = go a

abbrev pub field : Values → ℕ → Option Value
field no_value i = None
field (value_and v vs) zero = Some v
field (value_and v vs) (suc i) = field vs i

abbrev pub with_field : Values → ℕ → Value → Values
with_field no_value i w = no_value
with_field (value_and v vs) zero w = value_and w vs
with_field (value_and v vs) (suc i) w = value_and v (with_field vs i w)

-- what a step leads to; the parts of a variant are seen as those of a tuple, and no other variant has any
abbrev pub part : Value → Step → Option Value
part (whole vs) (Step.Field i) = field vs i
part (tagged i vs) (Step.Variant j) = if nat_eq i j then Some (whole vs) else None
part _ _ = None

abbrev pub with_part : Value → Step → Value → Option Value
with_part (whole vs) (Step.Field i) w = Some (whole (with_field vs i w))
with_part (tagged i vs) (Step.Variant j) (whole ws) = Some (tagged i ws)
with_part _ _ _ = None

-- what stands at a path; the value with something else there
abbrev pub get : List Step → Value → Option Value
get [] v = Some v
get (s ∷ ss) v = and_then (part v s) (λ u. get ss u)

abbrev pub put : List Step → Value → Value → Option Value
put [] w v = Some w
put (s ∷ ss) w v = and_then (part v s) (λ u. and_then (put ss w u) (λ x. with_part v s x))

-- ---- memory

abbrev pub element : {A : Type 0} → List A → ℕ → Option A
element [] i = None
element (a ∷ l) zero = Some a
element (a ∷ l) (suc i) = element l i

abbrev pub with_element : {A : Type 0} → List A → ℕ → A → List A
with_element [] i b = []
with_element (a ∷ l) zero b = b ∷ l
with_element (a ∷ l) (suc i) b = a ∷ with_element l i b

abbrev pub slot_of : List (ℕ × ℕ) → ℕ → Option ℕ
slot_of [] x = None
slot_of (b ∷ bs) x = if nat_eq x b.0 then Some b.1 else slot_of bs x

-- an activation: the item of its function, and its variables with their slots, the newest first
pub record Frame : Type 0 where
  pub item : ℕ
  pub slots : List (ℕ × ℕ)

-- where nothing was declared yet
abbrev pub new_frame : ℕ → Frame
new_frame i = record { item = i; slots = [] }

pub record State : Type 0 where
  -- Each declaration makes a new slot; none is cleared or used again.
  pub memory : List Value
  -- of the activation that runs
  pub frame : Frame
  -- what is left of the input
  pub input : List ℤ
  -- how many turns are left
  pub turns : ℕ

abbrev pub with_memory : State → List Value → State
with_memory s M = record s { memory = M }

abbrev pub with_turns : State → ℕ → State
with_turns s n = record s { turns = n }

-- a new slot for the variable, in which nothing was written
abbrev pub with_variable : ℕ → State → State
with_variable x s = record s {
  memory = s.memory ++ lacking unset ∷ [];
  frame = record { item = s.frame.item; slots = (x, length s.memory) ∷ s.frame.slots };
}
