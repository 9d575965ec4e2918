-- What is set on the walk has a value: what lacks one in the slot of a variable is lost on the walk.
use Rattle.std.specs.Prelude.{◌≡◌, ℕ, ◌≤◌, ◌<◌, true, false, List, [], ◌∷◌, length, Some}
use Rattle.rx_core.specs.declared.types.Step.{Step}
use Rattle.rx_core.specs.declared.types.Step.TheVariants as step
use Rattle.rx_lower_walks.specs.Actions.{Action}
use Rattle.rx_meaning.specs.Values.{Value, Lack, lacking, is_set, get, element, slot_of, State}
use Rattle.rx_facts_tables.specs.Places.{Frame, is_part}
use Rattle.rx_facts_tables.specs.Setting as setting
use Rattle.rx_facts_tables.specs.Wholes.{placed, stands}
use Rattle.rx_meaning_keeping.specs.Pending.{Pending}
use Rattle.rx_meaning_keeping.specs.Ready.{HasPart}

-- ---- ways that part at a field

abbrev pub Plain : Step → Type 0
Plain (step.Deref m) = ⊥
Plain _ = Unit {0}

pub data Off : List Step → List Step → Type 0 where
  off_field : {i j : ℕ} {qs ss : List Step} → (i ≡ j → ⊥) → Off (step.Field i ∷ qs) (step.Field j ∷ ss)
  off_under : {s : Step} {qs ss : List Step} → Plain s → Off qs ss → Off (s ∷ qs) (s ∷ ss)

-- a place has parts, none of them is set on the walk, and it is not there as a whole
pub record Lost (F : Frame) (w : List Action) (x : ℕ) (qs : List Step) : Type 0 where
  pub has : HasPart F x qs
  pub unset : (n : ℕ) → is_part F (placed x qs) n ≡ true → setting.is_set F w n ≡ false
  pub gone : stands w x qs ≡ false

-- what a call finds: the memory
pub record World : Type 0 where
  pub memory : List Value

-- what is pending has a value in each part
abbrev pub Here : Pending → Type 0
Here [] = Unit {0}
Here (k ∷ K) = (is_set k.1 ≡ true) × Here K

-- of the memory, the slots of the variables, and what is pending
pub record Marks (F : Frame) (k : World) (w : List Action) (M : List Value) (bs : List (ℕ × ℕ)) (K : Pending) : Type 0 where
  -- each variable has a slot of its own, which no call before had
  pub slots : (x i : ℕ) → slot_of bs x ≡ Some i → (length k.memory ≤ i) × (i < length M)
  pub apart : (x y i : ℕ) → slot_of bs x ≡ Some i → slot_of bs y ≡ Some i → x ≡ y
  pub lost : (x i : ℕ) (v : Value) (qs : List Step) (l : Lack) → slot_of bs x ≡ Some i → element M i ≡ Some v → get qs v ≡ Some (lacking l) → Lost F w x qs
  -- of what the call found nothing more is lacking
  pub grows : length k.memory ≤ length M
  pub outer : (i : ℕ) (v : Value) (qs : List Step) (l : Lack) → i < length k.memory → element M i ≡ Some v → get qs v ≡ Some (lacking l)
      → (u : Value) × (m : Lack) × (element k.memory i ≡ Some u) × (get qs u ≡ Some (lacking m))
  pub here : Here K

abbrev pub Marked : Frame → World → List Action → State → Pending → Type 0
Marked F k w s K = Marks F k w s.memory s.frame.slots K
