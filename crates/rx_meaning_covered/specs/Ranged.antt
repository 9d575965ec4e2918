-- Values whose integers are in the ranges of their kinds (Rust Reference, "Numeric types"), states of them, and types that have values.
use Rattle.std.specs.Prelude.{◌≡◌, ℕ, ℤ, Bool, true, ◌⊎◌, List, [], ◌∷◌, ◌++◌, Option, Some, None}
use Rattle.rx_core.specs.declared.types.Kind.{Kind}
use Rattle.rx_core.specs.declared.types.Step.{Step}
use Rattle.rx_typed.specs.Types.{Typ, Declarations}
use Rattle.rx_typed.specs.Tree.{Temporary, Constant, whole_number, constant, negation, Function}
use Rattle.rx_typed.specs.Tree as tree
use Rattle.rx_lower_walks.specs.Actions.{Act, Build, Action, does, operands}
use Rattle.rx_lower_walks.specs.Walks.{IsWalk, Among}
use Rattle.rx_meaning.specs.Values.{Value, Values, number, truth, whole, tagged, pointer, lacking, no_value, value_and, State}
use Rattle.rx_meaning.specs.Operators.{is_in}
use Rattle.rx_cover.specs.Values as covering
use Rattle.rx_meaning_keeping.specs.Pending.{Pending}
use Rattle.rx_meaning_typed.specs.TypedActs.{typ_along}

abbrev mutual
  pub IsRanged : Value → Type 0
  IsRanged (number k z) = is_in k z ≡ true
  IsRanged (truth b) = Unit {0}
  IsRanged (whole vs) = AreRanged vs
  IsRanged (tagged i vs) = AreRanged vs
  IsRanged (pointer i p m) = Unit {0}
  IsRanged (lacking l) = Unit {0}

  pub AreRanged : Values → Type 0
  AreRanged no_value = Unit {0}
  AreRanged (value_and v vs) = IsRanged v × AreRanged vs

abbrev pub AllRanged : List Value → Type 0
AllRanged [] = Unit {0}
AllRanged (v ∷ vs) = IsRanged v × AllRanged vs

-- What a literal is before a minus makes it negative may be one more than the greatest integer of its kind; these are the temporaries
-- of such.
abbrev pub HeldRanged : (Temporary → Bool) → Option Temporary → Value → Type 0
HeldRanged N None v = IsRanged v
HeldRanged N (Some t) v = (N t ≡ true) ⊎ IsRanged v

abbrev pub PendingRanged : (Temporary → Bool) → Pending → Type 0
PendingRanged N [] = Unit {0}
PendingRanged N (k ∷ K) = HeldRanged N k.0 k.1 × PendingRanged N K

-- what is read is of 64 bits
abbrev pub InputRanged : List ℤ → Type 0
InputRanged [] = Unit {0}
InputRanged (z ∷ zs) = (is_in Kind.I64 z ≡ true) × InputRanged zs

pub record StateRanged (N : Temporary → Bool) (s : State) (K : Pending) : Type 0 where
  pub memory : AllRanged s.memory
  pub pending : PendingRanged N K
  pub input : InputRanged s.input

-- ---- constants

abbrev pub ConstantRanged : Constant → Type 0
ConstantRanged (whole_number k z) = is_in k z ≡ true
ConstantRanged (tree.truth b) = Unit {0}

abbrev pub IsNegation : Act → Type 0
IsNegation (Build negation js ts d) = Unit {0}
IsNegation _ = ⊥

-- on a function's walks each constant is in range, or is made negative next
pub record RangesFit (N : Temporary → Bool) (F : Function) : Type 0 where
  pub constants : (w : List Action) (n : ℕ) (c : Constant) (js : List ℕ) (ts : List Temporary) (d : Temporary) → IsWalk F (w ++ does n (Build (constant c) js ts d) ∷ []) → (N d ≡ true) ⊎ ConstantRanged c
  pub uses : (w : List Action) (a : Action) (t : Temporary) → IsWalk F (w ++ a ∷ []) → Among t (operands a.act) → N t ≡ true → IsNegation a.act

-- ---- each part of a type has values

abbrev pub IsInhabited : Declarations → Typ → Type 0
IsInhabited D t = (ss : List Step) (u : Typ) → typ_along D t ss ≡ Some u → (c : covering.Value) × covering.IsOfType D u c
