-- Functions that act by types, and programs of such functions.
use Rattle.std.specs.Prelude.{◌≡◌, ℕ, true, List, [], ◌∷◌, ◌++◌}
use Rattle.rx_typed.specs.Types.{Declarations, boolean, unit_shape}
use Rattle.rx_typed.specs.Tree.{Temporary, Making, Function}
use Rattle.rx_lower_walks.specs.Actions.{Build, Action, does}
use Rattle.rx_lower_walks.specs.Walks.{IsWalk}
use Rattle.rx_meaning.specs.Values.{Value, is_set}
use Rattle.rx_meaning.specs.Operators as operators
use Rattle.rx_meaning.specs.Operators.{make}
use Rattle.rx_meaning.specs.Expressions.{Functions}
use Rattle.rx_meaning_keeping.specs.Pending.{Paired}
use Rattle.rx_meaning_keeping.specs.Ready.{AllHere}
use Rattle.rx_meaning_keeping.specs.Units.{IsUnitOf}
use Rattle.rx_meaning_keeping.specs.RightOperands.{IsRightOf}
use Rattle.rx_meaning_keeping.specs.Keeping.{IsFunction}
use Rattle.rx_meaning_typed.specs.TypedActs.{Typing, ActsTyped, IsSigned}

-- where the unit comes by no action, it is of the unit's type
abbrev pub UnitsTyped : Typing → Function → Type 0
UnitsTyped T F = (t : Temporary) → IsUnitOf F t → T.temporaries t ≡ unit_shape

-- what goes on as a right operand of `&&` or `||` is a truth value
abbrev pub IsTruth : Typing → Temporary → Type 0
IsTruth T t = T.temporaries t ≡ boolean

abbrev pub RightsTyped : Typing → Function → Type 0
RightsTyped T F = (t : Temporary) → IsRightOf F t → IsTruth T t

-- what is made of values has no part without one
abbrev pub MakesWholes : Function → Type 0
MakesWholes F = (w : List Action) (n : ℕ) (m : Making) (js : List ℕ) (ts : List Temporary) (d : Temporary) → IsWalk F (w ++ does n (Build m js ts d) ∷ [])
    → (vs : List Value) (v : Value) → Paired ts vs → AllHere vs → make m js vs ≡ operators.gives v → is_set v ≡ true

pub record FunctionTyped (T : Typing) (f : ℕ) (F : Function) : Type 0 where
  pub signed : IsSigned T f F
  pub acts : ActsTyped T F
  pub units : UnitsTyped T F
  pub rights : RightsTyped T F
  pub wholes : MakesWholes F

-- each function of a program, over the same declarations
pub record ProgramTyped (D : Declarations) (Ts : ℕ → Typing) (P : Functions) : Type 0 where
  pub declared : (f : ℕ) → (Ts f).declared ≡ D
  pub functions : (f : ℕ) (F : Function) → IsFunction P f F → FunctionTyped (Ts f) f F
