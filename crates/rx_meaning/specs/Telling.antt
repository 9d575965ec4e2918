-- The actions that a run performs: any way to act, telling them in place of what it tells, or beside it; and runs that are alike
-- but for what they tell.
use Rattle.std.specs.Prelude.{◌≡◌, List, [], ◌∷◌}
use Rattle.rx_lower_walks.specs.Actions.{Action}
use Rattle.rx_lower_walks.specs.Orders.{Exit}
use Rattle.rx_lower_walks.specs.Walks as walks
use Rattle.rx_lower_walks.specs.Walks.{Out}
use Rattle.rx_meaning.specs.Endings.{Ending}
use Rattle.rx_meaning.specs.Values.{Value, State}
use Rattle.rx_meaning.specs.Results.{Done, gives, ends, Result, on, jumps, stops}
use Rattle.rx_meaning.specs.Acting.{Acting}

-- ---- the actions alone

-- an action is told where it is done, also where it ends the run
unfoldable pub told : {E : Type 0} → Action → Done E → Done Action
told a (gives w v s) = gives (a ∷ []) v s
told a (ends w e) = ends (a ∷ []) e

-- a way to act, telling the actions of one activation: nothing of the calls in it
abbrev pub telling : {E : Type 0} → Acting E → Acting Action
telling A = record { perform = λ a vs s. told a (A.perform a vs s); inner = λ w. [] }

-- ---- the actions and what the way to act tells, as its bytes, in the order in which they come

pub data Told (E : Type 0) : Type 0 where
  says : E → Told E
  did : Action → Told E

-- what the way to act told
abbrev pub said : {E : Type 0} → List (Told E) → List E
said [] = []
said (says b ∷ w) = b ∷ said w
said (did a ∷ w) = said w

-- the actions
abbrev pub acted : {E : Type 0} → List (Told E) → List Action
acted [] = []
acted (says b ∷ w) = acted w
acted (did a ∷ w) = a ∷ acted w

abbrev pub saying : {E : Type 0} → List E → List (Told E)
saying [] = []
saying (b ∷ w) = says b ∷ saying w

unfoldable pub noted : {E : Type 0} → Action → Done E → Done (Told E)
noted a (gives w v s) = gives (did a ∷ saying w) v s
noted a (ends w e) = ends (did a ∷ saying w) e

-- a way to act, telling the actions of one activation too
abbrev pub fully : {E : Type 0} → Acting E → Acting (Told E)
fully A = record { perform = λ a vs s. noted a (A.perform a vs s); inner = λ w. saying (A.inner (said w)) }

-- ---- what is told

abbrev pub told_by : {E A : Type 0} → Result E A → List E
told_by (on w a s) = w
told_by (jumps w x v s) = w
told_by (stops w e) = w

-- how a walk ends that goes as far
abbrev pub out_of : {E A : Type 0} → Result E A → Out
out_of (on w a s) = walks.on
out_of (jumps w x v s) = walks.leaves x
out_of (stops w e) = walks.stopped

-- the same but for what is told, which is so related
pub data Alike {E F A : Type 0} (T : List E → List F → Type 0) : Result E A → Result F A → Type 0 where
  alike_on : {w : List E} {u : List F} {a : A} {s : State} → T w u → Alike T (on w a s) (on u a s)
  alike_jump : {w : List E} {u : List F} {x : Exit} {v : Value} {s : State} → T w u → Alike T (jumps w x v s) (jumps u x v s)
  alike_stop : {w : List E} {u : List F} {e : Ending} → T w u → Alike T (stops w e) (stops u e)

-- whatever is told
abbrev pub Anything : {E F : Type 0} → List E → List F → Type 0
Anything w u = Unit {0}

-- what the way to act told is told
abbrev pub SameSaid : {E : Type 0} → List E → List (Told E) → Type 0
SameSaid w u = w ≡ said u

-- these actions are told
abbrev pub SameActions : {E : Type 0} → List Action → List (Told E) → Type 0
SameActions w u = w ≡ acted u
