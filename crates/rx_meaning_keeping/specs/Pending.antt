-- What is pending in a run: the values of temporaries that are still to be used (Rust Reference, "Temporaries"), the newest first.
-- What `give` gave has no temporary.
use Rattle.std.specs.Prelude.{◌≡◌, List, [], ◌∷◌, Option, Some, None}
use Rattle.rx_typed.specs.Tree.{Temporary, Place, Parameter}
use Rattle.rx_lower_walks.specs.Actions.{Subject, in_place, in_temporary}
use Rattle.rx_lower_walks.specs.Orders.{Exit, returns, argument}
use Rattle.rx_meaning.specs.Values.{Value}

abbrev pub Pending : Type 0
Pending = List (Option Temporary × Value)

abbrev pub holds : Temporary → Value → Pending → Pending
holds d v K = (Some d, v) ∷ K

-- what is pending behind a jump
abbrev pub landing : Exit → Value → Pending → Pending
landing (returns n) v K = (None, v) ∷ K
landing _ v K = K

-- several, the first the oldest
abbrev pub pushes : List Temporary → List Value → Pending → Pending
pushes [] vs K = K
pushes (t ∷ ts) [] K = K
pushes (t ∷ ts) (v ∷ vs) K = pushes ts vs (holds t v K)

pub data Paired : List Temporary → List Value → Type 0 where
  no_pair : Paired [] []
  pair_and : {t : Temporary} {ts : List Temporary} {v : Value} {vs : List Value} → Paired ts vs → Paired (t ∷ ts) (v ∷ vs)

abbrev pub with_id : Option Temporary → List Temporary → List Temporary
with_id None J = J
with_id (Some t) J = t ∷ J

abbrev pub ids : Pending → List Temporary
ids [] = []
ids (k ∷ K) = with_id k.0 (ids K)

abbrev pub Unheld : Temporary → List Temporary → Type 0
Unheld d [] = Unit {0}
Unheld d (t ∷ J) = (d ≡ t → ⊥) × Unheld d J

-- fewer are pending, or the same in another order
pub data Thin : Pending → Pending → Type 0 where
  none : Thin [] []
  keeps : {k : Option Temporary × Value} {K K' : Pending} → Thin K K' → Thin (k ∷ K) (k ∷ K')
  skips : {k : Option Temporary × Value} {K K' : Pending} → Thin K K' → Thin K (k ∷ K')
  swaps : {k l : Option Temporary × Value} {K K' : Pending} → Thin K K' → Thin (k ∷ l ∷ K) (l ∷ k ∷ K')

-- what is held of what a pattern is matched against
abbrev pub holding : Subject → List Value → Pending → Pending
holding (in_place p) vs K = K
holding (in_temporary t) [] K = K
holding (in_temporary t) (v ∷ vs) K = holds t v K

pub data Fits : Subject → List Value → Type 0 where
  of_place : {p : Place} → Fits (in_place p) []
  of_held : {t : Temporary} {v : Value} → Fits (in_temporary t) (v ∷ [])

-- ---- what a call brings: its arguments, in the temporaries of the parameters

abbrev pub arguments : List Parameter → List Value → Pending
arguments [] vs = []
arguments (p ∷ ps) [] = []
arguments (p ∷ ps) (v ∷ vs) = holds (argument p) v (arguments ps vs)

pub data AsMany : List Parameter → List Value → Type 0 where
  no_more : AsMany [] []
  one_more : {p : Parameter} {ps : List Parameter} {v : Value} {vs : List Value} → AsMany ps vs → AsMany (p ∷ ps) (v ∷ vs)
