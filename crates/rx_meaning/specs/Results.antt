-- What a part of a program does, and one part behind another.
use Rattle.std.specs.Prelude.{List, [], ◌++◌, Option, Some, None}
use Rattle.rx_lower_walks.specs.Orders.{Exit}
use Rattle.rx_meaning.specs.Endings.{Cause, Ending, wrong}
use Rattle.rx_meaning.specs.Values.{Value, State}

-- It tells something, as the bytes that it prints, and then goes on with what it gives, jumps with a value, or ends the run.
pub data Result (E A : Type 0) : Type 0 where
  on : List E → A → State → Result E A
  jumps : List E → Exit → Value → State → Result E A
  stops : List E → Ending → Result E A

-- the same after this was told
unfoldable pub after : {E A : Type 0} → List E → Result E A → Result E A
after w (on v a s) = on (w ++ v) a s
after w (jumps v x a s) = jumps (w ++ v) x a s
after w (stops v e) = stops (w ++ v) e

-- goes on with what a part gave; a jump and an end pass by what follows
unfoldable pub bind : {E A B : Type 0} → Result E A → (A → State → Result E B) → Result E B
bind (on w a s) go = after w (go a s)
bind (jumps w x a s) go = jumps w x a s
bind (stops w e) go = stops w e

-- where it goes on or jumps, the state is so
abbrev pub Leaves : {E A : Type 0} → (State → Type 0) → Result E A → Type 0
Leaves I (on w a s) = I s
Leaves I (jumps w x v s) = I s
Leaves I (stops w e) = Unit {0}

-- What an action does: it never jumps.
pub data Done (E : Type 0) : Type 0 where
  gives : List E → Value → State → Done E
  ends : List E → Ending → Done E

-- goes on from what is there; else it is Wrong, for this cause
abbrev pub or_ends : {E A : Type 0} → Cause → Option A → (A → Done E) → Done E
or_ends c None go = ends [] (wrong c)
or_ends c (Some a) go = go a

unfoldable pub result_of : {E : Type 0} → Done E → Result E Value
result_of (gives w v s) = on w v s
result_of (ends w e) = stops w e
