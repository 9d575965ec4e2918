-- What is said of a run that tells its actions: they are a walk of its order, which ends as the run does, and behind them this holds.
use Rattle.std.specs.Prelude.{◌≡◌, List, ◌++◌}
use Rattle.rx_lower_walks.specs.Actions.{Action}
use Rattle.rx_lower_walks.specs.Orders.{Exit, Order}
use Rattle.rx_lower_walks.specs.Walks.{Walk}
use Rattle.rx_lower_walks.specs.Walks as walk
use Rattle.rx_meaning.specs.Endings.{Ending}
use Rattle.rx_meaning.specs.Values.{Value, State}
use Rattle.rx_meaning.specs.Results.{Result, on, jumps, stops}
use Rattle.rx_meaning.specs.Telling.{Told, acted}

-- Of a part behind these actions: where it goes on, where it jumps, and how it may end the run.
pub data Follows {E A : Type 0} (Ok : Ending → Type 0) (Post : List Action → A → State → Type 0) (Leap : List Action → Exit → Value → State → Type 0) (V : Order) (w : List Action) : Result (Told E) A → Type 0 where
  goes : {t : List (Told E)} {a : A} {s : State} (o : List Action) → acted t ≡ o → Walk V o walk.on → Post (w ++ o) a s → Follows Ok Post Leap V w (on t a s)
  leaps : {t : List (Told E)} {x : Exit} {v : Value} {s : State} (o : List Action) → acted t ≡ o → Walk V o (walk.leaves x) → Leap (w ++ o) x v s → Follows Ok Post Leap V w (jumps t x v s)
  halts : {t : List (Told E)} {e : Ending} (o : List Action) → acted t ≡ o → Walk V o walk.stopped → Ok e → Follows Ok Post Leap V w (stops t e)
