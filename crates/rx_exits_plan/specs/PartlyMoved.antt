-- When a variable of a run is there in part only, where the run is entered or where it is handed out. (Rust Reference, "Moved and copied
-- types".)
use Rattle.std.specs.Prelude.{◌≡◌, ℕ, true, List, []}
use Rattle.rx_typed.specs.Tree.{own}
use Rattle.rx_lower_walks.specs.Actions.{Action}
use Rattle.rx_lower_walks.specs.Walks.{Among}
use Rattle.rx_facts_tables.specs.Setting.{SomeUnset}
use Rattle.rx_facts_tables.specs.Wholes.{stands}
use Rattle.rx_exits_plan.specs.Points.{Exit, enters, leaves}
use Rattle.rx_exits_plan.specs.Asked.{Asked, ComesTo}
use Rattle.rx_exits_plan.specs.Plan.{Plan, foreign_of}

pub data PartlyMoved (A : Asked) (k : Plan) (x : ℕ) : Type 0 where
  -- it is declared outside, and on some walk that enters the run it is neither wholly set, nor unset or moved as a whole
  at_entry : (w : List Action) → Among x (foreign_of A) → ComesTo A enters w → SomeUnset A.frame w (own x) → stands w x [] ≡ true → PartlyMoved A k x
  -- an exit hands it out, and some walk to the exit has a part of it unset
  at_exit : (w : List Action) (e : Exit) → Among e k.exits → Among x (k.outs e) → ComesTo A (leaves e) w → SomeUnset A.frame w (own x) → PartlyMoved A k x
