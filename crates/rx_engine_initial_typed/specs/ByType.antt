-- A read moves what isn't Copy, and nothing from behind a reference (Rust Reference, "Moved and copied types"): so it is where types say what
-- moves.
use Rattle.std.specs.Prelude.{◌≡◌, ℕ, Bool, true, false, not}
use Rattle.rx_typed.specs.Types.{Typ, copies}
use Rattle.rx_typed.specs.Tree.{Temporary, Place, variable}
use Rattle.rx_lower_walks.specs.Actions.{Read, Action}
use Rattle.rx_lower_walks.specs.Orders.{Order}
use Rattle.rx_lower_walks.specs.Walks.{Among, actions_in}
use Rattle.rx_facts_tables.specs.Places.{Frame, whole, place_at}
use Rattle.rx_facts_tables.specs.Setting.{is_behind}

-- a read of a place of a variable
pub record MovesByType (F : Frame) (p : Place) (moves : Bool) : Type 0 where
  pub behind : is_behind p.steps ≡ true → moves ≡ false
  pub itself : is_behind p.steps ≡ false → (t : Typ) × ((place_at F p).spot ≡ whole t) × (moves ≡ not (copies F.declared t))

-- each that a part has, whether or not some walk comes there
pub record ReadsByType (F : Frame) (s : Order) : Type 0 where
  pub each : (a : Action) (x : ℕ) (p : Place) (moves : Bool) (d : Temporary) → Among a (actions_in s) → a.act ≡ Read moves p d → p.root ≡ variable x → MovesByType F p moves
