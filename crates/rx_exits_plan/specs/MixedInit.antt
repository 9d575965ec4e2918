-- When a variable that a run names is neither set nor unset for sure where the run is entered. (Rust Reference, "Variables".)
use Rattle.std.specs.Prelude.{◌≡◌, ℕ, true, false, List}
use Rattle.rx_typed.specs.Tree.{own}
use Rattle.rx_lower_walks.specs.Actions.{Action}
use Rattle.rx_lower_walks.specs.Walks.{Among}
use Rattle.rx_facts_tables.specs.Places.{is_part}
use Rattle.rx_facts_tables.specs.Setting.{is_set}
use Rattle.rx_exits_plan.specs.Points.{enters}
use Rattle.rx_exits_plan.specs.Asked.{Asked, ComesTo}
use Rattle.rx_exits_plan.specs.Plan.{foreign_of}

-- it is declared outside, and some part of it is set on one walk that enters the run and unset on another
pub record MixedInit (A : Asked) (x : ℕ) : Type 0 where
  pub named : Among x (foreign_of A)
  pub part : ℕ
  pub is_one : is_part A.frame (own x) part ≡ true
  pub set : (w : List Action) × ComesTo A enters w × (is_set A.frame w part ≡ true)
  pub unset : (w : List Action) × ComesTo A enters w × (is_set A.frame w part ≡ false)
