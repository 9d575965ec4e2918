-- What stands in place of a run, in the forms that are asked for where the new function is called (rx_engine_made_trees): the call's arguments, the call alone
-- or matched, what is done with what it hands out, and what is declared again (REM, "Extract method").
use Rattle.std.specs.Prelude.{◌≡◌, ℕ, Bool, true, false, List, Option, Some, None}
use Rattle.rx_typed.specs.Named.{Else, Exp, Exps, Statements}
use Rattle.rx_typed.specs.Elaborated.{Assigned}
use Rattle.rx_exits_plan.specs.Asked.{Asked}
use Rattle.rx_exits_plan.specs.Plan.{Plan}
use Rattle.rx_exits_plan.specs.Points.{next}
use Rattle.rx_modes_policy.specs.declared.uses.Mode.{Mode}
use Rattle.rx_engine_holes.specs.Run.{append}
use Rattle.rx_engine_simulation.specs.Sights.{How, In, Renaming}
use Rattle.rx_engine_simulation.specs.Jumps.{Jumping}
use Rattle.rx_engine_simulation.specs.Passing.{inner_jumps}
use Rattle.rx_engine_simulation.specs.Packing.{as_variant, bare, no_way, AreNew, Way}
use Rattle.rx_engine_related.specs.Leaving.{jumps_of, variant_for}
use Rattle.rx_engine_made_trees.specs.Arguments.{ArgumentsFor}
use Rattle.rx_engine_made_trees.specs.Handing.{DeclaresAll, HandsOver}
use Rattle.rx_engine_made_trees.specs.Seen.{SameLength}
use Rattle.rx_engine_made_trees.specs.Standing.{Called}
use Rattle.rx_engine_made_trees.specs.Tails.{HandsTail, TailCalled}

-- how the new function ends, by whether there is an enum of exits and which variant its end has
abbrev pub way_of : Bool → Option ℕ → Way
way_of false o = bare
way_of true None = no_way
way_of true (Some v) = as_variant v

-- and its jumps, by whether the run's function gives the unit
abbrev pub jumps_with : Bool → Asked → List Bool → Plan → Bool → Jumping
jumps_with false A muts k unit = inner_jumps
jumps_with true A muts k unit = jumps_of A muts k unit

-- what is made is new, and apart
pub record NewThere (k : Plan) (R : Renaming) (received redeclared : List ℕ) : Type 0 where
  pub received_new : AreNew R received
  pub redeclared_new : AreNew R redeclared
  pub made_apart : (y : ℕ) → In y redeclared → In y received → ⊥
  pub as_many : SameLength k.redeclared redeclared

-- `enum` says whether the call is matched
pub record MadeCall (T : Assigned) (A : Asked) (muts : List Bool) (k : Plan) (modes : List Mode) (again : Bool) (J : Jumping) (R : Renaming) (cold : List ℕ) (hows : List How) (g : ℕ) (enum unit : Bool) (y : Statements) : Type 0 where
  pub es : Exps
  pub e : Exp
  pub ss : Statements
  pub ds : Statements
  pub received : List ℕ
  pub redeclared : List ℕ
  pub is : y ≡ append ss ds
  pub arguments : ArgumentsFor T again R cold k.params modes es hows
  pub called : Called T A muts k J R g es e (jumps_with enum A muts k unit) (way_of enum (variant_for k next))
  pub hands : HandsOver T A muts k R e (k.outs next) received ss
  pub declares : DeclaresAll redeclared ds
  pub made : NewThere k R received redeclared

-- the same of a run with its block's tail
pub record MadeTail (T : Assigned) (A : Asked) (muts : List Bool) (k : Plan) (modes : List Mode) (again : Bool) (J : Jumping) (R : Renaming) (cold : List ℕ) (hows : List How) (g : ℕ) (enum unit has : Bool) (y : Statements) (o : Else) : Type 0 where
  pub es : Exps
  pub e : Exp
  pub ss : Statements
  pub ds : Statements
  pub received : List ℕ
  pub redeclared : List ℕ
  pub is : y ≡ append ss ds
  pub arguments : ArgumentsFor T again R cold k.params modes es hows
  pub called : TailCalled T A muts k J R g es e has (jumps_with enum A muts k unit) (way_of enum (variant_for k next))
  pub hands : HandsTail T A muts k R e has (k.outs next) received redeclared ss ds o
  pub made : NewThere k R received redeclared
