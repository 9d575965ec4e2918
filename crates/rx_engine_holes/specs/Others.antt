-- What is asked of a part in which other demands stand for those of a run, so that it is typed as the text is, whatever becomes of the run (Rust
-- Reference, "Type inference", "Integer literal expressions").
use Rattle.std.specs.Prelude.{ℕ, List}
use Rattle.rx_typeck_solver.specs.declared.facts.Demand.{Demand}
use Rattle.rx_typeck_solver.specs.declared.facts.Fact.TheVariants as fact
use Rattle.rx_typeck_solver.specs.declared.facts.Kinds.{Kinds}
use Rattle.rx_typeck_solver.specs.declared.facts.Subject.{Subject}
use Rattle.rx_typeck_solver.specs.Facts.{KnownItems, MeetsEach, Assignment}
use Rattle.rx_typeck_solver.specs.Valid.{literals_of, IsIn}
use Rattle.rx_engine_blocks.specs.Renumbering.{Renumbering}
use Rattle.rx_engine_blocks.specs.Along.{composed, none_viewed, PartialInverse}
use Rattle.rx_engine_blocks.specs.Blocks.{Fixes}
use Rattle.rx_engine_blocks.specs.Gets.{IsAsked}
use Rattle.rx_engine_holes.specs.Named.{NamedIn}

-- wherever nodes and variables are
abbrev pub Anywhere : Subject → Type 0
Anywhere x = Unit {0}

abbrev pub AskForNoInteger : List Demand → Type 0
AskForNoInteger ds = (n : ℕ) → (IsIn n (literals_of ds) → ⊥) × ((s : Kinds) → IsAsked (fact.Integer n s) ds → ⊥)

-- `asked` is what the run asks, `given` what others ask for it
pub record OthersFit (q : Renumbering) (w : PartialInverse q) (E : KnownItems) (A W : Assignment) (asked given part : List Demand) : Type 0 where
  -- what the run names is fixed in each assignment of the part
  pub fixes : Fixes q none_viewed (NamedIn asked) E A part
  -- by the text's types of what comes from it, and these at the rest
  pub met : MeetsEach E (composed q w none_viewed A W) given
  pub no_integer : AskForNoInteger given
