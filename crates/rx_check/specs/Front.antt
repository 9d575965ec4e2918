-- What the passes know of a program: its types, the item of `main`, the graphs of its functions, what is live in them, and what may
-- be set and unset; where it is accepted, the least sets of points of their lifetimes, and where loans are in scope.
use Rattle.std.specs.Prelude.{◌≡◌, ℕ, List}
use Rattle.rx_tree.specs.Plain.{ProgramTree}
use Rattle.rx_tree.specs.Size.{IsNumbered}
use Rattle.rx_meaning.specs.Programs.{main_in}
use Rattle.rx_typeck_typed.specs.declared.typed.Typed.{Typed}
use Rattle.rx_facts.specs.declared.lowering.Lowered.{Lowered}
use Rattle.rx_facts.specs.declared.finding.ProgramFacts.{ProgramFacts}
use Rattle.rx_facts.specs.Answers.{AreGraphs, AreFacts}
use Rattle.rx_check.specs.declared.regions.FunctionRegions.{FunctionRegions}
use Rattle.rx_check.specs.declared.loans.FunctionLoans.{FunctionLoans}
use Rattle.rx_check.specs.Answers.{AllBorrow, AreRegions, AreLoans}
use Rattle.rx_check.specs.Passes.{IsFront}

pub record Front : Type 0 where
  pub typed : Typed
  -- the number of the item `main`
  pub main : ℕ
  pub graphs : List Lowered
  pub facts : ProgramFacts

-- of this program, whose items can be numbered in 32 bits, and which the passes up to initialisation accept
pub record IsFrontOf (p : ProgramTree) (x : Front) : Type 0 where
  pub numbered : IsNumbered p
  pub accepted : IsFront p x.typed
  pub main : x.main ≡ main_in p 0
  pub graphs : AreGraphs x.typed x.graphs
  pub facts : AreFacts x.typed x.facts

-- of some program
abbrev pub IsFronted : Front → Type 0
IsFronted x = (p : ProgramTree) × IsFrontOf p x

-- ---- of a program that is accepted

pub record Judged : Type 0 where
  pub front : Front
  pub regions : List FunctionRegions
  pub loans : List FunctionLoans

-- of this program, which is accepted; of some such program
pub record IsCheckedOf (p : ProgramTree) (x : Judged) : Type 0 where
  pub front : IsFrontOf p x.front
  pub borrows : AllBorrow x.front.typed
  pub regions : AreRegions x.front.typed x.regions
  pub loans : AreLoans x.front.typed x.loans

abbrev pub IsChecked : Judged → Type 0
IsChecked x = (p : ProgramTree) × IsCheckedOf p x
