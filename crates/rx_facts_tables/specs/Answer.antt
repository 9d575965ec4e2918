-- What is answered of a function.
use Rattle.std.specs.Prelude.{◌≡◌, ◌↔◌, ℕ, ◌<◌, Bool, true, false, List, length, Result, Ok, Err}
use Rattle.rx_typed.specs.Tree.{Function}
use Rattle.rx_lower_walks.specs.Actions.{Action}
use Rattle.rx_lower_walks.specs.Graph.{Site}
use Rattle.rx_lower_walks.specs.Pieces.{graph}
use Rattle.rx_graph.specs.Tables.{at}
use Rattle.rx_facts_tables.specs.Along.{Arrives, HoldsAt}
use Rattle.rx_facts_tables.specs.Tracking.{Reached}
use Rattle.rx_facts_tables.specs.Places.{Frame}
use Rattle.rx_facts_tables.specs.Layouts.{plain-Frame, IsLayout}
use Rattle.rx_facts_tables.specs.Setting.{is_set}
use Rattle.rx_facts_tables.specs.Wholes.{placed}
use Rattle.rx_facts_tables.specs.Initialised.{Initialised, IsUnset, IsAgain}
use Rattle.rx_facts_tables.specs.Tables.{switches}
use Rattle.rx_facts_tables.specs.declared.facts.Kind.TheVariants as kind
use Rattle.rx_facts_tables.specs.declared.facts.Setup.{Setup}
use Rattle.rx_facts_tables.specs.declared.judging.Facts.{Facts}
use Rattle.rx_facts_tables.specs.declared.whole.InitTable.{InitTable}
use Rattle.rx_facts_tables.specs.declared.whole.InitFault.{InitFault}
use Rattle.rx_facts_tables.specs.declared.whole.InitFault.TheVariants as fault

-- the table has, of each part and each site, whether the part is set on some walk that comes there, and whether unset
pub record IsInitTable (F : Frame) (g : List Site) (t : InitTable) : Type 0 where
  pub layout : IsLayout F t.layout
  pub set : (p n : ℕ) → p < length g → n < t.layout.total → (at t.set.rows p n ≡ true) ↔ ((w : List Action) × Arrives g 0 w p × (is_set F w n ≡ true))
  pub unset : (p n : ℕ) → p < length g → n < t.layout.total → (at t.unset.rows p n ≡ true) ↔ ((w : List Action) × Arrives g 0 w p × (is_set F w n ≡ false))

-- of a function whose graph the sites are
abbrev pub Answers : Frame → List Bool → List Site → Result InitTable InitFault → Type 0
Answers F muts g (Ok t) = (f : Function) → g ≡ graph f → Initialised F muts f × IsInitTable F g t
Answers F muts g (Err (fault.Unset n q)) = (f : Function) → g ≡ graph f → IsUnset F f n (placed q.var q.steps)
Answers F muts g (Err (fault.Again n x)) = (f : Function) → g ≡ graph f → IsAgain muts f n x
Answers F muts g (Err fault.OutOfMemory) = Unit {0}

-- ---- what a private function does

-- tables of facts, by what is true at the start
pub record IsFacts (s : Setup) (g : List Site) (variables : ℕ) (t : Facts) : Type 0 where
  pub unset : Reached g → (p i : ℕ) → p < length g → i < s.layout.now.total → (at t.unset.rows p i ≡ true) ↔ HoldsAt g (switches (plain-Frame s.frame.now) s.watched.now kind.Unset i) true p
  pub set : Reached g → (p i : ℕ) → p < length g → i < s.layout.now.total → (at t.set.rows p i ≡ true) ↔ HoldsAt g (switches (plain-Frame s.frame.now) s.watched.now kind.Set i) false p
  pub lost : Reached g → (p i : ℕ) → p < length g → i < length s.watched.now → (at t.lost.rows p i ≡ true) ↔ HoldsAt g (switches (plain-Frame s.frame.now) s.watched.now kind.Lost i) true p
  pub assigned : Reached g → (p i : ℕ) → p < length g → i < variables → (at t.assigned.rows p i ≡ true) ↔ HoldsAt g (switches (plain-Frame s.frame.now) s.watched.now kind.Assigned i) false p
