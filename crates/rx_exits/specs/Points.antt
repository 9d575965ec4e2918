-- What holds where some walk comes to a point of a run. (Rust Reference, "Variables"; "Moved and copied types".)
use Rattle.std.specs.Prelude.{◌≡◌, ◌↔◌, ℕ, ◌<◌, true, false, List, [], length}
use Rattle.rx_typed.specs.Tree.{own}
use Rattle.rx_lower_walks.specs.Actions.{Action}
use Rattle.rx_lower_walks.specs.Graph.{Site}
use Rattle.rx_lower_walks.specs.Pieces.{graph}
use Rattle.rx_graph.specs.Tables.{at}
use Rattle.rx_facts_tables.specs.Along.{Arrives}
use Rattle.rx_facts_tables.specs.Places.{Frame, is_part}
use Rattle.rx_facts_tables.specs.Layouts.{plain-Frame, IsSized, IsLayout}
use Rattle.rx_facts_tables.specs.Setting.{is_set, AllSet, SomeSet, SomeUnset}
use Rattle.rx_facts_tables.specs.Wholes.{stands}
use Rattle.rx_exits_plan.specs.Points.{Point, enters}
use Rattle.rx_exits_plan.specs.Marked.{marked}
use Rattle.rx_exits_plan.specs.Asked.{Asked, ComesTo}
use Rattle.rx_exits.specs.Marks.{marks_from}
use Rattle.rx_exits.specs.Facts.{WritesBelow, SomeThere}
use Rattle.rx_exits.specs.declared.run_points.RunPoints.{RunPoints}

-- some part of a variable is set, or unset, on some walk to a point
abbrev pub MayBeSet : Asked → Point → ℕ → Type 0
MayBeSet A q x = (w : List Action) × ComesTo A q w × SomeSet A.frame w (own x)

abbrev pub MayBeUnset : Asked → Point → ℕ → Type 0
MayBeUnset A q x = (w : List Action) × ComesTo A q w × SomeUnset A.frame w (own x)

-- on some walk that enters the run a variable is there as a whole; all of it is set
abbrev pub MayStand : Asked → ℕ → Type 0
MayStand A x = (w : List Action) × ComesTo A enters w × (stands w x [] ≡ true)

abbrev pub MayBeWhole : Asked → ℕ → Type 0
MayBeWhole A x = (w : List Action) × ComesTo A enters w × AllSet A.frame w (own x)

-- some part of it is set on one walk that enters the run and unset on another
pub record IsMixed (A : Asked) (x : ℕ) : Type 0 where
  pub part : ℕ
  pub is_one : is_part A.frame (own x) part ≡ true
  pub set : (w : List Action) × ComesTo A enters w × (is_set A.frame w part ≡ true)
  pub unset : (w : List Action) × ComesTo A enters w × (is_set A.frame w part ≡ false)

-- ---- the tables

-- the sites of the marked function in which these variables are used where the run is entered
abbrev pub marked_sites : Asked → List ℕ → List Site
marked_sites A xs = graph (marked A.run A.home.around.loops xs A.function)

-- the layout is that of the variables, as the readers ask
pub record IsReady (p : RunPoints) : Type 0 where
  pub sized : IsSized p.frame
  pub layout : IsLayout (plain-Frame p.frame) p.layout

-- the tables of sites: where the marks are; of each part and each site, whether the part is set on some walk that comes there, and whether
-- unset; of each variable, whether it stands
pub record ArePoints (F : Frame) (g : List Site) (p : RunPoints) : Type 0 where
  pub marks : p.marks ≡ marks_from 0 g
  pub set : (i n : ℕ) → i < length g → n < p.layout.total → (at p.facts.set.rows i n ≡ true) ↔ ((w : List Action) × Arrives g 0 w i × (is_set F w n ≡ true))
  pub unset : (i n : ℕ) → i < length g → n < p.layout.total → (at p.facts.unset.rows i n ≡ true) ↔ ((w : List Action) × Arrives g 0 w i × (is_set F w n ≡ false))
  pub standing : (i x : ℕ) → i < length g → x < p.variables → (at p.facts.standing.rows i x ≡ true) ↔ ((w : List Action) × Arrives g 0 w i × (stands w x [] ≡ true))
  pub written : WritesBelow g p.variables

pub record IsPoints (A : Asked) (p : RunPoints) : Type 0 where
  pub frame : A.frame ≡ plain-Frame p.frame
  pub tables : ArePoints A.frame (marked_sites A []) p

-- ---- what a private function does

-- a part is set at some mark of the entry, and unset at some
abbrev pub MixedPart : RunPoints → ℕ → Type 0
MixedPart p n = SomeThere p.facts.set.rows p.marks 0 n 1 × SomeThere p.facts.unset.rows p.marks 0 n 1
