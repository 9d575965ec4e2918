-- The tables of what is live where a run is left. (RFC 2094, "Liveness".)
use Rattle.std.specs.Prelude.{◌≡◌, ℕ, List}
use Rattle.rx_lower_walks.specs.Graph.{Site}
use Rattle.rx_typed.specs.Tree.{Root}
use Rattle.rx_facts_tables.specs.Live.{IsLive}
use Rattle.rx_facts_tables.specs.LiveTables.{Lives, IsIndex}
use Rattle.rx_exits_plan.specs.Asked.{Asked}
use Rattle.rx_exits.specs.Marks.{marks_from}
use Rattle.rx_exits.specs.Facts.{SomeMarked, NoneMarked}
use Rattle.rx_exits.specs.Points.{marked_sites}
use Rattle.rx_exits.specs.declared.marks.MarkSite.{MarkSite}
use Rattle.rx_exits.specs.declared.run_living.RunLiving.{RunLiving}

-- as the reader asks
abbrev pub IsAsked : RunLiving → Type 0
IsAsked l = IsIndex l.live.index

pub record AreLiving (g : List Site) (l : RunLiving) : Type 0 where
  pub marks : l.marks ≡ marks_from 0 g
  pub lives : Lives g l.live

-- of the marked function in which these variables are used where the run is entered
abbrev pub IsLiving : Asked → List ℕ → RunLiving → Type 0
IsLiving A params l = AreLiving (marked_sites A params) l

-- ---- what private functions do

abbrev pub SomeLive : List Site → Root → List MarkSite → ℕ → Type 0
SomeLive g r ms n = SomeMarked ms n (λ i. IsLive g r i)

abbrev pub NoneLive : List Site → Root → List MarkSite → ℕ → Type 0
NoneLive g r ms n = NoneMarked ms n (λ i. IsLive g r i → ⊥)
