-- What private functions add to the sets: where variables and temporaries are live.
use Rattle.std.specs.Prelude.{◌≡◌, ◌↔◌, ◌⊎◌, ℕ, ◌*◌, ◌<◌, Bool, true, List, length, Some, slice_get}
use Rattle.rx_core.specs.declared.types.Ty.{Ty}
use Rattle.rx_graph_bits.specs.Rows.{holds, Bounded}
use Rattle.rx_graph.specs.Tables.{Regular}
use Rattle.rx_graph_closure.specs.Filling.{Added}
use Rattle.rx_facts_tables.specs.declared.table.LiveTable.{LiveTable}
use Rattle.rx_facts_tables.specs.LiveTables.{Lives}
use Rattle.rx_graph_cycles.specs.Reaches.{IsIn}
use Rattle.rx_typed.specs.Regions.{region-Ty, lifetimes_in}
use Rattle.rx_typed.specs.Tree.{Root, variable, temporary, Temporary}
use Rattle.rx_lower_walks.specs.Graph.{Site}
use Rattle.rx_facts_tables.specs.Live.{IsLive}
use Rattle.rx_lower_lifetimes.specs.Lowered.{Lifetimes}
use Rattle.rx_region.specs.Constraints.{root_type}

-- at the first sites where a variable or temporary is live
pub record LiveBefore (g : List Site) (r : Root) (n i : ℕ) : Type 0 where
  pub before : i < n
  pub live : IsLive g r i

-- where it is live, of each of these lifetimes, and of each in its type
pub record LivedAmong (ls : List ℕ) (g : List Site) (r : Root) (l i : ℕ) : Type 0 where
  pub live : IsLive g r i
  pub among : IsIn ls l

abbrev pub Lived : Lifetimes → List Site → Root → ℕ → ℕ → Type 0
Lived L g r l i = LivedAmong (lifetimes_in (root_type L r)) g r l i

-- of the first variables, and of the first temporaries
pub record VariableLived (L : Lifetimes) (g : List Site) (n l i : ℕ) : Type 0 where
  pub number : ℕ
  pub below : number < n
  pub lived : Lived L g (variable number) l i

pub record TemporaryLived (L : Lifetimes) (g : List Site) (ts : List Temporary) (n l i : ℕ) : Type 0 where
  pub place : ℕ
  pub below : place < n
  pub which : Temporary
  pub stands : slice_get ts place ≡ Some which
  pub lived : Lived L g (temporary which) l i

-- what is added to a table, by the sites of the function whose liveness the table of liveness tells
pub record Grows (t : LiveTable) (sites w : ℕ) (P : List Site → ℕ → ℕ → Type 0) (old new : List (List ℕ)) : Type 0 where
  pub regular : Regular (length old) w new
  pub added : (g : List Site) → Lives g t → sites ≡ length g → Added w old new (P g)

-- a number is added to a row, or not
pub record InsertedIf (wanted : Bool) (n : ℕ) (old new : List ℕ) : Type 0 where
  pub width : length new ≡ length old
  pub bounded : Bounded old → Bounded new
  pub holds : (i : ℕ) → i < 64 * length old → (holds new i ≡ true) ↔ ((holds old i ≡ true) ⊎ ((wanted ≡ true) × (i ≡ n)))

-- each lifetime in these types is below a number
abbrev pub AllBelow : List Ty → ℕ → Type 0
AllBelow ts n = (j : ℕ) (t : Ty) → slice_get ts j ≡ Some t → (l : ℕ) → IsIn (lifetimes_in (region-Ty t)) l → l < n
