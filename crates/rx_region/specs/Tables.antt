-- Tables of constraints and of sets: what each must hold by itself, and what they say of a function.
use Rattle.std.specs.Prelude.{◌≡◌, ◌↔◌, ◌⊎◌, ℕ, ◌+◌, ◌*◌, ◌<◌, true, List, length}
use Rattle.rx_core.specs.declared.types.Bound.{Bound}
use Rattle.rx_graph_bits.specs.Rows.{words}
use Rattle.rx_graph.specs.Tables.{at, Regular}
use Rattle.rx_graph_closure.specs.Closing.{Within}
use Rattle.rx_graph_cycles.specs.Reaches.{IsIn}
use Rattle.rx_typed.specs.Regions.{lifetimes_in}
use Rattle.rx_typed.specs.Tree.{Root}
use Rattle.rx_lower_walks.specs.Graph.{Site}
use Rattle.rx_lower_walks.specs.Text.{actions_of}
use Rattle.rx_facts_tables.specs.Live.{IsLive}
use Rattle.rx_region_outlives.specs.Implied.{HasPair}
use Rattle.rx_lower_lifetimes.specs.Lowered.{Lifetimes}
use Rattle.rx_facts_tables.specs.declared.table.LiveTable.{LiveTable}
use Rattle.rx_facts_tables.specs.LiveTables.{Lives}
use Rattle.rx_region.specs.Seeds.{VariableLived, TemporaryLived}
use Rattle.rx_region.specs.Constraints.{Context, root_type, imposed, variables_of}
use Rattle.rx_region.specs.Known as knowing
use Rattle.rx_region.specs.Solutions.{Point, site, end, Sets}
use Rattle.rx_region.specs.Points.{has_point}
use Rattle.rx_region.specs.declared.outlives.Outlives.{Outlives}
use Rattle.rx_region.specs.declared.regions.Regions.{Regions}
use Rattle.rx_region.specs.declared.known.Known.{Known}

-- what the set of a lifetime must have by itself (RFC 2094, "Liveness")
pub data Must (C : Context) (g : List Site) : ℕ → Point → Type 0 where
  whole : {l p : ℕ} → l < C.lifetimes.own → p < length g → Must C g l (site p)
  ends : {l : ℕ} → l < C.lifetimes.own → Must C g l (end l)
  live : {p l : ℕ} (r : Root) → IsLive g r p → IsIn (lifetimes_in (root_type C.lifetimes r)) l → Must C g l (site p)

-- constraints that say exactly what is asked
pub record Asks (C : Context) (g : List Site) (o : Outlives) : Type 0 where
  pub own : o.own ≡ C.lifetimes.own
  pub sites : o.sites ≡ length g
  pub pairs : o.pairs ≡ imposed C (actions_of g)
  pub must : (l : ℕ) (x : Point) → (has_point o.rows o.sites l x ≡ true) ↔ Must C g l x

-- sets that meet constraints: a lifetime of the function's own has all sites and its own end, each has the sites that it must
-- hold, and that of the longer of a pair contains that of the shorter
pub record MeetsConstraints (o : Outlives) (R : Sets) : Type 0 where
  pub whole : (l p : ℕ) → l < o.own → p < o.sites → R l (site p) ≡ true
  pub ends : (l : ℕ) → l < o.own → R l (end l) ≡ true
  pub must : (l p : ℕ) → has_point o.rows o.sites l (site p) ≡ true → R l (site p) ≡ true
  pub longer : (l k : ℕ) → HasPair o.pairs l k → (x : Point) → R k x ≡ true → R l x ≡ true

-- the sets of a table
abbrev pub sets_of : Regions → Sets
sets_of r l x = has_point r.rows r.sites l x

-- the pairs that are known, of the function's own lifetimes
pub record Knows (C : Context) (k : Known) : Type 0 where
  pub own : k.own ≡ C.lifetimes.own
  pub pairs : (x y : ℕ) → HasPair k.pairs x y ↔ ((x < C.lifetimes.own) × (y < C.lifetimes.own) × knowing.KnownToOutlive C x y)
  pub rows : (x y : ℕ) → x < C.lifetimes.own → y < C.lifetimes.own → (at k.rows x y ≡ true) ↔ knowing.KnownToOutlive C x y

-- the pairs of which the least sets of the longer have the end of the shorter, and that are not known
abbrev pub Misses : Context → List Site → List Bound → Type 0
Misses C g ps = (x y : ℕ) → HasPair ps x y ↔ knowing.Missing C g x y

-- sets in which the end of one of the function's own lifetimes is in that of another alone where this is known to outlive it
-- (RFC 2094, "Named lifetimes")
abbrev pub Keeps : Context → Sets → Type 0
Keeps C R = (x y : ℕ) → x < C.lifetimes.own → y < C.lifetimes.own → R x (end y) ≡ true → knowing.KnownToOutlive C x y

-- ---- what tables are like

-- rows of bits for all points, and one for each member of a pair
pub record IsOutlivesTable (o : Outlives) : Type 0 where
  pub regular : Regular (length o.rows) (words (o.sites + o.own)) o.rows
  pub within : Within o.pairs (length o.rows)

-- the second follows from the first along pairs
pub data Follows (pairs : List Bound) : ℕ → ℕ → Type 0 where
  itself : {l : ℕ} → Follows pairs l l
  by : {l k : ℕ} (m : ℕ) → HasPair pairs l m → Follows pairs m k → Follows pairs l k

-- where the variables and temporaries of a function are live
abbrev pub AllLived : Lifetimes → List Site → ℕ → ℕ → Type 0
AllLived L g l i = VariableLived L g (variables_of L) l i ⊎ TemporaryLived L g L.temporaries (length L.temporaries) l i

-- what sets must hold by themselves, in a table of so many rows
pub record Seeded (L : Lifetimes) (t : LiveTable) (count sites w : ℕ) (T : List (List ℕ)) : Type 0 where
  pub regular : Regular count w T
  pub exact : (g : List Site) → Lives g t → sites ≡ length g → (l i : ℕ) → l < count → i < 64 * w → (at T l i ≡ true)
      ↔ (((l < L.own) × (i < sites)) ⊎ (((l < L.own) × (i ≡ sites + l)) ⊎ AllLived L g l i))

-- rows that have what comes along pairs from each member itself
pub record ClosedFrom (pairs : List Bound) (n : ℕ) (T : List (List ℕ)) : Type 0 where
  pub exact : Within pairs n → (l k : ℕ) → l < n → k < n → (at T l k ≡ true) ↔ Follows pairs l k
