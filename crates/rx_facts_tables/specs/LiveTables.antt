-- What private functions do: numbers of variables and temporaries, and tables of what lies ahead.
use Rattle.std.specs.Prelude.{◌≡◌, ◌↔◌, ℕ, ◌<◌, true, List, length, Option, Some, MatchOption, slice_get}
use Rattle.rx_lower_walks.specs.Actions.{Act}
use Rattle.rx_lower_walks.specs.Walks.{Among}
use Rattle.rx_lower_walks.specs.Graph.{Site, site_at}
use Rattle.rx_graph.specs.Facts.{has, targets, effect_of}
use Rattle.rx_graph.specs.Facts as facts
use Rattle.rx_graph.specs.Tables.{at}
use Rattle.rx_lower_walks.specs.declared.actions.Root.{Root}
use Rattle.rx_lower_walks.specs.PlainFlow.{plain-Root}
use Rattle.rx_facts_tables.specs.Live.{used, has_root, IsLive}
use Rattle.rx_facts_tables.specs.declared.index.Index.{Index}
use Rattle.rx_facts_tables.specs.declared.table.LiveTable.{LiveTable}

abbrev pub key : Root → ℕ
key (Root.Variable x) = x
key (Root.Temporary t) = t.node

-- this number is not this root's
abbrev pub IsNot : List Root → ℕ → Root → Type 0
IsNot roots k r = slice_get roots k ≡ Some r → ⊥

-- the number of a root, where it has one
abbrev pub IsNumberOf : List Root → Root → Option ℕ → Type 0
IsNumberOf roots r n = MatchOption n ((k : ℕ) → IsNot roots k r) (λ k. slice_get roots k ≡ Some r)

abbrev pub HasNumber : List Root → Root → Type 0
HasNumber roots r = (k : ℕ) × (slice_get roots k ≡ Some r)

abbrev pub HasNumbers : List Root → List Root → Type 0
HasNumbers roots rs = (r : Root) → Among r rs → HasNumber roots r

abbrev pub KeepsRoots : List Root → List Root → Type 0
KeepsRoots old new = (r : Root) → HasNumber old r → HasNumber new r

-- what an action uses has a number
abbrev pub HasUsed : List Root → Act → Type 0
HasUsed roots a = (r : Root) → has_root (used a) (plain-Root r) ≡ true → HasNumber roots r

abbrev pub HasAllUsed : List Root → List Site → Type 0
HasAllUsed roots g = (i : ℕ) (s : Site) → site_at g i ≡ Some s → HasUsed roots s.action.act

-- each number stands in its bucket; no root has two
pub record IsIndex (x : Index) : Type 0 where
  pub stands : (k : ℕ) (r : Root) → slice_get x.roots k ≡ Some r → has (targets x.buckets.items (key r)) k ≡ true
  pub once : (j k : ℕ) (r : Root) → slice_get x.roots j ≡ Some r → slice_get x.roots k ≡ Some r → j ≡ k

-- the table tells, of each root and each site, whether it is live there
pub record Lives (g : List Site) (t : LiveTable) : Type 0 where
  pub index : IsIndex t.index
  pub exact : (p k : ℕ) (r : Root) → p < length g → slice_get t.index.roots k ≡ Some r
      → (facts.behind (effect_of (slice_get t.effects.items p)) k (at t.ahead.rows p k) ≡ true) ↔ IsLive g (plain-Root r) p
  pub unused : (p : ℕ) (r : Root) → ((k : ℕ) → IsNot t.index.roots k r) → IsLive g (plain-Root r) p → ⊥
