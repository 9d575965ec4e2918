-- What private functions do: what is added to a row, and the runs of what a row holds.
use Rattle.std.specs.Prelude.{◌≡◌, ℕ, ◌+◌, ◌*◌, ◌<◌, ◌≤◌, true, false, ◌&&◌, ◌||◌, nat_lt, nat_le, List, [], ◌∷◌, length}
use Rattle.rx_graph_bits.specs.Rows.{holds}
use Rattle.rx_cert_lines.specs.declared.item.Item.{Item}
use Rattle.rx_cert_lines.specs.declared.line.Line.{Line}
use Rattle.rx_cert_lines.specs.Items.{AllFit}
use Rattle.rx_cert_lines.specs.Lines.{is_set}
use Rattle.rx_cert_tables.specs.Sets.{is_site, is_end, has_site, has_end, IsRowOf}

-- one row a line
abbrev pub AreRowsOf : ℕ → ℕ → List Line → List (List ℕ) → Type 0
AreRowsOf sites own [] [] = Unit {0}
AreRowsOf sites own [] (r ∷ rs) = ⊥
AreRowsOf sites own (l ∷ ls) [] = ⊥
AreRowsOf sites own (l ∷ ls) (r ∷ rs) = IsRowOf sites own l.items r × AreRowsOf sites own ls rs

-- the numbers from one on, below another, are added
pub record Ranged (old new : List ℕ) (first end : ℕ) : Type 0 where
  pub width : length new ≡ length old
  pub holds_too : (i : ℕ) → i < 64 * length old → holds new i ≡ ((nat_le first i && nat_lt i end) || holds old i)

-- what an item holds is added
pub record Added (sites own : ℕ) (item : Item) (old new : List ℕ) : Type 0 where
  pub width : length new ≡ length old
  pub site : (p : ℕ) → p < sites → holds new p ≡ (is_site item p || holds old p)
  pub end : (k : ℕ) → k < own → holds new (sites + k) ≡ (is_end item k || holds old (sites + k))

-- the run from a held site on: all its sites are held, and the one behind it is not
pub record IsRun (row : List ℕ) (first end sites : ℕ) : Type 0 where
  pub after : first < end
  pub within : end ≤ sites
  pub held : (p : ℕ) → first ≤ p → p < end → holds row p ≡ true
  pub stops : end < sites → holds row end ≡ false

-- the runs of the sites that a row holds
pub record SitesOf (row : List ℕ) (sites : ℕ) (is : List Item) : Type 0 where
  pub set : is_set is ≡ true
  pub fit : AllFit is
  pub site : (p : ℕ) → has_site is p ≡ (nat_lt p sites && holds row p)
  pub end : (k : ℕ) → has_end is k ≡ false
