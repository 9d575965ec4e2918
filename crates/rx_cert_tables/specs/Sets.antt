-- The sites and end points that a line's items hold, and when a row of bits and items are the same set: bit p of a row is site p, and behind the
-- sites stand the end points.
use Rattle.std.specs.Prelude.{◌≡◌, ℕ, zero, suc, ◌+◌, ◌<◌, Bool, true, false, ◌&&◌, ◌||◌, ◌==◌, nat_lt, nat_le, List, [], ◌∷◌, length, get_or}
use Rattle.rx_graph_bits.specs.Rows.{holds, words}
use Rattle.rx_cert_lines.specs.declared.item.Item.{Item}
use Rattle.rx_cert_lines.specs.declared.item.Item.TheVariants.{Number, Range, End}
use Rattle.rx_cert_lines.specs.declared.line.Line.{Line}
use Rattle.rx_cert_lines.specs.Items.{AllFit}
use Rattle.rx_cert_lines.specs.Lines.{is_set}

abbrev pub is_site : Item → ℕ → Bool
is_site (Number n) p = false
is_site (Range a b) p = nat_le a p && nat_le p b
is_site (End n) p = false

abbrev pub is_end : Item → ℕ → Bool
is_end (Number n) k = false
is_end (Range a b) k = false
is_end (End n) k = k == n

abbrev pub has_site : List Item → ℕ → Bool
has_site [] p = false
has_site (i ∷ is) p = is_site i p || has_site is p

abbrev pub has_end : List Item → ℕ → Bool
has_end [] k = false
has_end (i ∷ is) k = is_end i k || has_end is k

-- a row that holds what the items hold, of so many sites and end points
pub record IsRowOf (sites own : ℕ) (is : List Item) (row : List ℕ) : Type 0 where
  pub width : length row ≡ words (sites + own)
  pub site : (p : ℕ) → p < sites → holds row p ≡ has_site is p
  pub end : (k : ℕ) → k < own → holds row (sites + k) ≡ has_end is k

-- the items of a line at a place; none where there is no line
abbrev pub items_at : List Line → ℕ → List Item
items_at [] n = []
items_at (l ∷ ls) zero = l.items
items_at (l ∷ ls) (suc n) = items_at ls n

-- the rows of lines, one a line
pub record AreRows (sites own : ℕ) (ls : List Line) (rows : List (List ℕ)) : Type 0 where
  pub count : length rows ≡ length ls
  pub wide : (l : ℕ) → l < length rows → length (get_or rows l []) ≡ words (sites + own)
  pub sites_are : (l p : ℕ) → p < sites → holds (get_or rows l []) p ≡ has_site (items_at ls l) p
  pub ends_are : (l k : ℕ) → k < own → holds (get_or rows l []) (sites + k) ≡ has_end (items_at ls l) k

-- the items of a line that hold what the row holds, and nothing else
pub record IsSetOf (sites own : ℕ) (row : List ℕ) (is : List Item) : Type 0 where
  pub set : is_set is ≡ true
  pub fit : AllFit is
  pub site : (p : ℕ) → has_site is p ≡ (nat_lt p sites && holds row p)
  pub end : (k : ℕ) → has_end is k ≡ (nat_lt k own && holds row (sites + k))
