-- The lines of a function that say these sets of points and these scopes of loans, and nothing else.
use Rattle.std.specs.Prelude.{◌≡◌, ℕ, ◌<◌, Bool, true, List, ◌∷◌, ◌++◌, length, slice_get, Some}
use Rattle.rx_region.specs.Solutions.{Sets, site, end}
use Rattle.rx_cert_lines.specs.declared.item.Item.{Item}
use Rattle.rx_cert_lines.specs.declared.item.Item.TheVariants.{Number}
use Rattle.rx_cert_lines.specs.declared.line.Head.TheVariants.{Region, Loan}
use Rattle.rx_cert_lines.specs.declared.line.Line.{Line}
use Rattle.rx_cert_lines.specs.Items as items
use Rattle.rx_cert_lines.specs.Lines.{is_set}
use Rattle.rx_cert_tables.specs.declared.shape.Shape.{Shape}
use Rattle.rx_cert_tables.specs.Sets.{has_site, has_end}
use Rattle.rx_cert_tables.specs.Fitting as fitting
use Rattle.rx_cert_tables.specs.Written.{function_line}

-- the line of a lifetime: its sites and end points
pub record IsSetLine (f : Shape) (R : Sets) (n : ℕ) (l : Line) : Type 0 where
  pub head : l.head ≡ Region
  pub set : is_set l.items ≡ true
  pub fit : items.AllFit l.items
  pub sites_are : (p : ℕ) → p < f.sites → has_site l.items p ≡ R n (site p)
  pub ends_are : (k : ℕ) → k < f.own → has_end l.items k ≡ R n (end k)

-- the items behind a loan's borrow: the sites at which it is in scope
pub record AreScopeItems (f : Shape) (S : ℕ → ℕ → Bool) (n : ℕ) (is : List Item) : Type 0 where
  pub set : is_set is ≡ true
  pub fit : items.AllFit is
  pub sites_are : (p : ℕ) → p < f.sites → has_site is p ≡ S n p

pub record IsScopeLine (f : Shape) (S : ℕ → ℕ → Bool) (n borrow : ℕ) (l : Line) : Type 0 where
  pub head : l.head ≡ Loan
  pub parts : (is : List Item) × (l.items ≡ Number borrow ∷ is) × AreScopeItems f S n is

-- a function's lines
pub record ArePushed (f : Shape) (R : Sets) (S : ℕ → ℕ → Bool) (ls : List Line) : Type 0 where
  pub fits : fitting.AllFit f ls
  pub sets : List Line
  pub scopes : List Line
  pub lines : ls ≡ function_line f ∷ (sets ++ scopes)
  pub set_count : length sets ≡ f.lifetimes
  pub are_sets : (n : ℕ) (l : Line) → slice_get sets n ≡ Some l → IsSetLine f R n l
  pub scope_count : length scopes ≡ length f.borrows
  pub are_scopes : (n b : ℕ) (l : Line) → slice_get scopes n ≡ Some l → slice_get f.borrows n ≡ Some b → IsScopeLine f S n b l
