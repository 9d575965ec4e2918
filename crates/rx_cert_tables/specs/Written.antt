-- The lines that are written of a function, from the rows of its lifetimes and of its loans.
use Rattle.std.specs.Prelude.{◌≡◌, ℕ, List, [], ◌∷◌, ◌++◌}
use Rattle.rx_cert_lines.specs.declared.item.Item.{Item}
use Rattle.rx_cert_lines.specs.declared.item.Item.TheVariants.{Number}
use Rattle.rx_cert_lines.specs.declared.line.Head.TheVariants.{Function, Region, Loan}
use Rattle.rx_cert_lines.specs.declared.line.Line.{Line}
use Rattle.rx_cert_tables.specs.declared.shape.Shape.{Shape}
use Rattle.rx_cert_tables.specs.Sets.{IsSetOf}

abbrev pub function_line : Shape → Line
function_line f = record { head = Function; items = Number f.item ∷ (Number f.sites ∷ (Number f.lifetimes ∷ [])) }

pub record IsRegionLine (f : Shape) (row : List ℕ) (l : Line) : Type 0 where
  pub head : l.head ≡ Region
  pub items : IsSetOf f.sites f.own row l.items

pub record IsLoanLine (f : Shape) (borrow : ℕ) (row : List ℕ) (l : Line) : Type 0 where
  pub head : l.head ≡ Loan
  pub items : (is : List Item) × (l.items ≡ Number borrow ∷ is) × IsSetOf f.sites 0 row is

abbrev pub AreRegionLines : Shape → List (List ℕ) → List Line → Type 0
AreRegionLines f [] [] = Unit {0}
AreRegionLines f [] (l ∷ ls) = ⊥
AreRegionLines f (r ∷ rs) [] = ⊥
AreRegionLines f (r ∷ rs) (l ∷ ls) = IsRegionLine f r l × AreRegionLines f rs ls

-- each borrow with its row
abbrev pub AreLoanLines : Shape → List ℕ → List (List ℕ) → List Line → Type 0
AreLoanLines f [] rs [] = Unit {0}
AreLoanLines f [] rs (l ∷ ls) = ⊥
AreLoanLines f (b ∷ bs) [] ls = ⊥
AreLoanLines f (b ∷ bs) (r ∷ rs) [] = ⊥
AreLoanLines f (b ∷ bs) (r ∷ rs) (l ∷ ls) = IsLoanLine f b r l × AreLoanLines f bs rs ls

-- a function's lines
pub record AreWritten (f : Shape) (regions loans : List (List ℕ)) (ls : List Line) : Type 0 where
  pub sets : List Line
  pub scopes : List Line
  pub lines : ls ≡ function_line f ∷ (sets ++ scopes)
  pub are_sets : AreRegionLines f regions sets
  pub are_scopes : AreLoanLines f f.borrows loans scopes
