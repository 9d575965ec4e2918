-- Which lines a function of a text asks for: its item number, sites and lifetimes; a set for each lifetime; a line for each borrow that makes a
-- loan, in order. And the first place at which lines aren't these.
use Rattle.std.specs.Prelude.{◌≡◌, ℕ, ◌+◌, ◌-◌, ◌<◌, Bool, true, false, ◌&&◌, ◌==◌, if◌then◌else◌, nat_lt, nat_le, List, [], ◌∷◌, length, slice_get, Some, get_or}
use Rattle.std.specs.List.{list_all}
use Rattle.rx_cert_lines.specs.declared.item.Item.{Item}
use Rattle.rx_cert_lines.specs.declared.item.Item.TheVariants.{Number, Range, End}
use Rattle.rx_cert_lines.specs.declared.line.Head.TheVariants.{Function, Region, Loan, Text}
use Rattle.rx_cert_lines.specs.declared.line.Line.{Line}
use Rattle.rx_cert_tables.specs.declared.shape.Shape.{Shape}

-- a set's items of so many sites and end points
abbrev pub is_within : ℕ → ℕ → Item → Bool
is_within sites own (Number n) = false
is_within sites own (Range a b) = nat_lt b sites
is_within sites own (End n) = nat_lt n own

-- this number
abbrev pub is_number_of : ℕ → Item → Bool
is_number_of n (Number m) = m == n
is_number_of n (Range a b) = false
is_number_of n (End m) = false

abbrev pub is_function_of : Shape → List Item → Bool
is_function_of f (i ∷ (j ∷ (k ∷ []))) = is_number_of f.item i && is_number_of f.sites j && is_number_of f.lifetimes k
is_function_of f _ = false

abbrev pub is_loan_of : ℕ → ℕ → List Item → Bool
is_loan_of borrow sites [] = false
is_loan_of borrow sites (i ∷ is) = is_number_of borrow i && list_all (is_within sites 0) is

-- the line at a place, of a function's lines
abbrev pub fits_function : Shape → Line → Bool
fits_function f l = elim l.head [ Function ↦ is_function_of f l.items | Region ↦ false | Loan ↦ false | Text ↦ false ]

abbrev pub fits_region : Shape → Line → Bool
fits_region f l = elim l.head [ Function ↦ false | Region ↦ list_all (is_within f.sites f.own) l.items | Loan ↦ false | Text ↦ false ]

abbrev pub fits_loan : Shape → ℕ → Line → Bool
fits_loan f borrow l = elim l.head [ Function ↦ false | Region ↦ false | Loan ↦ is_loan_of borrow f.sites l.items | Text ↦ false ]

abbrev pub fits_at : Shape → ℕ → Line → Bool
fits_at f n l = if n == 0 then fits_function f l else (if nat_le n f.lifetimes then fits_region f l else fits_loan f (get_or f.borrows (n - 1 - f.lifetimes) 0) l)

-- how many lines it has
abbrev pub count : Shape → ℕ
count f = 1 + f.lifetimes + length f.borrows

-- the line that stands at a place is as it has to be there
abbrev pub Fits : Shape → List Line → ℕ → Type 0
Fits f ls n = (l : Line) × (slice_get ls n ≡ Some l) × (fits_at f n l ≡ true)

-- the lines begin with those of the function
abbrev pub AllFit : Shape → List Line → Type 0
AllFit f ls = (n : ℕ) → n < count f → Fits f ls n

-- the first place at which a line is missing or isn't as it has to be
pub record IsMisfit (f : Shape) (ls : List Line) (n : ℕ) : Type 0 where
  pub within : n < count f
  pub before : (k : ℕ) → k < n → Fits f ls k
  pub here : Fits f ls n → ⊥
