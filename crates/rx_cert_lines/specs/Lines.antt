-- The lines of a certificate: which items stand behind each head, and the bytes of a line without its line feed.
use Rattle.std.specs.Prelude.{◌≡◌, ℕ, ◌+◌, Bool, true, false, ◌&&◌, ◌==◌, nat_lt, nat_le, List, [], ◌∷◌, ◌++◌, length, codes}
use Rattle.std.specs.List.{list_all}
use Rattle.rx_cert_lines.specs.declared.item.Item.{Item}
use Rattle.rx_cert_lines.specs.declared.item.Item.TheVariants.{Number, Range, End}
use Rattle.rx_cert_lines.specs.declared.line.Head.{Head}
use Rattle.rx_cert_lines.specs.declared.line.Head.TheVariants.{Function, Region, Loan, Text}
use Rattle.rx_cert_lines.specs.declared.line.Line.{Line}
use Rattle.rx_cert_lines.specs.Items.{AllFit, items_text}

abbrev pub is_number : Item → Bool
is_number (Number n) = true
is_number (Range a b) = false
is_number (End n) = false

abbrev pub is_range : Item → Bool
is_range (Number n) = false
is_range (Range a b) = true
is_range (End n) = false

-- ---- a set of points: ranges that ascend and don't touch, then end points that ascend

-- a range holds a site
abbrev pub is_part : Item → Bool
is_part (Number n) = false
is_part (Range a b) = nat_le a b
is_part (End n) = true

-- what may stand directly behind a range, by its last site, and behind an end point
abbrev pub after_range : ℕ → Item → Bool
after_range last (Number n) = false
after_range last (Range a b) = nat_lt (last + 1) a
after_range last (End n) = true

abbrev pub after_end : ℕ → Item → Bool
after_end last (Number n) = false
after_end last (Range a b) = false
after_end last (End n) = nat_lt last n

abbrev pub precedes : Item → Item → Bool
precedes (Number n) next = false
precedes (Range a b) next = after_range b next
precedes (End n) next = after_end n next

abbrev pub precedes_first : Item → List Item → Bool
precedes_first i [] = true
precedes_first i (j ∷ js) = precedes i j

abbrev pub is_set : List Item → Bool
is_set [] = true
is_set (i ∷ is) = is_part i && precedes_first i is && is_set is

-- ---- the items of each head

-- item number, sites and lifetimes
abbrev pub is_function : List Item → Bool
is_function is = (length is == 3) && list_all is_number is

-- the site of a borrow, and sites
abbrev pub is_loan : List Item → Bool
is_loan [] = false
is_loan (i ∷ is) = is_number i && list_all is_range is && is_set is

abbrev pub is_empty : List Item → Bool
is_empty [] = true
is_empty (i ∷ is) = false

abbrev pub is_form : Head → List Item → Bool
is_form Function is = is_function is
is_form Region is = is_set is
is_form Loan is = is_loan is
is_form Text is = is_empty is

pub record IsLine (l : Line) : Type 0 where
  pub form : is_form l.head l.items ≡ true
  pub fit : AllFit l.items

-- ---- bytes

abbrev pub head_text : Head → List ℕ
head_text Function = codes "function"
head_text Region = codes "r"
head_text Loan = codes "l"
head_text Text = codes "text"

abbrev pub line_text : Line → List ℕ
line_text l = head_text l.head ++ items_text l.items

-- no line has these bytes
abbrev pub NoLine : List ℕ → Type 0
NoLine bytes = (l : Line) → IsLine l → line_text l ≡ bytes → ⊥
