-- What private functions do that read bytes from the front: how many stand before a mark, and what stands first in what is left.
use Rattle.std.specs.Prelude.{◌≡◌, ℕ, suc, ◌+◌, ◌-◌, ◌*◌, Bool, true, false, ◌&&◌, ◌||◌, not, ◌==◌, if◌then◌else◌, List, [], ◌∷◌, ◌++◌, codes}
use Rattle.std.specs.Fmt.{decimal}
use Rattle.std.specs.Str.{all_ascii_digits}
use Rattle.rx_cert_lines.specs.declared.item.Item.{Item}
use Rattle.rx_cert_lines.specs.declared.item.Item.TheVariants.{Number, Range, End}
use Rattle.rx_cert_lines.specs.declared.line.Head.{Head}
use Rattle.rx_cert_lines.specs.declared.line.Line.{Line}
use Rattle.rx_cert_lines.specs.declared.certificate.Next.{Next}
use Rattle.rx_cert_lines.specs.declared.certificate.Next.TheVariants.{Broken, Last, More}
use Rattle.rx_cert_lines.specs.Items.{Small, Fits, AllFit, item_text, items_text}
use Rattle.rx_cert_lines.specs.Lines.{IsLine, head_text, line_text}
use Rattle.rx_cert_lines.specs.declared.certificate.Misread.{Misread as Refused}
use Rattle.rx_cert_lines.specs.declared.certificate.Misread.TheVariants.{Form, OutOfMemory}
use Rattle.rx_cert_lines.specs.Certificates.{IsFront, Free, Misread}

-- how many bytes stand before the first mark
abbrev pub before : ℕ → List ℕ → ℕ
before mark [] = 0
before mark (c ∷ cs) = if c == mark then 0 else suc (before mark cs)

-- a mark comes, or nothing
abbrev pub Ends : ℕ → List ℕ → Type 0
Ends mark [] = Unit {0}
Ends mark (c ∷ cs) = c ≡ mark

-- bytes are these, up to the first mark, and those from it on
pub record IsCut (mark : ℕ) (bytes front rest : List ℕ) : Type 0 where
  pub whole : front ++ rest ≡ bytes
  pub free : Free mark front
  pub ends : Ends mark rest

abbrev pub BeginsNot : ℕ → List ℕ → Type 0
BeginsNot mark bytes = (rest : List ℕ) → bytes ≡ mark ∷ rest → ⊥

-- the first mark stands between these
pub record IsSplit (mark : ℕ) (bytes front more : List ℕ) : Type 0 where
  pub whole : front ++ mark ∷ more ≡ bytes
  pub free : Free mark front

-- ---- numbers

-- the number that digits write, behind a number
abbrev pub value_on : ℕ → List ℕ → ℕ
value_on n [] = n
value_on n (c ∷ cs) = value_on (n * 10 + (c - 48)) cs

abbrev pub is_bare : List ℕ → Bool
is_bare [] = true
is_bare (c ∷ cs) = false

-- one digit, or digits without a leading zero
abbrev pub is_plain : List ℕ → Bool
is_plain [] = false
is_plain (c ∷ cs) = (is_bare cs || not (c == 48)) && all_ascii_digits (c ∷ cs)

abbrev pub NoNumber : List ℕ → Type 0
NoNumber w = (n : ℕ) → Small n → decimal n ≡ w → ⊥

-- ---- items

pub record IsItem (i : Item) (w : List ℕ) : Type 0 where
  pub fits : Fits i
  pub text : item_text i ≡ w

abbrev pub NoItem : List ℕ → Type 0
NoItem w = (i : Item) → IsItem i w → ⊥

abbrev pub is_end : Item → Bool
is_end (Number n) = false
is_end (Range a b) = false
is_end (End n) = true

-- a range is written so, of what stands before its dash and behind it
pub record IsRange (first last : List ℕ) (i : Item) : Type 0 where
  pub fits : Fits i
  pub text : item_text i ≡ first ++ 45 ∷ last

abbrev pub NoRange : List ℕ → List ℕ → Type 0
NoRange first last = (a b : ℕ) → Small a → Small b → decimal a ≡ first → decimal b ≡ last → ⊥

abbrev pub NoRangeOrNumber : List ℕ → Type 0
NoRangeOrNumber w = (i : Item) → is_end i ≡ false → IsItem i w → ⊥

-- an item after a space, and what is behind it
pub record IsNextItem (i : Item) (left rest : List ℕ) : Type 0 where
  pub fits : Fits i
  pub text : left ≡ 32 ∷ (item_text i ++ rest)
  pub ends : Ends 32 rest

abbrev pub NoNextItem : List ℕ → Type 0
NoNextItem left = (i : Item) (rest : List ℕ) → IsNextItem i left rest → ⊥

pub record AreItems (is : List Item) (w : List ℕ) : Type 0 where
  pub fit : AllFit is
  pub text : items_text is ≡ w

abbrev pub NoItems : List ℕ → Type 0
NoItems w = (is : List Item) → AreItems is w → ⊥

-- ---- lines

abbrev pub NoHead : List ℕ → Type 0
NoHead w = (h : Head) → head_text h ≡ w → ⊥

pub record IsNextLine (l : Line) (left rest : List ℕ) : Type 0 where
  pub front : IsFront l
  pub text : left ≡ line_text l ++ 10 ∷ rest

-- no line, ended by a line feed, stands first
abbrev pub NoNextLine : List ℕ → Type 0
NoNextLine left = (l : Line) (rest : List ℕ) → IsLine l → left ≡ line_text l ++ 10 ∷ rest → ⊥

-- what stands first, and what is behind it
abbrev pub IsNext : List ℕ → Next → Type 0
IsNext left Broken = NoNextLine left
IsNext left (Last text) = left ≡ codes "text" ++ 10 ∷ text.now
IsNext left (More l rest) = IsNextLine l left rest.now

-- ---- a whole certificate

abbrev pub MisreadAs : List ℕ → Refused → Type 0
MisreadAs bytes (Form line) = Misread bytes line
MisreadAs bytes OutOfMemory = Unit {0}
