-- What stands behind the head of a certificate's line, and its bytes: a number, a range `a-b` of sites, an end point `eN`. Numbers are decimal,
-- without leading zeros, and below 2^32, as all numbers of sites, lifetimes and items are.
use Rattle.std.specs.Prelude.{ℕ, ◌<◌, List, [], ◌∷◌, ◌++◌}
use Rattle.std.specs.Fmt.{decimal}
use Rattle.rx_cert_lines.specs.declared.item.Item.{Item}
use Rattle.rx_cert_lines.specs.declared.item.Item.TheVariants.{Number, Range, End}

abbrev pub Small : ℕ → Type 0
Small n = n < 4294967296

abbrev pub Fits : Item → Type 0
Fits (Number n) = Small n
Fits (Range a b) = Small a × Small b
Fits (End n) = Small n

abbrev pub AllFit : List Item → Type 0
AllFit [] = Unit {0}
AllFit (i ∷ is) = Fits i × AllFit is

-- `e` is 101, `-` is 45
abbrev pub item_text : Item → List ℕ
item_text (Number n) = decimal n
item_text (Range a b) = decimal a ++ 45 ∷ decimal b
item_text (End n) = 101 ∷ decimal n

-- each after a space
abbrev pub items_text : List Item → List ℕ
items_text [] = []
items_text (i ∷ is) = 32 ∷ (item_text i ++ items_text is)
