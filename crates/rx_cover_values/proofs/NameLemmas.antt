-- Items of a program by their numbers.
use Rattle.std.proofs.Common.{◌≡◌, ℕ, List, map, slice_get, option_map}
use Rattle.std.proofs.lemmas.Option.{slice_get-map}
use Rattle.rx_tree.specs.declared.tree.Item.{Item}
use Rattle.rx_tree.specs.PlainOf.{plain-Item}

pub item_at : (is : List Item) (i : ℕ) → slice_get (map plain-Item is) i ≡ option_map plain-Item (slice_get is i)
item_at is i = slice_get-map plain-Item is i
