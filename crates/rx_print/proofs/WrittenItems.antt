-- Items are written one after the other: what is left of a list is the next element and what is left behind it.
use Rattle.std.proofs.Common.{◌≡◌, ℕ, get_or, ◌+◌, ◌<◌, Bool, true, false, List, [], ◌∷◌, ◌++◌, length, drop, map, refl}
use Rattle.rx_tree.specs.declared.tree.Item.{Item}
use Rattle.rx_tree.specs.Plain.{ItemTree, ProgramTree}
use Rattle.rx_tree.specs.PlainOf.{plain-Item}
use Rattle.rx_print_spelling.specs.Pieces.{Piece, flat}
use Rattle.rx_print_spelling.specs.Items.{after_item, program_pieces}
use Rattle.rx_print_parts.proofs.WrittenLists.{all_step}
use Rattle.rx_print.specs.ItemParts.{next_item}

abbrev pub left_of_items : Bool → ProgramTree → List Piece
left_of_items false is = program_pieces is
left_of_items true is = after_item is

items_next : (b : Bool) (i : ItemTree) (is : ProgramTree) → left_of_items b (i ∷ is) ≡ next_item b i ++ left_of_items true is
items_next false i is = refl
items_next true i is = refl

pub items_step : (b : Bool) (l : List Item) (i : ℕ) (x : Item) (o p all : List ℕ) → i < length l → x ≡ get_or l i x → p ≡ o ++ flat (next_item b (plain-Item x))
    → o ++ flat (left_of_items b (map plain-Item (drop i l))) ≡ all → p ++ flat (left_of_items true (map plain-Item (drop (i + 1) l))) ≡ all
items_step b =
    all_step (λ l. left_of_items b (map plain-Item l)) (λ l. left_of_items true (map plain-Item l)) (λ x. next_item b (plain-Item x)) (λ x xs. items_next b (plain-Item x) (map plain-Item xs))
