-- What is noted of lists of actions, one behind the other.
use Rattle.std.proofs.Common.{◌≡◌, refl, sym, ap, ◌∙◌, ◌<◌, ◌+◌, ℕ, List, [], ◌∷◌, ◌++◌, length, drop, map, get_or}
use Rattle.std.proofs.lemmas.List.{at_drop_more}
use Rattle.rx_lower_walks.specs.Actions.{Action}
use Rattle.rx_lower_walks.specs.Walks.{actions_in}
use Rattle.rx_lower_walks.specs.declared.flow.Item as code
use Rattle.rx_lower_walks.specs.Flows.{Items, Item, doing, ending, may, trying, item_and, items_of, order_of_items}
use Rattle.rx_lower_walks.specs.PlainFlow.{plain-Item}
use Rattle.rx_modes_deeds.specs.declared.deeds.Deeds.{Deeds}
use Rattle.rx_modes_deeds.specs.Doings.{all_noted, noted, item_actions}

pub noted_append : (t : ℕ → Deeds) (l m : List Action) → all_noted t (l ++ m) ≡ all_noted (all_noted t l) m
noted_append t [] m = refl
noted_append t (a ∷ l) m = noted_append (noted t a) l m

append_none : (l : List Action) → l ++ [] ≡ l
append_none [] = refl
append_none (a ∷ l) = ap (λ m. a ∷ m) (append_none l)

-- a sequence: its first item, and what follows
item_first : (i : Item) (l : Items) → actions_in (order_of_items (item_and i l)) ≡ item_actions i ++ actions_in (order_of_items l)
item_first (doing f) l = refl
item_first (ending n x) l = refl
item_first may l = append_none (actions_in (order_of_items l))
item_first (trying f) l = refl

-- what is left of a sequence: an item, and what follows it
items_first : (is : List code.Item) (l : Items) (i : ℕ) (it : code.Item) → i < length is → it ≡ get_or is i it
    → items_of (map plain-Item (drop i is)) l ≡ item_and (plain-Item it) (items_of (map plain-Item (drop (i + 1) is)) l)
items_first is l i it less it_is =
    at_drop_more (λ (xs : List code.Item). items_of (map plain-Item xs) l) is i it less
    ∙ ap (λ y. items_of (map plain-Item (y ∷ drop (i + 1) is)) l) (sym it_is)

-- a turn of the loop over a sequence
pub noted_turn : (t u : ℕ → Deeds) (is : List code.Item) (l : Items) (i : ℕ) (it : code.Item) → i < length is → it ≡ get_or is i it
    → u ≡ all_noted t (item_actions (plain-Item it))
    → all_noted u (actions_in (order_of_items (items_of (map plain-Item (drop (i + 1) is)) l))) ≡ all_noted t (actions_in (order_of_items (items_of (map plain-Item (drop i is)) l)))
noted_turn t u is l i it less it_is noted_is =
    let R = items_of (map plain-Item (drop (i + 1) is)) l in
    ap (λ v. all_noted v (actions_in (order_of_items R))) noted_is ∙ sym (noted_append t (item_actions (plain-Item it)) (actions_in (order_of_items R)))
    ∙ sym (ap (all_noted t) (ap (λ q. actions_in (order_of_items q)) (items_first is l i it less it_is) ∙ item_first (plain-Item it) R))
