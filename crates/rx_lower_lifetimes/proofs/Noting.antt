-- What is noted of lists of actions.
use Rattle.std.proofs.Common.{◌<◌, ◌+◌, length, drop, map, get_or, ◌≡◌, ℕ, List, [], ◌∷◌, ◌++◌, Bool, if◌then◌else◌, refl, sym, ap, ◌∙◌}
use Rattle.rx_lower_walks.specs.Actions.{Action}
use Rattle.std.proofs.lemmas.List.{at_drop_more}
use Rattle.rx_lower_walks.specs.declared.flow.Item as code
use Rattle.rx_lower_walks.specs.Flows.{Items, Item, doing, ending, may, trying, item_and, items_of}
use Rattle.rx_lower_walks.specs.PlainFlow.{plain-Item}
use Rattle.rx_lower_lifetimes.specs.Values.{KnownTypes}
use Rattle.rx_lower_lifetimes.specs.Held.{held_items, item_acts, goes_on, Notes, noted, all_noted}

pub noted_append : (K : KnownTypes) (N : Notes) (us bs : List Action) → all_noted K N (us ++ bs) ≡ all_noted K (all_noted K N us) bs
noted_append K N [] bs = refl
noted_append K N (a ∷ us) bs = noted_append K (noted K N a) us bs

-- a sequence: its first item, and the rest where that is reached
pub item_first : (i : Item) (l : Items) → held_items (item_and i l) ≡ item_acts i ++ (if goes_on i then held_items l else [])
item_first (doing f) l = refl
item_first (ending n x) l = refl
item_first may l = refl
item_first (trying f) l = refl

-- what is left of a sequence: an item, and what follows it
pub items_first : (is : List code.Item) (l : Items) (i : ℕ) (it : code.Item) → i < length is → it ≡ get_or is i it
    → items_of (map plain-Item (drop i is)) l ≡ item_and (plain-Item it) (items_of (map plain-Item (drop (i + 1) is)) l)
items_first is l i it less it_is =
    at_drop_more (λ (xs : List code.Item). items_of (map plain-Item xs) l) is i it less
    ∙ ap (λ y. items_of (map plain-Item (y ∷ drop (i + 1) is)) l) (sym it_is)

-- a turn of the loop over a sequence: what follows the item is reached, or not
pub notes_turn : (K : KnownTypes) (N M : Notes) (is : List code.Item) (l : Items) (i : ℕ) (it : code.Item) → i < length is → it ≡ get_or is i it
    → (goes : Bool) → goes_on (plain-Item it) ≡ goes → M ≡ all_noted K N (item_acts (plain-Item it))
    → all_noted K M (if goes then held_items (items_of (map plain-Item (drop (i + 1) is)) l) else []) ≡ all_noted K N (held_items (items_of (map plain-Item (drop i is)) l))
notes_turn K N M is l i it less it_is goes e noted_is =
    let R = items_of (map plain-Item (drop (i + 1) is)) l in
    let rest = if goes then held_items R else [] in
    let first : held_items (items_of (map plain-Item (drop i is)) l) ≡ item_acts (plain-Item it) ++ rest =
    ap held_items (items_first is l i it less it_is) ∙ item_first (plain-Item it) R ∙ ap (λ (b : Bool). item_acts (plain-Item it) ++ (if b then held_items R else [])) e in
    ap (λ P. all_noted K P rest) noted_is ∙ sym (noted_append K N (item_acts (plain-Item it)) rest) ∙ sym (ap (all_noted K N) first)
