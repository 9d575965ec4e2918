-- What actions move, list by list; and flows of them.
use Rattle.std.proofs.Common.{◌≡◌, ℕ, ◌==◌, ◌+◌, ◌<◌, Bool, true, false, not, ◌&&◌, ◌||◌, List, [], ◌∷◌, ◌++◌, map, take, length, get_or, refl, sym, ap, ◌∙◌}
use Rattle.std.proofs.lemmas.List.{append_assoc, append-nil, map-append, take_more}
use Rattle.rx_typed.specs.Tree.{Root, variable, temporary}
use Rattle.rx_lower_walks.specs.Actions.{Act, Read, Declare, Dead, Write, Borrow, Test, Call, Build, Input, Print, Give, Action}
use Rattle.rx_lower_walks.specs.Walks.{actions_in}
use Rattle.rx_lower_walks.specs.Flows.{Flow, Item, doing, ending, may, trying, last, items_of, order_of, order_of_items}
use Rattle.rx_facts_tables.specs.Setting.{is_behind}
use Rattle.rx_facts_tables.specs.Wholes.{is_variable}
use Rattle.rx_exits_plan.specs.Occurrences.{has_number}
use Rattle.rx_exits_plan.specs.Plan.{moves, some_moves}
use Rattle.rx_exits.proofs.Listing.{number_turned}
use Rattle.rx_exits.specs.Moving.{of_root, moved_by, moved_in, moved_in_flow, moved_in_items, moved_in_item, moved_in_each}

pub moved_both : (l m : List Action) → moved_in (l ++ m) ≡ moved_in l ++ moved_in m
moved_both [] m = refl
moved_both (a ∷ l) m = ap (λ r. moved_by a.act ++ r) (moved_both l m) ∙ sym (append_assoc (moved_by a.act) (moved_in l) (moved_in m))

-- a sequence: its items, then its end
pub moved_sequence : (is : List Item) (f : Flow) → moved_in_items (items_of is (last f)) ≡ moved_in_each is ++ moved_in_flow f
moved_sequence [] f = refl
moved_sequence (doing g ∷ is) f =
    moved_both (actions_in (order_of g)) (actions_in (order_of_items (items_of is (last f)))) ∙ ap (λ r. moved_in_flow g ++ r) (moved_sequence is f)
    ∙ sym (append_assoc (moved_in_flow g) (moved_in_each is) (moved_in_flow f))
moved_sequence (ending n x ∷ is) f = moved_sequence is f
moved_sequence (may ∷ is) f =
    moved_both (actions_in (order_of_items (items_of is (last f)))) [] ∙ append-nil (moved_in_items (items_of is (last f))) ∙ moved_sequence is f
moved_sequence (trying g ∷ is) f =
    moved_both (actions_in (order_of g)) (actions_in (order_of_items (items_of is (last f)))) ∙ ap (λ r. moved_in_flow g ++ r) (moved_sequence is f)
    ∙ sym (append_assoc (moved_in_flow g) (moved_in_each is) (moved_in_flow f))

pub moved_by_one : (a : Action) → moved_in (a ∷ []) ≡ moved_by a.act
moved_by_one a = append-nil (moved_by a.act)

pub ruleset moving_rules = (moved_both, moved_sequence, moved_by_one, append_assoc, append-nil)

pub each_turn : {X : Type 0} (f : X → Item) (xs : List X) (i : ℕ) (x : X) (old new base : List ℕ) → i < length xs → x ≡ get_or xs i x
    → new ≡ old ++ moved_in_item (f x) → old ≡ base ++ moved_in_each (map f (take i xs)) → new ≡ base ++ moved_in_each (map f (take (i + 1) xs))
each_turn f xs i x old new base less is more done =
    more ∙ ap (λ l. l ++ moved_in_item (f x)) done ∙ append_assoc base (moved_in_each (map f (take i xs))) (moved_in_item (f x))
    ∙ ap (λ l. base ++ l) (sym (each_both (map f (take i xs)) (f x)) ∙ ap moved_in_each (sym (map-append f (take i xs) (x ∷ [])) ∙ ap (λ y. map f (take i xs ++ y ∷ [])) is ∙ ap (map f) (sym (take_more xs i x less))))
  where
    each_both : (is : List Item) (j : Item) → moved_in_each (is ++ j ∷ []) ≡ moved_in_each is ++ moved_in_item j
    each_both [] j = append-nil (moved_in_item j)
    each_both (i ∷ is) j = ap (λ l. moved_in_item i ++ l) (each_both is j) ∙ sym (append_assoc (moved_in_item i) (moved_in_each is) (moved_in_item j))

pub root_is : (r : Root) (x : ℕ) (b c : Bool) → r ≡ variable x → b ≡ c → of_root r b ≡ of_root (variable x) c
root_is r x b c root same = ap (λ q. of_root q b) root ∙ ap (of_root (variable x)) same

-- ---- whether a variable is moved

has_both : (x : ℕ) (l m : List ℕ) → has_number x (l ++ m) ≡ has_number x l || has_number x m
has_both x [] m = refl
has_both x (y ∷ l) m = ap (λ b. (x == y) || b) (has_both x l m) ∙ or_assoc (x == y) (has_number x l) (has_number x m)
  where
    or_assoc : (a b c : Bool) → (a || (b || c)) ≡ ((a || b) || c)
    or_assoc true b c = refl
    or_assoc false b c = refl

or_none : (b : Bool) → b ≡ (b || false)
or_none true = refl
or_none false = refl

and_false : (b : Bool) → (b && false) ≡ false
and_false true = refl
and_false false = refl

and_true : (b : Bool) → (b && true) ≡ b
and_true true = refl
and_true false = refl

root_moved : (x : ℕ) (r : Root) (b : Bool) → (is_variable r x && not b) ≡ has_number x (of_root r b)
root_moved x (variable y) true = and_false (y == x)
root_moved x (variable y) false = and_true (y == x) ∙ number_turned y x ∙ or_none (x == y)
root_moved x (temporary t) b = refl

act_moved : (x : ℕ) (a : Act) → moves x a ≡ has_number x (moved_by a)
act_moved x (Read true p d) = root_moved x p.root (is_behind p.steps)
act_moved x (Read false p d) = refl
act_moved x (Declare y) = refl
act_moved x (Dead y) = refl
act_moved x (Write p t ss) = refl
act_moved x (Borrow k p d) = refl
act_moved x (Test p c) = refl
act_moved x (Call f ts d) = refl
act_moved x (Build w is ts d) = refl
act_moved x (Input d) = refl
act_moved x (Print t) = refl
act_moved x (Give t) = refl

pub some_moved : (x : ℕ) (l : List Action) → some_moves x l ≡ has_number x (moved_in l)
some_moved x [] = refl
some_moved x (a ∷ l) = ap (λ b. b || some_moves x l) (act_moved x a.act) ∙ ap (λ b. has_number x (moved_by a.act) || b) (some_moved x l) ∙ sym (has_both x (moved_by a.act) (moved_in l))
