-- No two actions of an example function stand at one node with the same kind of act: computed. Deads are not among them.
use Rattle.std.specs.Prelude.{◌≡◌, refl, ℕ, Bool, true, false, not, ◌&&◌, ◌||◌, nat_eq, List, [], ◌∷◌}
use Rattle.rx_typed.specs.Tree.{Root, variable, temporary, Function}
use Rattle.rx_lower_walks.specs.Actions.{Act, Declare, Dead, Read, Write, Borrow, Test, Call, Build, Input, Print, Give, Action}
use Rattle.rx_lower_walks.specs.Orders.{order_function}
use Rattle.rx_lower_walks.specs.Walks.{actions_in}
use Rattle.rx_lower_walks.proofs.Programs.{product_main, half_half, gate_main, steps_next_step, steps_main, found_find, replaced_main, whiles_main, nested_factorial, nested_main, parts_grown, parts_main}
use Rattle.rx_lower_walks.proofs.ProgramsOfTypes.{shapes_size, shapes_main, coerced_bigger, coerced_looked, coerced_main, matching_seen, matching_taken, matching_main}
use Rattle.rx_lower_walks.proofs.Bank.{bank_read_command, bank_pick, bank_serve, bank_main}

-- a `&mut p` that becomes shared borrows twice at its node: the place, and its temporary
abbrev borrowed : Root → ℕ
borrowed (variable x) = 4
borrowed (temporary t) = 5

abbrev kind : Act → ℕ
kind (Declare x) = 0
kind (Dead x) = 1
kind (Read m p d) = 2
kind (Write p t ss) = 3
kind (Borrow k p d) = borrowed p.root
kind (Test p c) = 6
kind (Call f ts d) = 7
kind (Build w is ts d) = 8
kind (Input d) = 9
kind (Print t) = 10
kind (Give t) = 11

abbrev is_like : Action → Action → Bool
is_like a b = nat_eq a.node b.node && nat_eq (kind a.act) (kind b.act)

abbrev is_among : Action → List Action → Bool
is_among a [] = false
is_among a (b ∷ l) = is_like a b || is_among a l

abbrev are_distinct : List Action → Bool
are_distinct [] = true
are_distinct (a ∷ l) = not (is_among a l) && are_distinct l

abbrev all_distinct : List Function → Bool
all_distinct [] = true
all_distinct (f ∷ fs) = are_distinct (actions_in (order_function f)) && all_distinct fs

each_once : all_distinct (product_main ∷ half_half ∷ gate_main ∷ steps_next_step ∷ steps_main ∷ found_find ∷ replaced_main ∷ parts_grown ∷ parts_main
    ∷ shapes_size ∷ shapes_main ∷ whiles_main ∷ nested_factorial ∷ nested_main ∷ coerced_bigger ∷ coerced_looked ∷ coerced_main ∷ matching_seen ∷ matching_taken ∷ matching_main
    ∷ bank_read_command ∷ bank_pick ∷ bank_serve ∷ bank_main ∷ []) ≡ true
each_once = refl
