-- Runs of small functions, what is known of them, and the first condition that fails: computed, against what was written by hand.
use Rattle.std.proofs.Common.{◌≡◌, refl, ℕ, ◌==◌, pos, Bool, true, false, if◌then◌else◌, List, [], ◌∷◌, Option, Some, None}
use Rattle.rx_core.specs.declared.types.Kind.{Kind}
use Rattle.rx_core.specs.declared.types.Step.TheVariants as step
use Rattle.rx_tree.specs.declared.tree.BinaryOp.{BinaryOp}
use Rattle.rx_typed.specs.Types.{Typ, integer, boolean, tuple_of, no_shape, shape_and, unit_shape}
use Rattle.rx_typed.specs.Tree.{Mark, Place, any, bind, exactly, by_value, whole_number, truth, constant, operation, Exp, read, build, unit, assign, call, input, print, block, choose, loop, jump, give, no_operand, operand_and, of_value, at_place, no_arm, arm_and, Body, ends, runs, declares, lets, Function, own, under}
use Rattle.rx_facts_tables.specs.Places.{Frame}
use Rattle.rx_exits_plan.specs.Spots.{Spot, a_block, spots_of_function}
use Rattle.rx_exits_plan.specs.Runs.{Run, Home}
use Rattle.rx_exits_plan.specs.Points.{Exit, next, breaks, continues, returns}
use Rattle.rx_exits_plan.specs.Asked.{Asked}
use Rattle.rx_exits_plan.proofs.Computing.{planned, Shown, shown, fine, unreachable_first, unreachable_last, unreachable_jump, endless, mixed_init, partly_moved, shadowed, first_row}

-- ---- short forms: only the nodes of blocks and jumps matter here

abbrev pub int : Typ
int = integer Kind.I64

abbrev pub at : ℕ → Option Typ → Mark
at n t = record { node = n; typ = t }

abbrev pub num : Exp
num = build (at 99 (Some int)) (constant (whole_number Kind.I64 (pos 1))) no_operand

abbrev pub yes : Exp
yes = build (at 98 (Some boolean)) (constant (truth true)) no_operand

abbrev pub copy : ℕ → Exp
copy x = read (at 97 (Some int)) false (own x)

abbrev pub move : ℕ → Exp
move x = read (at 96 None) true (own x)

abbrev pub part : ℕ → ℕ → Place
part x i = under (own x) (step.Field i ∷ [])

abbrev pub set : ℕ → Exp → Exp
set x e = assign (at 95 (Some unit_shape)) (own x) e

abbrev pub show : Exp → Exp
show e = print (at 94 (Some unit_shape)) e

abbrev pub less : Exp → Exp → Exp
less a b = build (at 93 (Some boolean)) (operation BinaryOp.Lt) (operand_and 0 a (operand_and 1 b no_operand))

abbrev pub eat : Exp → Exp
eat e = call (at 92 (Some unit_shape)) 1 (operand_and 0 e no_operand)

abbrev pub done : Exp
done = unit (at 91 (Some unit_shape))

-- if c { b }
abbrev pub when : Exp → Exp → Exp
when c b = choose (at 90 (Some unit_shape)) (of_value c) (arm_and (exactly 90 (truth true)) b (arm_and any done no_arm))

abbrev pub braces : ℕ → Body → Exp
braces n b = block (at n (Some unit_shape)) b

abbrev pub leave : ℕ → ℕ → Exp
leave n l = jump (at n None) l false

abbrev pub again : ℕ → ℕ → Exp
again n l = jump (at n None) l true

abbrev pub let_be : ℕ → Exp → Body → Body
let_be x e b = lets 89 (bind 89 x (by_value false)) (of_value e) b

-- the function's own block is that of node 1
abbrev pub whole : Body → Function
whole b = record { params = []; body = block (at 1 (Some unit_shape)) b }

abbrev pub last : Body
last = ends (give (at 1 None) done)

abbrev pub sizes : ℕ → ℕ
sizes i = 1

abbrev pub frame_of : List (Option Typ) → Frame
frame_of ts = record { declared = []; sizes = sizes; types = ts }

abbrev pub home_among : ℕ → List Spot → Home
home_among n [] = record { around = record { scope = []; loops = [] }; body = last }
home_among n (a_block a m b ∷ ss) = if m == n then record { around = a; body = b } else home_among n ss
home_among n (s ∷ ss) = home_among n ss

abbrev pub asked : Function → Run → List (Option Typ) → Asked
asked f r ts = record { function = f; run = r; home = home_among r.block (spots_of_function f); frame = frame_of ts }

abbrev pub of_block : ℕ → ℕ → ℕ → Bool → Run
of_block n i k t = record { block = n; first = i; count = k; tail = t }

abbrev pub names_apart : ℕ → ℕ → Bool
names_apart x y = x == y

abbrev pub known : List Exit → List ℕ → List ℕ → List (List ℕ) → List ℕ → List ℕ → Shown
known es ps ls os rs xs = record { exits = es; params = ps; locals = ls; outs = os; redeclared = rs; loose = xs }

abbrev pub one : Option Typ
one = Some (tuple_of (shape_and int no_shape))

abbrev pub two : Option Typ
two = Some (tuple_of (shape_and int (shape_and int no_shape)))

abbrev pub number : Option Typ
number = Some int

-- ---- a variable that is moved and assigned again, on the way out of a loop too
--     let mut s = ..; loop { let k = ..; [ s = f(s, k); if s.0 < 1 { break; } ] } println!(s.0);
abbrev moved_again : Asked
moved_again = asked (whole (let_be 0 num (runs (loop (at 9 (Some unit_shape)) 0 (braces 10
    (let_be 1 (input (at 20 (Some int))) (runs (set 0 (call (at 21 (Some int)) 1 (operand_and 0 (move 0) (operand_and 1 (copy 1) no_operand))))
    (runs (when (less (read (at 22 (Some int)) false (part 0 0)) num) (braces 11 (runs (leave 12 0) (ends done)))) (ends done))))))
    (runs (show (read (at 23 (Some int)) false (part 0 0))) last))))
    (of_block 10 1 2 false) (one ∷ number ∷ [])

moved_again_plan : shown (planned moved_again) ≡ known (next ∷ breaks 0 ∷ []) (0 ∷ 1 ∷ []) [] ((0 ∷ []) ∷ (0 ∷ []) ∷ []) [] []
moved_again_plan = refl

moved_again_fine : first_row moved_again names_apart ≡ fine
moved_again_fine = refl

-- ---- a run in the middle of a loop
--     let mut i = 1; loop { let c = ..; [ if c < 1 { break; } if 1 < c { continue; } i = c; ] println!(i); }
abbrev in_a_loop : Asked
in_a_loop = asked (whole (let_be 0 num (runs (loop (at 9 None) 0 (braces 10
    (let_be 1 (input (at 20 (Some int))) (runs (when (less (copy 1) num) (braces 11 (runs (leave 12 0) (ends done))))
    (runs (when (less num (copy 1)) (braces 13 (runs (again 14 0) (ends done)))) (runs (set 0 (copy 1)) (runs (show (copy 0)) (ends done)))))))) last)))
    (of_block 10 1 3 false) (number ∷ number ∷ [])

in_a_loop_plan : shown (planned in_a_loop) ≡ known (next ∷ breaks 0 ∷ continues 0 ∷ []) (1 ∷ 0 ∷ []) [] ([] ∷ [] ∷ [] ∷ []) [] []
in_a_loop_plan = refl

in_a_loop_fine : first_row in_a_loop names_apart ≡ fine
in_a_loop_fine = refl

-- ---- a run that is left over two loops, and out of the function
--     fn f(limit: i64) { let mut i = ..; 'a: loop { loop { let n = ..; [ if n < 1 { break 'a; } if limit < n { return; } i = n; ] } } println!(i); }
abbrev out_of_two_loops : Asked
out_of_two_loops = asked (record {
  params = record { node = 2; variable = 0 } ∷ [];
  body = block (at 1 (Some unit_shape)) (let_be 1 num (runs (loop (at 9 (Some unit_shape)) 0 (braces 10
      (runs (loop (at 19 None) 1 (braces 20 (let_be 2 (input (at 30 (Some int))) (runs (when (less (copy 2) num) (braces 11 (runs (leave 12 0) (ends done))))
      (runs (when (less (copy 0) (copy 2)) (braces 13 (runs (give (at 14 None) done) (ends done)))) (runs (set 1 (copy 2)) (ends done))))))) (ends done))))
      (runs (show (copy 1)) last)));
}) (of_block 20 1 3 false) (number ∷ number ∷ number ∷ [])

out_of_two_loops_plan : shown (planned out_of_two_loops) ≡ known (next ∷ breaks 0 ∷ returns ∷ []) (2 ∷ 0 ∷ 1 ∷ []) [] ([] ∷ [] ∷ [] ∷ []) [] []
out_of_two_loops_plan = refl

out_of_two_loops_fine : first_row out_of_two_loops names_apart ≡ fine
out_of_two_loops_fine = refl

-- ---- a run without any action, alone in a loop that has none
--     loop { [ {} ] }
abbrev silent : Asked
silent = asked (whole (runs (loop (at 9 None) 0 (braces 10 (runs (braces 20 (ends done)) (ends done)))) last)) (of_block 10 0 1 false) []

silent_plan : shown (planned silent) ≡ known (next ∷ []) [] [] ([] ∷ []) [] []
silent_plan = refl

silent_fine : first_row silent names_apart ≡ fine
silent_fine = refl

-- ---- entered from two sides
--     let c = ..; let mut y; if c { y = 1; println!(y); } [ y = 1; ] println!(y);
abbrev from_two_sides : Asked
from_two_sides = asked (whole (let_be 0 yes (declares 40 (1 ∷ []) (runs (when (copy 0) (braces 11 (runs (set 1 num) (runs (show (copy 1)) (ends done)))))
    (runs (set 1 num) (runs (show (copy 1)) last)))))) (of_block 1 3 1 false) (number ∷ number ∷ [])

from_two_sides_row : first_row from_two_sides names_apart ≡ mixed_init 1
from_two_sides_row = refl

--     let k = ..; let y; [ y = k; ] println!(y);
abbrev pub late : Asked
late = asked (whole (let_be 0 num (declares 40 (1 ∷ []) (runs (set 1 (copy 0)) (runs (show (copy 1)) last))))) (of_block 1 2 1 false) (number ∷ number ∷ [])

late_plan : shown (planned late) ≡ known (next ∷ []) (0 ∷ []) (1 ∷ []) ((1 ∷ []) ∷ []) [] []
late_plan = refl

late_fine : first_row late names_apart ≡ fine
late_fine = refl

-- ---- not reached
--     [ loop {} ]
abbrev endless_loop : Asked
endless_loop = asked (whole (ends (give (at 1 None) (loop (at 9 None) 0 (braces 10 (ends done)))))) (of_block 1 0 0 true) []

endless_loop_row : first_row endless_loop names_apart ≡ endless
endless_loop_row = refl

--     return; [ println!(1); ]
abbrev behind_return : Asked
behind_return = asked (whole (runs (give (at 30 None) done) (runs (show num) last))) (of_block 1 1 1 false) []

behind_return_row : first_row behind_return names_apart ≡ unreachable_first
behind_return_row = refl

--     let x = { [ return 1; 5 ] }; println!(x);
abbrev value_after_return : Asked
value_after_return = asked (whole (let_be 0 (block (at 30 (Some int)) (runs (give (at 31 None) num) (ends num))) (runs (show (copy 0)) last))) (of_block 30 0 1 true) (number ∷ [])

value_after_return_row : first_row value_after_return names_apart ≡ unreachable_last
value_after_return_row = refl

--     loop { [ if true { return; break; } ] }
abbrev behind_a_return : Asked
behind_a_return = asked (whole (runs (loop (at 9 (Some unit_shape)) 0 (braces 10
    (runs (when yes (braces 11 (runs (give (at 13 None) done) (runs (leave 12 0) (ends done))))) (ends done)))) last)) (of_block 10 0 1 false) []

behind_a_return_row : first_row behind_a_return names_apart ≡ unreachable_jump 12
behind_a_return_row = refl

-- ---- shadowed
--     let x; { [ x = 1; let x = 1; ] println!(x); } println!(x);
abbrev named_alike : Asked
named_alike = asked (whole (declares 40 (0 ∷ []) (runs (braces 20 (runs (set 0 num) (let_be 1 num (runs (show (copy 1)) (ends done))))) (runs (show (copy 0)) last))))
    (of_block 20 0 2 false) (number ∷ number ∷ [])

named_alike_row : first_row named_alike (λ x y. true) ≡ shadowed 0
named_alike_row = refl

named_apart_plan : shown (planned named_alike) ≡ known (next ∷ []) [] (0 ∷ []) ((0 ∷ 1 ∷ []) ∷ []) [] []
named_apart_plan = refl

-- ---- moved in part
--     let p = (.., ..); let a = p.0; [ println!(p.1); ]
abbrev in_part : Asked
in_part = asked (whole (let_be 0 num (lets 41 (bind 41 1 (by_value true)) (at_place (at 42 None) (part 0 0))
    (runs (show (read (at 43 (Some int)) false (part 0 1))) (runs (show (copy 1)) last))))) (of_block 1 2 1 false) (two ∷ number ∷ [])

in_part_row : first_row in_part names_apart ≡ partly_moved 0
in_part_row = refl

-- all of its parts, one by one: a part of it may be written here, where it would have to be written as a whole in a new function
--     let mut w = (..,); eat(w.0); [ w.0 = 1; eat(w.0); ]
abbrev part_by_part : Asked
part_by_part = asked (whole (let_be 0 num (runs (eat (read (at 44 None) true (part 0 0)))
    (runs (assign (at 45 (Some unit_shape)) (part 0 0) num) (runs (eat (read (at 46 None) true (part 0 0))) last))))) (of_block 1 2 2 false) (one ∷ [])

part_by_part_row : first_row part_by_part names_apart ≡ partly_moved 0
part_by_part_row = refl

-- as a whole
--     let mut w = (..,); eat(w); [ w = ..; ] eat(w);
abbrev as_a_whole : Asked
as_a_whole = asked (whole (let_be 0 num (runs (eat (move 0)) (runs (set 0 num) (runs (eat (move 0)) last))))) (of_block 1 2 1 false) (one ∷ [])

as_a_whole_plan : shown (planned as_a_whole) ≡ known (next ∷ []) [] (0 ∷ []) ((0 ∷ []) ∷ []) [] []
as_a_whole_plan = refl

as_a_whole_fine : first_row as_a_whole names_apart ≡ fine
as_a_whole_fine = refl

-- ---- with the tail
--     let mut s = ..; let v = { [ s = f(s); s.0 ] }; println!(s.0);
abbrev with_tail : Asked
with_tail = asked (whole (let_be 0 num (let_be 1 (block (at 30 (Some int)) (runs (set 0 (call (at 21 (Some int)) 1 (operand_and 0 (move 0) no_operand))) (ends (read (at 31 (Some int)) false (part 0 0)))))
    (runs (show (read (at 32 (Some int)) false (part 0 0))) last)))) (of_block 30 0 1 true) (one ∷ number ∷ [])

with_tail_plan : shown (planned with_tail) ≡ known (next ∷ []) (0 ∷ []) [] ((0 ∷ []) ∷ []) [] []
with_tail_plan = refl

with_tail_fine : first_row with_tail names_apart ≡ fine
with_tail_fine = refl

-- ---- named behind the run
--     let a = ..; [ println!(a); let t; ] t = a; println!(t);
abbrev named_behind : Asked
named_behind = asked (whole (let_be 0 num (runs (show (copy 0)) (declares 40 (1 ∷ []) (runs (set 1 (copy 0)) (runs (show (copy 1)) last)))))) (of_block 1 1 2 false) (number ∷ number ∷ [])

named_behind_plan : shown (planned named_behind) ≡ known (next ∷ []) (0 ∷ []) [] ([] ∷ []) (1 ∷ []) (1 ∷ [])
named_behind_plan = refl

-- ---- live because the call names it: no action of the run that a walk takes uses `x`, but each call of the new function does
--     let x = ..; loop { [ if true { return; eat(x); } ] }
abbrev only_named : Asked
only_named = asked (whole (let_be 0 num (runs (loop (at 9 None) 0 (braces 10
    (runs (when yes (braces 11 (runs (give (at 13 None) done) (runs (eat (move 0)) (ends done))))) (ends done)))) last))) (of_block 10 0 1 false) (one ∷ [])

only_named_plan : shown (planned only_named) ≡ known (next ∷ returns ∷ []) (0 ∷ []) [] ((0 ∷ []) ∷ [] ∷ []) [] []
only_named_plan = refl

only_named_fine : first_row only_named names_apart ≡ fine
only_named_fine = refl
