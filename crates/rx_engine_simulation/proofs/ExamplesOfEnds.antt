-- Programs, and those in which all statements of a function became the call of a new one: with the value of the last, with returns of the
-- unit, and without an end. The runs are computed.
use Rattle.std.proofs.Common.{◌≡◌, ℕ, zero, suc, true, false, [], ◌∷◌, List, Some, None, refl, arith}
use Rattle.std.specs.Prelude.{codes}
use Rattle.std.specs.Fmt.{digits}
use Rattle.rx_meaning.specs.declared.outcome.End.{End}
use Rattle.rx_typed.specs.Tree as tree
use Rattle.rx_typed.specs.Tree.{Exp, Arms, Body, Function, Subpatterns, own}
use Rattle.rx_lower_walks.specs.Actions.{Action}
use Rattle.rx_lower_walks.specs.Orders as orders
use Rattle.rx_lower_walks.specs.Orders.{Exit, Order, order}
use Rattle.rx_lower_walks.specs.Walks as walk
use Rattle.rx_lower_walks.specs.Walks.{Walk}
use Rattle.rx_meaning.specs.Values.{element}
use Rattle.rx_meaning.specs.Results.{bind, after, result_of}
use Rattle.rx_meaning.specs.Patterns.{decided, tested, closed, bound, took, begun}
use Rattle.rx_meaning.specs.Expressions.{value, take_turn, passed, returned, with_arguments, below_level}
use Rattle.rx_meaning.specs.Programs.{Program, run}
use Rattle.rx_engine_simulation.specs.Histories.{Facts}
use Rattle.rx_engine_simulation.specs.Places.{no_steps, of_temporary}
use Rattle.rx_engine_simulation.specs.Binders.{no_param, no_binding, no_test, test_and}
use Rattle.rx_engine_simulation.specs.Jumps.{Returning, with_value, with_unit, Jumping}
use Rattle.rx_engine_simulation.specs.Like.{opens, opens_in, builds, units, calls, prints, blocks, chooses, gives, no_operands, of_values, no_arms, arms_and, ends_in, runs_on}
use Rattle.rx_engine_simulation.specs.Programs.{LikeFunction, LikeEntry, functions, neither}
use Rattle.rx_engine_simulation.specs.Arrivals.{to_rest, Arrives, arrives_rest, none_ready}
use Rattle.rx_engine_simulation.specs.Packing.{takes_read, takes_none, gives_unit, gives_empty, gives_one, gives_variant, receives_none, receives_and, picks_here, picks_later}
use Rattle.rx_engine_simulation.specs.Handing.{drops, redeclares_none}
use Rattle.rx_engine_simulation.specs.Units.{of_print}
use Rattle.rx_engine_simulation.specs.Variants.{leaves_value, leaves_unit, value_arm, unit_arm}
use Rattle.rx_engine_simulation.specs.Passing.{New, passes_none, no_local, none_absent}
use Rattle.rx_engine_simulation.specs.Blocks.{Stretch, done, does_then, before, through_run}
use Rattle.rx_engine_simulation.specs.Stretches.{both_done, both_do}
use Rattle.rx_engine_simulation.specs.Endings.{none_left, a_tail, an_end, left_end, end_runs, end_variant, end_never}
use Rattle.rx_engine_simulation.specs.Statements.{enters, matches, matches_jumps, as_end, ends_with_unit, hands_on, hands_value, hands_none, statements_become_call}
use Rattle.rx_engine_simulation.specs.Called.{calls_of, a_turn, WithCall}
use Rattle.rx_engine_simulation.proofs.ExamplesOfStatements.{m, number, none_some, none_seen, not_tail}

-- if true { .. }
abbrev perhaps : Exp → Stretch
perhaps e = does_then (tree.choose (m 2) (tree.of_value (tree.build (m 3) (tree.constant (tree.truth true)) tree.no_operand)) (tree.arm_and (tree.exactly 4 (tree.truth true)) e (tree.arm_and tree.any (tree.unit (m 6)) tree.no_arm))) done

abbrev no_rest : Body
no_rest = tree.ends (tree.unit (m 9))

abbrev whole : Body → Function
whole b = record { params = []; body = tree.block (m 9) b }

abbrev called : Exp
called = tree.call (m 13) 2 tree.no_operand

abbrev received : ℕ → ℕ → Subpatterns
received k z = tree.part_and 0 (tree.bind k z (tree.by_value false)) tree.no_part

abbrev items : ℕ → ℕ
items zero = 0
items (suc zero) = 1
items (suc (suc f)) = suc (suc (suc f))

abbrev jumps_by : Returning → Jumping
jumps_by w = record { loops = []; leaving = λ l again. None; returning = w; dead = [] }

abbrev made : Body → New
made b = record { number = 2; function = record { params = []; body = tree.block (m 19) b } }

not_last : (k : ℕ) (e f : Exp) → an_end (m k) e ≡ a_tail f → ⊥
not_last k e f g = cc

-- ---- the value of the last

-- fn main() { println!("{}", find()); }
abbrev asking : Function
asking = record { params = []; body = tree.block (m 1) (tree.runs (tree.print (m 2) (tree.call (m 3) 1 tree.no_operand)) (tree.ends (tree.give (m 1) (tree.unit (m 1))))) }

-- fn find() -> i64 { if true { return 7; } 0 }
abbrev find_text : Function
find_text = whole (before (perhaps (tree.give (m 5) (number 7 7))) (tree.ends (tree.give (m 9) (number 10 0))))

abbrev arms_with : Arms
arms_with =
    tree.arm_and (tree.variant 17 2 true 0 (received 23 9)) (tree.read (m 24) true (own 9))
    (tree.arm_and (tree.variant 18 2 true 1 (received 20 8)) (tree.give (m 12) (tree.read (m 21) true (own 8))) tree.no_arm)

-- fn find() -> i64 { match step() { Exit::Next(out_0) => out_0, Exit::Return(out_0) => return out_0 } }
abbrev find_answer : Function
find_answer = whole (tree.ends (tree.give (m 9) (tree.choose (m 22) (tree.of_value called) arms_with)))

-- fn step() -> Exit { if true { return Exit::Return(7); } Exit::Next(0) }
abbrev step : New
step = made (before (perhaps (tree.give (m 5) (tree.build (m 8) (tree.variant_of 2 1) (tree.operand_and 0 (number 7 7) tree.no_operand)))) (tree.ends (tree.give (m 19) (tree.build (m 14) (tree.variant_of 2 0) (tree.operand_and 0 (number 10 0) tree.no_operand)))))

abbrev text : Program
text = record { functions = Some asking ∷ Some find_text ∷ []; main = 0 }

abbrev answer : Program
answer = record { functions = Some asking ∷ Some find_answer ∷ Some step.function ∷ []; main = 0 }

asking_alike : (N : New) → LikeFunction items (calls_of items (a_turn false) [] N) (a_turn false) asking asking
asking_alike N = record {
  about = record { special = []; asked = [] };
  untouched = λ a h x i. absurd i;
  inside = [];
  params = no_param;
  body = blocks (runs_on 0 0 (omega arith) (prints (calls no_operands)) (ends_in (gives refl units)));
}

find_alike : LikeFunction items (calls_of items (a_turn false) [] step) (a_turn false) find_text find_answer
find_alike = record {
  about = record { special = []; asked = [] };
  untouched = λ a h x i. absurd i;
  inside = [];
  params = no_param;
  body = blocks (opens_in {Ra = []} {b = no_rest} {b' = no_rest} {f = λ b. before (perhaps (tree.give (m 5) (number 7 7))) (tree.ends (tree.give (m 9) (number 10 0)))} {f' = λ b. tree.ends (tree.give (m 9) (tree.choose (m 22) (tree.of_value called) arms_with))} 1 0 (omega arith)
      (statements_become_call {r = perhaps (tree.give (m 5) (number 7 7))} {l = an_end (m 9) (number 10 0)} {has = true} {xs = []} {rest = no_rest} {mc = m 13} [] [] (m 19) [] refl (enters [] [] [] (λ x i. absurd i) (λ i t. passes_none) (λ i t. no_local) none_absent (λ x e f. absurd (none_some f)) (λ x y e. absurd (none_some e)))
      (both_do (chooses 0 0 (omega arith) (of_values (builds tt no_operands)) (arms_and [] (test_and (of_temporary no_steps) refl no_test) no_binding
      (opens {e = number 7 7} {e' = number 7 7} {f = λ e. tree.give (m 5) e} {f' = λ e. tree.give (m 5) (tree.build (m 8) (tree.variant_of 2 1) (tree.operand_and 0 e tree.no_operand))} 0 0 (omega arith) (leaves_value refl (λ k h c x i. absurd i)) (builds tt no_operands))
      (arms_and [] no_test no_binding units no_arms))) both_done)
      (end_variant left_end (builds tt no_operands) none_ready takes_none) (λ e f. absurd (not_last 9 (number 10 0) e f))
      (matches {Ji = jumps_by (with_value 1)} (record {
        all_dead = λ x y e. absurd (none_some e);
        no_loops = refl;
        jumps_on = λ n again p e. absurd (none_some e);
        returns_on = (refl, value_arm (none_seen 8) (receives_and receives_none) takes_read (picks_later refl picks_here));
      }) picks_here (receives_and receives_none) (none_seen 9, (λ i. i), tt) (gives_one takes_read) refl)
      (hands_value (λ x y e. absurd (none_some e)) (as_end {m' = m 9} refl)))
      (ends_in units));
}

entries : (f : ℕ) → LikeEntry items (calls_of items (a_turn false) [] step) (a_turn false) (element text.functions f) (element answer.functions (items f))
entries zero = functions (asking_alike step)
entries (suc zero) = functions find_alike
entries (suc (suc f)) = neither tt tt

pub is_with_call : WithCall text answer step
is_with_call = record { items = items; strays = false; units = []; are_units = λ f i. absurd i; alike = record { all = entries; mains = refl }; stands = refl }

text_run : run text [] 2 ≡ record { printed = codes "7\n"; end = End.Ended }
unfolding value below_level digits after bind result_of decided tested closed took bound begun take_turn passed returned with_arguments
text_run = refl

answer_run : run answer [] 3 ≡ record { printed = codes "7\n"; end = End.Ended }
unfolding value below_level digits after bind result_of decided tested closed took bound begun take_turn passed returned with_arguments
answer_run = refl

-- ---- returns of the unit, and a last one that gives it

-- fn main() { show(); }
abbrev showing : Function
showing = record { params = []; body = tree.block (m 1) (tree.runs (tree.call (m 3) 1 tree.no_operand) (tree.ends (tree.give (m 1) (tree.unit (m 1))))) }

abbrev eight : Exp
eight = tree.print (m 25) (number 10 8)

-- fn show() { if true { return println!("{}", 7); } println!("{}", 8) }
abbrev show_text : Function
show_text = whole (before (perhaps (tree.give (m 5) (tree.print (m 26) (number 7 7)))) (tree.ends (tree.give (m 9) eight)))

abbrev arms_without : Arms
arms_without =
    tree.arm_and (tree.variant 17 2 true 0 tree.no_part) (tree.block (m 24) (tree.ends (tree.unit (m 24))))
    (tree.arm_and (tree.variant 18 2 true 1 tree.no_part) (tree.give (m 12) (tree.unit (m 12))) tree.no_arm)

-- fn show() { match step() { Exit::Next => {}, Exit::Return => return } }
abbrev show_answer : Function
show_answer = whole (tree.runs (tree.choose (m 22) (tree.of_value called) arms_without) (tree.ends (tree.give (m 9) (tree.unit (m 9)))))

abbrev bound_return : Exp → Exp
bound_return e = tree.give (m 5) (tree.block (m 27) (tree.lets 28 (tree.bind 29 4 (tree.by_value false)) (tree.of_value e) (tree.ends (tree.build (m 8) (tree.variant_of 2 1) tree.no_operand))))

-- fn step() -> Exit { if true { return { let out_0: () = println!("{}", 7); Exit::Return }; } println!("{}", 8); Exit::Next }
abbrev show_step : New
show_step = made (before (perhaps (bound_return (tree.print (m 26) (number 7 7)))) (tree.runs eight (tree.ends (tree.give (m 19) (tree.build (m 14) (tree.variant_of 2 0) tree.no_operand)))))

abbrev unit_text : Program
unit_text = record { functions = Some showing ∷ Some show_text ∷ []; main = 0 }

abbrev unit_answer : Program
unit_answer = record { functions = Some showing ∷ Some show_answer ∷ Some show_step.function ∷ []; main = 0 }

showing_alike : LikeFunction items (calls_of items (a_turn false) [] show_step) (a_turn false) showing showing
showing_alike = record {
  about = record { special = []; asked = [] };
  untouched = λ a h x i. absurd i;
  inside = [];
  params = no_param;
  body = blocks (runs_on 0 0 (omega arith) (calls no_operands) (ends_in (gives refl units)));
}

show_alike : LikeFunction items (calls_of items (a_turn false) [] show_step) (a_turn false) show_text show_answer
show_alike = record {
  about = record { special = []; asked = [] };
  untouched = λ a h x i. absurd i;
  inside = [];
  params = no_param;
  body = blocks (opens_in {Ra = []} {b = no_rest} {b' = no_rest} {f = λ b. before (perhaps (tree.give (m 5) (tree.print (m 26) (number 7 7)))) (tree.ends (tree.give (m 9) eight))}
      {f' = λ b. tree.runs (tree.choose (m 22) (tree.of_value called) arms_without) (tree.ends (tree.give (m 9) (tree.unit (m 9))))} 1 0 (omega arith)
      (statements_become_call {r = perhaps (tree.give (m 5) (tree.print (m 26) (number 7 7)))} {l = an_end (m 9) eight} {has = false} {xs = []} {rest = no_rest} {mc = m 13} [] [] (m 19) [] refl (enters [] [] [] (λ x i. absurd i) (λ i t. passes_none) (λ i t. no_local) none_absent (λ x e f. absurd (none_some f)) (λ x y e. absurd (none_some e)))
      (both_do (chooses 0 0 (omega arith) (of_values (builds tt no_operands)) (arms_and [] (test_and (of_temporary no_steps) refl no_test) no_binding
      (opens {e = tree.print (m 26) (number 7 7)} {e' = tree.print (m 26) (number 7 7)} {f = λ e. tree.give (m 5) e} {f' = bound_return} 0 0 (omega arith) (leaves_unit refl of_print (λ k h c x i. absurd i) (none_seen 4) (gives_variant takes_none)) (prints (builds tt no_operands)))
      (arms_and [] no_test no_binding units no_arms))) both_done)
      (end_runs left_end of_print (prints (builds tt no_operands)) none_ready (gives_variant takes_none)) (λ e f. absurd (not_last 9 eight e f))
      (matches {Ji = jumps_by (with_unit 1)} (record {
        all_dead = λ x y e. absurd (none_some e);
        no_loops = refl;
        jumps_on = λ n again p e. absurd (none_some e);
        returns_on = (refl, unit_arm gives_unit (picks_later refl picks_here));
      }) picks_here receives_none tt gives_empty refl)
      (hands_on [] [] [] (λ x e f. absurd (none_some f)) (λ x y e. absurd (none_some e)) drops redeclares_none (ends_with_unit (as_end refl)) (λ x e f. f) (λ x e f. f)))
      (ends_in units));
}

unit_entries : (f : ℕ) → LikeEntry items (calls_of items (a_turn false) [] show_step) (a_turn false) (element unit_text.functions f) (element unit_answer.functions (items f))
unit_entries zero = functions showing_alike
unit_entries (suc zero) = functions show_alike
unit_entries (suc (suc f)) = neither tt tt

pub units_with_call : WithCall unit_text unit_answer show_step
units_with_call = record { items = items; strays = false; units = []; are_units = λ f i. absurd i; alike = record { all = unit_entries; mains = refl }; stands = refl }

unit_text_run : run unit_text [] 2 ≡ record { printed = codes "7\n"; end = End.Ended }
unfolding value below_level digits after bind result_of decided tested closed took bound begun take_turn passed returned with_arguments
unit_text_run = refl

unit_answer_run : run unit_answer [] 3 ≡ record { printed = codes "7\n"; end = End.Ended }
unfolding value below_level digits after bind result_of decided tested closed took bound begun take_turn passed returned with_arguments
unit_answer_run = refl

-- ---- without an end: one variant alone

-- println!("{}", 5); ..
abbrev always : Exp → Stretch
always e = does_then (tree.print (m 30) (number 31 5)) (does_then e done)

abbrev nothing_behind : Body
nothing_behind = tree.ends (tree.give (m 9) (tree.unit (m 9)))

-- fn find() -> i64 { println!("{}", 5); return 7; }
abbrev always_text : Function
always_text = whole (before (always (tree.give (m 5) (number 7 7))) nothing_behind)

abbrev only_arm : Arms
only_arm = tree.arm_and (tree.variant 18 2 false 0 (received 20 8)) (tree.give (m 12) (tree.read (m 21) true (own 8))) tree.no_arm

-- fn find() -> i64 { match step() { Exit::Return(out_0) => return out_0 }; }
abbrev always_answer : Function
always_answer = whole (tree.runs (tree.choose (m 22) (tree.of_value called) only_arm) nothing_behind)

-- fn step() -> Exit { println!("{}", 5); return Exit::Return(7); }
abbrev always_step : New
always_step = made (before (always (tree.give (m 5) (tree.build (m 8) (tree.variant_of 2 0) (tree.operand_and 0 (number 7 7) tree.no_operand)))) (tree.ends (tree.give (m 19) (tree.unit (m 19)))))

abbrev always_program : Program
always_program = record { functions = Some asking ∷ Some always_text ∷ []; main = 0 }

abbrev always_with : Program
always_with = record { functions = Some asking ∷ Some always_answer ∷ Some always_step.function ∷ []; main = 0 }

no_leave : {x : Exit} {w : List Action} → Walk (orders.leave x) w walk.on → ⊥
no_leave k = elim k [ ]

no_return_on : {s t : Order} {x : Exit} {w : List Action} → Walk (orders.then s (orders.then t (orders.leave x))) w walk.on → ⊥
no_return_on (walk.both h (walk.both k l)) = no_leave l
no_return_on (walk.both h (walk.first e k)) = absurd e
no_return_on (walk.first e h) = absurd e

never : (V : Facts) (h : List Action) → Arrives V (to_rest (before (always (tree.give (m 5) (number 7 7))) nothing_behind) (always (tree.give (m 5) (number 7 7)))) h → ⊥
never V h (arrives_rest i t c (through_run k (through_run l th))) = no_return_on l

always_alike : LikeFunction items (calls_of items (a_turn false) [] always_step) (a_turn false) always_text always_answer
always_alike = record {
  about = record { special = []; asked = [] };
  untouched = λ a h x i. absurd i;
  inside = [];
  params = no_param;
  body = blocks (opens_in {Ra = []} {b = nothing_behind} {b' = nothing_behind} {f = λ b. before (always (tree.give (m 5) (number 7 7))) b} {f' = λ b. tree.runs (tree.choose (m 22) (tree.of_value called) only_arm) b} 1 0 (omega arith)
      (statements_become_call {r = always (tree.give (m 5) (number 7 7))} {l = none_left} {has = false} {xs = []} {rest = nothing_behind} {mc = m 13} [] [] (m 19) [] refl (enters [] [] [] (λ x i. absurd i) (λ i t. passes_none) (λ i t. no_local) none_absent (λ x e f. absurd (none_some f)) (λ x y e. absurd (none_some e)))
      (both_do (prints (builds tt no_operands)) (both_do
      (opens {e = number 7 7} {e' = number 7 7} {f = λ e. tree.give (m 5) e} {f' = λ e. tree.give (m 5) (tree.build (m 8) (tree.variant_of 2 0) (tree.operand_and 0 e tree.no_operand))} 0 0 (omega arith) (leaves_value refl (λ k h c x i. absurd i)) (builds tt no_operands)) both_done))
      (end_never (λ h a. never _ h a)) (λ e f. absurd (not_tail e f))
      (matches_jumps {Ji = jumps_by (with_value 0)} (record {
        all_dead = λ x y e. absurd (none_some e);
        no_loops = refl;
        jumps_on = λ n again p e. absurd (none_some e);
        returns_on = (refl, value_arm (none_seen 8) (receives_and receives_none) takes_read picks_here);
      }))
      (hands_none {g = λ b. b}))
      (ends_in (gives refl units)));
}

always_entries : (f : ℕ) → LikeEntry items (calls_of items (a_turn false) [] always_step) (a_turn false) (element always_program.functions f) (element always_with.functions (items f))
always_entries zero = functions (asking_alike always_step)
always_entries (suc zero) = functions always_alike
always_entries (suc (suc f)) = neither tt tt

pub always_with_call : WithCall always_program always_with always_step
always_with_call = record { items = items; strays = false; units = []; are_units = λ f i. absurd i; alike = record { all = always_entries; mains = refl }; stands = refl }

always_text_run : run always_program [] 2 ≡ record { printed = codes "5\n7\n"; end = End.Ended }
unfolding value below_level digits after bind result_of decided tested closed took bound begun take_turn passed returned with_arguments
always_text_run = refl

always_answer_run : run always_with [] 3 ≡ record { printed = codes "5\n7\n"; end = End.Ended }
unfolding value below_level digits after bind result_of decided tested closed took bound begun take_turn passed returned with_arguments
always_answer_run = refl
