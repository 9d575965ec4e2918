-- A program, and one in which a statement that returns a value out of its function became the call of a new one whose result says so; both
-- runs are computed.
use Rattle.std.proofs.Common.{◌≡◌, ℕ, zero, suc, false, true, [], ◌∷◌, Some, None, refl, arith}
use Rattle.std.specs.Prelude.{codes}
use Rattle.std.specs.Fmt.{digits}
use Rattle.rx_meaning.specs.declared.outcome.End.{End}
use Rattle.rx_typed.specs.Tree as tree
use Rattle.rx_typed.specs.Tree.{Exp, Arms, Body, Function, own}
use Rattle.rx_meaning.specs.Values.{element}
use Rattle.rx_meaning.specs.Results.{bind, after, result_of}
use Rattle.rx_meaning.specs.Patterns.{decided, tested, closed, bound, took, begun}
use Rattle.rx_meaning.specs.Expressions.{value, take_turn, passed, returned, with_arguments, below_level}
use Rattle.rx_meaning.specs.Programs.{Program, run}
use Rattle.rx_engine_simulation.specs.Places.{no_steps, of_temporary}
use Rattle.rx_engine_simulation.specs.Binders.{no_param, no_binding, no_test, test_and}
use Rattle.rx_engine_simulation.specs.Jumps.{with_value, Jumping}
use Rattle.rx_engine_simulation.specs.Like.{opens, opens_in, builds, units, calls, prints, blocks, chooses, gives, no_operands, of_values, no_arms, arms_and, ends_in, runs_on}
use Rattle.rx_engine_simulation.specs.Programs.{LikeFunction, LikeEntry, functions, neither}
use Rattle.rx_engine_simulation.specs.Variants.{leaves_value, value_arm}
use Rattle.rx_engine_simulation.specs.Passing.{New, passes_none, no_local, none_absent}
use Rattle.rx_engine_simulation.specs.Arrivals.{none_ready}
use Rattle.rx_engine_simulation.specs.Packing.{takes_read, takes_none, gives_variant, gives_unit, receives_none, receives_and, picks_here, picks_later}
use Rattle.rx_engine_simulation.specs.Handing.{drops, redeclares_none}
use Rattle.rx_engine_simulation.specs.Blocks.{Stretch, done, does_then, before}
use Rattle.rx_engine_simulation.specs.Stretches.{both_done, both_do}
use Rattle.rx_engine_simulation.specs.Endings.{none_left, end_gives}
use Rattle.rx_engine_simulation.specs.Statements.{body_of, enters, matches, goes_on, hands_on, statements_become_call}
use Rattle.rx_engine_simulation.specs.Called.{calls_of, a_turn, WithCall}
use Rattle.rx_engine_simulation.proofs.ExamplesOfStatements.{not_tail, m, number, none_some, none_seen}

-- if true { .. }
abbrev stretch : Exp → Stretch
stretch e = does_then (tree.choose (m 2) (tree.of_value (tree.build (m 3) (tree.constant (tree.truth true)) tree.no_operand)) (tree.arm_and (tree.exactly 4 (tree.truth true)) e (tree.arm_and tree.any (tree.unit (m 6)) tree.no_arm))) done

abbrev rest : Body
rest = tree.ends (tree.give (m 9) (number 10 0))

-- fn main() { println!("{}", find()); }
abbrev main : Function
main = record { params = []; body = tree.block (m 1) (tree.runs (tree.print (m 2) (tree.call (m 3) 1 tree.no_operand)) (tree.ends (tree.give (m 1) (tree.unit (m 1))))) }

abbrev find_with : Body → Function
find_with b = record { params = []; body = tree.block (m 9) b }

-- fn find() -> i64 { if true { return 7; } 0 }
abbrev find_text : Function
find_text = find_with (before (stretch (tree.give (m 5) (number 7 7))) rest)

abbrev arms_of : Arms
arms_of =
    tree.arm_and (tree.variant 17 2 true 0 tree.no_part) (tree.unit (m 11))
    (tree.arm_and (tree.variant 18 2 true 1 (tree.part_and 0 (tree.bind 20 8 (tree.by_value false)) tree.no_part)) (tree.give (m 12) (tree.read (m 21) true (own 8))) tree.no_arm)

abbrev matched : Body → Body
matched b = tree.runs (tree.choose (m 22) (tree.of_value (tree.call (m 13) 2 tree.no_operand)) arms_of) b

-- fn find() -> i64 { match step() { Exit::Next => (), Exit::Return(out_0) => return out_0 } 0 }
abbrev find_answer : Function
find_answer = find_with (matched rest)

-- fn step() -> Exit { if true { return Exit::Return(7); } Exit::Next }
abbrev new : New
new = record {
  number = 2;
  function = record { params = []; body = body_of (m 19) [] (stretch (tree.give (m 5) (tree.build (m 8) (tree.variant_of 2 1) (tree.operand_and 0 (number 7 7) tree.no_operand)))) (tree.ends (tree.give (m 19) (tree.build (m 14) (tree.variant_of 2 0) tree.no_operand))) };
}

abbrev text : Program
text = record { functions = Some main ∷ Some find_text ∷ []; main = 0 }

abbrev answer : Program
answer = record { functions = Some main ∷ Some find_answer ∷ Some new.function ∷ []; main = 0 }

abbrev items : ℕ → ℕ
items zero = 0
items (suc zero) = 1
items (suc (suc f)) = suc (suc (suc f))

abbrev jumps_inside : Jumping
jumps_inside = record { loops = []; leaving = λ l again. None; returning = with_value 1; dead = [] }

main_alike : LikeFunction items (calls_of items (a_turn false) [] new) (a_turn false) main main
main_alike = record {
  about = record { special = []; asked = [] };
  untouched = λ a h x i. absurd i;
  inside = [];
  params = no_param;
  body = blocks (runs_on 0 0 (omega arith) (prints (calls no_operands)) (ends_in (gives refl units)));
}

find_alike : LikeFunction items (calls_of items (a_turn false) [] new) (a_turn false) find_text find_answer
find_alike = record {
  about = record { special = []; asked = [] };
  untouched = λ a h x i. absurd i;
  inside = [];
  params = no_param;
  body = blocks (opens_in {Ra = []} {b = rest} {b' = rest} {f = λ b. before (stretch (tree.give (m 5) (number 7 7))) b} {f' = matched} 1 0 (omega arith)
      (statements_become_call {l = none_left} {mc = m 13} [] [] (m 19) [] refl (enters [] [] [] (λ x i. absurd i) (λ i t. passes_none) (λ i t. no_local) none_absent (λ x e f. absurd (none_some f)) (λ x y e. absurd (none_some e)))
      (both_do (chooses 0 0 (omega arith) (of_values (builds tt no_operands)) (arms_and [] (test_and (of_temporary no_steps) refl no_test) no_binding
      (opens {e = number 7 7} {e' = number 7 7} {f = λ e. tree.give (m 5) e} {f' = λ e. tree.give (m 5) (tree.build (m 8) (tree.variant_of 2 1) (tree.operand_and 0 e tree.no_operand))} 0 0 (omega arith) (leaves_value refl (λ k h c x i. absurd i)) (builds tt no_operands))
      (arms_and [] no_test no_binding units no_arms))) both_done)
      (end_gives none_ready (gives_variant takes_none)) (λ e f. absurd (not_tail e f)) (matches {Ji = jumps_inside} (record {
        all_dead = λ x y e. absurd (none_some e);
        no_loops = refl;
        jumps_on = λ n again p e. absurd (none_some e);
        returns_on = (refl, value_arm (none_seen 8) (receives_and receives_none) takes_read (picks_later refl picks_here));
      }) picks_here receives_none tt gives_unit refl)
      (hands_on [] [] [] (λ x e f. absurd (none_some f)) (λ x y e. absurd (none_some e)) drops redeclares_none goes_on (λ x e f. f) (λ x e f. f)))
      (ends_in (gives refl (builds tt no_operands))));
}

entries : (f : ℕ) → LikeEntry items (calls_of items (a_turn false) [] new) (a_turn false) (element text.functions f) (element answer.functions (items f))
entries zero = functions main_alike
entries (suc zero) = functions find_alike
entries (suc (suc f)) = neither tt tt

pub is_with_call : WithCall text answer new
is_with_call = record { items = items; strays = false; units = []; are_units = λ f i. absurd i; alike = record { all = entries; mains = refl }; stands = refl }

text_run : run text [] 2 ≡ record { printed = codes "7\n"; end = End.Ended }
unfolding value below_level digits after bind result_of decided tested closed took bound begun take_turn passed returned with_arguments
text_run = refl

-- the call takes a turn
answer_cut : run answer [] 2 ≡ record { printed = []; end = End.Running }
unfolding value below_level digits after bind result_of decided tested closed took bound begun take_turn passed returned with_arguments
answer_cut = refl

answer_run : run answer [] 3 ≡ record { printed = codes "7\n"; end = End.Ended }
unfolding value below_level digits after bind result_of decided tested closed took bound begun take_turn passed returned with_arguments
answer_run = refl
