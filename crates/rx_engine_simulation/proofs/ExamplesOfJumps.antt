-- A program, and one in which a statement that breaks out of a loop became the call of a new function whose result says so; both runs are
-- computed.
use Rattle.std.proofs.Common.{◌≡◌, ℕ, zero, suc, pos, Bool, true, false, nat_eq, if◌then◌else◌, [], ◌∷◌, Option, Some, None, refl, subst, arith}
use Rattle.std.specs.Prelude.{codes}
use Rattle.std.specs.Fmt.{digits}
use Rattle.rx_core.specs.declared.types.Kind.{Kind}
use Rattle.rx_meaning.specs.declared.outcome.End.{End}
use Rattle.rx_typed.specs.Tree as tree
use Rattle.rx_typed.specs.Tree.{Mark, Exp, Arms, Body, Function}
use Rattle.rx_meaning.specs.Values.{element}
use Rattle.rx_meaning.specs.Results.{bind, after, result_of}
use Rattle.rx_meaning.specs.Patterns.{decided, tested, closed, bound, took, begun}
use Rattle.rx_meaning.specs.Expressions.{value, take_turn, passed, returned, with_arguments, below_level}
use Rattle.rx_meaning.specs.Programs.{Program, run}
use Rattle.rx_engine_simulation.specs.Histories.{Facts}
use Rattle.rx_engine_simulation.specs.Places.{no_steps, of_temporary}
use Rattle.rx_engine_simulation.proofs.ExamplesOfStatements.{not_tail}
use Rattle.rx_engine_simulation.specs.Binders.{no_param, no_binding, no_test, test_and}
use Rattle.rx_engine_simulation.specs.Jumps.{Pack, no_return, Jumping, loop_of}
use Rattle.rx_engine_simulation.specs.Like.{opens, opens_in, builds, units, prints, blocks, loops, chooses, gives, no_operands, of_values, no_arms, arms_and, ends_in, runs_on}
use Rattle.rx_engine_simulation.specs.Programs.{Untouched, facts_of, LikeFunction, LikeEntry, functions, neither}
use Rattle.rx_engine_simulation.specs.Variants.{leaves_loop, JumpArm, jump_arm, jumps_alone}
use Rattle.rx_engine_simulation.specs.Passing.{New, passes_none, no_local, none_absent}
use Rattle.rx_engine_simulation.specs.Arrivals.{none_ready}
use Rattle.rx_engine_simulation.specs.Packing.{takes_none, gives_variant, gives_unit, receives_none, picks_here, picks_later}
use Rattle.rx_engine_simulation.specs.Handing.{received_none, puts_none, drops, redeclares_none}
use Rattle.rx_engine_simulation.specs.Blocks.{Stretch, done, does_then, before}
use Rattle.rx_engine_simulation.specs.Stretches.{both_done, both_do}
use Rattle.rx_engine_simulation.specs.Endings.{none_left, end_gives}
use Rattle.rx_engine_simulation.specs.Statements.{body_of, enters, matches, goes_on, hands_on, statements_become_call}
use Rattle.rx_engine_simulation.specs.Called.{calls_of, a_turn, WithCall}

abbrev m : ℕ → Mark
m n = record { node = n; typ = None }

abbrev holds : Exp
holds = tree.build (m 3) (tree.constant (tree.truth true)) tree.no_operand

abbrev seven : Exp
seven = tree.build (m 15) (tree.constant (tree.whole_number Kind.I64 (pos 7))) tree.no_operand

-- println!("{}", 7); if true { .. }
abbrev stretch : Exp → Stretch
stretch e = does_then (tree.print (m 16) seven) (does_then (tree.choose (m 2) (tree.of_value holds) (tree.arm_and (tree.exactly 4 (tree.truth true)) e (tree.arm_and tree.any (tree.unit (m 6)) tree.no_arm))) done)

abbrev breaking : Exp
breaking = tree.jump (m 5) 0 false

-- return Exit::Break_0
abbrev telling : Exp
telling = tree.give (m 5) (tree.build (m 7) (tree.variant_of 2 1) tree.no_operand)

abbrev rest : Body
rest = tree.ends (tree.unit (m 9))

abbrev main_with : Body → Function
main_with b = record { params = []; body = tree.block (m 1) (tree.runs (tree.loop (m 8) 0 (tree.block (m 9) b)) (tree.ends (tree.give (m 1) (tree.unit (m 1))))) }

-- fn main() { loop { println!("{}", 7); if true { break } } }
abbrev main_text : Function
main_text = main_with (before (stretch breaking) rest)

abbrev arms_of : Arms
arms_of = tree.arm_and (tree.variant 17 2 true 0 tree.no_part) (tree.unit (m 11)) (tree.arm_and (tree.variant 18 2 true 1 tree.no_part) (tree.jump (m 12) 0 false) tree.no_arm)

abbrev matched : Body → Body
matched b = tree.runs (tree.choose (m 10) (tree.of_value (tree.call (m 13) 1 tree.no_operand)) arms_of) b

-- fn main() { loop { match step() { Exit::Next => (), Exit::Break_0 => break } } }
abbrev main_answer : Function
main_answer = main_with (matched rest)

-- fn step() -> Exit { println!("{}", 7); if true { return Exit::Break_0 } Exit::Next }
abbrev new : New
new = record { number = 1; function = record { params = []; body = body_of (m 19) [] (stretch telling) (tree.ends (tree.give (m 19) (tree.build (m 14) (tree.variant_of 2 0) tree.no_operand))) } }

abbrev text : Program
text = record { functions = Some main_text ∷ []; main = 0 }

abbrev answer : Program
answer = record { functions = Some main_answer ∷ Some new.function ∷ []; main = 0 }

abbrev items : ℕ → ℕ
items zero = 0
items (suc f) = suc (suc f)

abbrev leaving_by : ℕ → Bool → Option Pack
leaving_by l true = None
leaving_by l false = if nat_eq l 0 then Some (record { variant = 1; outs = [] }) else None

abbrev jumps_inside : Jumping
jumps_inside = record { loops = []; leaving = leaving_by; returning = no_return; dead = [] }

none_some : {A : Type 0} {a : A} → None ≡ Some a → ⊥
none_some e = cc

some_same : {A : Type 0} {a b : A} → Some a ≡ Some b → a ≡ b
some_same e = cc

abbrev Jumps : Facts → Bool → Option ℕ → Pack → Type 0
Jumps V again o p = (mj : Mark) × (k : ℕ) × (o ≡ Some k) × JumpArm V [] (before (stretch breaking) rest) arms_of p (tree.jump mj k again)

jumps_on : (V : Facts) (l : ℕ) (again : Bool) (p : Pack) → leaving_by l again ≡ Some p → Jumps V again (loop_of ((0, 0) ∷ []) l) p
jumps_on V l true p e = absurd (none_some e)
jumps_on V l false p e = by (nat_eq l 0) e
  where
    by : (b : Bool) → (if b then Some (record { variant = 1; outs = [] }) else None) ≡ Some p → Jumps V false (if b then Some 0 else None) p
    by true f = subst (λ p. Jumps V false (Some 0) p) (some_same f) (m 12, 0, refl, jump_arm [] [] [] (λ x i. absurd i) (λ x e f. f) received_none receives_none (picks_later refl picks_here) puts_none (λ x e f. f) jumps_alone)
    by false f = absurd (none_some f)

none_special : Untouched main_text (record { special = []; asked = [] })
none_special a h x i = absurd i

abbrev facts : Facts
facts = facts_of main_text (record { special = []; asked = [] }) none_special

main_alike : LikeFunction items (calls_of items (a_turn false) [] new) (a_turn false) main_text main_answer
main_alike = record {
  about = record { special = []; asked = [] };
  untouched = none_special;
  inside = [];
  params = no_param;
  body = blocks (runs_on 1 0 (omega arith)
      (loops (λ n e. absurd (none_some e)) refl refl (blocks
      (opens_in {Ra = []} {b = rest} {b' = rest} {f = λ b. before (stretch breaking) b} {f' = matched} 1 0 (omega arith)
      (statements_become_call {l = none_left} {mc = m 13} [] [] (m 19) [] refl (enters [] [] [] (λ x i. absurd i) (λ i t. passes_none) (λ i t. no_local) none_absent (λ x e f. absurd (none_some f)) (λ x y e. absurd (none_some e)))
      (both_do (prints (builds tt no_operands)) (both_do (chooses 0 0 (omega arith) (of_values (builds tt no_operands))
      (arms_and [] (test_and (of_temporary no_steps) refl no_test) no_binding (opens {e = tree.unit (m 9)} {e' = tree.unit (m 9)} {f = λ x. breaking} {f' = λ x. telling} 0 0 (omega arith) (leaves_loop (record { variant = 1; outs = [] }) refl none_ready (gives_variant takes_none) (λ h a x i. absurd i)) units) (arms_and [] no_test no_binding units no_arms))) both_done))
      (end_gives none_ready (gives_variant takes_none)) (λ e f. absurd (not_tail e f)) (matches {Ji = jumps_inside} (record { all_dead = λ x y e. absurd (none_some e); no_loops = refl; jumps_on = jumps_on facts; returns_on = tt }) picks_here receives_none tt gives_unit refl)
      (hands_on [] [] [] (λ x e f. absurd (none_some f)) (λ x y e. absurd (none_some e)) drops redeclares_none goes_on (λ x e f. f) (λ x e f. f)))
      (ends_in units))))
      (ends_in (gives refl units)));
}

entries : (f : ℕ) → LikeEntry items (calls_of items (a_turn false) [] new) (a_turn false) (element text.functions f) (element answer.functions (items f))
entries zero = functions main_alike
entries (suc f) = neither tt tt

pub is_with_call : WithCall text answer new
is_with_call = record { items = items; strays = false; units = []; are_units = λ f i. absurd i; alike = record { all = entries; mains = refl }; stands = refl }

text_run : run text [] 2 ≡ record { printed = codes "7\n"; end = End.Ended }
unfolding value below_level digits after bind result_of decided tested closed took bound begun take_turn passed returned with_arguments
text_run = refl

-- the call takes a turn
answer_cut : run answer [] 2 ≡ record { printed = []; end = End.Running }
unfolding value below_level digits after bind result_of decided tested closed took bound begun take_turn passed returned with_arguments
answer_cut = refl

answer_run : run answer [] 3 ≡ record { printed = codes "7\n"; end = End.Ended }
unfolding value below_level digits after bind result_of decided tested closed took bound begun take_turn passed returned with_arguments
answer_run = refl
