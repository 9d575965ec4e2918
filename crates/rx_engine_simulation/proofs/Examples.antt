-- A program and the same with other numbers of nodes, items, loops and variables: it is renamed, and both runs are computed.
use Rattle.std.proofs.Common.{◌≡◌, ℕ, zero, suc, pos, false, [], ◌∷◌, Some, None, refl, arith}
use Rattle.std.specs.Prelude.{codes}
use Rattle.std.specs.Fmt.{digits}
use Rattle.rx_core.specs.declared.types.Kind.{Kind}
use Rattle.rx_meaning.specs.declared.outcome.End.{End}
use Rattle.rx_typed.specs.Tree as tree
use Rattle.rx_typed.specs.Tree.{Mark, Function, own}
use Rattle.rx_meaning.specs.Values.{element}
use Rattle.rx_meaning.specs.Results.{bind, after, result_of}
use Rattle.rx_meaning.specs.Patterns.{decided, tested, closed, bound, took, begun}
use Rattle.rx_meaning.specs.Expressions.{value, take_turn, passed, returned, with_arguments, below_level}
use Rattle.rx_meaning.specs.Programs.{Program, run}
use Rattle.rx_engine_simulation.specs.Sights.{shut, plain, sight, IsNew}
use Rattle.rx_engine_simulation.specs.Places.{direct, no_steps}
use Rattle.rx_engine_simulation.specs.Binders.{new_plain, no_param, param_and, takes_none, no_binding, binding_and}
use Rattle.rx_engine_simulation.specs.Openings.{no_openings}
use Rattle.rx_engine_simulation.specs.Like.{reads, builds, units, calls, prints, blocks, loops, stays, gives, no_operands, operands_and, of_values, ends_in, runs_on, lets_in}
use Rattle.rx_engine_simulation.specs.Programs.{LikeFunction, LikeEntry, functions, neither, Renamed}

abbrev m : ℕ → Mark
m n = record { node = n; typ = None }

-- fn main() { let y = 7; loop { show(y); break } }
abbrev main_text : Function
main_text = record {
  params = [];
  body = tree.block (m 1) (tree.lets 2 (tree.bind 3 0 (tree.by_value false)) (tree.of_value (tree.build (m 4) (tree.constant (tree.whole_number Kind.I64 (pos 7))) tree.no_operand))
      (tree.runs (tree.loop (m 5) 0 (tree.block (m 6) (tree.runs (tree.call (m 7) 1 (tree.operand_and 0 (tree.read (m 8) false (own 0)) tree.no_operand)) (tree.ends (tree.jump (m 9) 0 false))))) (tree.ends (tree.give (m 1) (tree.unit (m 1))))));
}

-- fn show(x: i64) { println!("{}", x); }
abbrev show_text : Function
show_text = record { params = record { node = 1; variable = 0 } ∷ []; body = tree.block (m 2) (tree.runs (tree.print (m 3) (tree.read (m 4) false (own 0))) (tree.ends (tree.give (m 2) (tree.unit (m 2))))) }

abbrev main_answer : Function
main_answer = record {
  params = [];
  body = tree.block (m 11) (tree.lets 12 (tree.bind 13 5 (tree.by_value false)) (tree.of_value (tree.build (m 14) (tree.constant (tree.whole_number Kind.I64 (pos 7))) tree.no_operand))
      (tree.runs (tree.loop (m 15) 4 (tree.block (m 16) (tree.runs (tree.call (m 17) 0 (tree.operand_and 0 (tree.read (m 18) false (own 5)) tree.no_operand)) (tree.ends (tree.jump (m 19) 4 false))))) (tree.ends (tree.give (m 11) (tree.unit (m 11))))));
}

abbrev show_answer : Function
show_answer = record { params = record { node = 21; variable = 3 } ∷ []; body = tree.block (m 22) (tree.runs (tree.print (m 23) (tree.read (m 24) false (own 3))) (tree.ends (tree.give (m 22) (tree.unit (m 22))))) }

abbrev text : Program
text = record { functions = Some main_text ∷ Some show_text ∷ []; main = 0 }

abbrev answer : Program
answer = record { functions = Some show_answer ∷ None ∷ Some main_answer ∷ []; main = 2 }

abbrev items : ℕ → ℕ
items zero = 2
items (suc zero) = 0
items (suc (suc f)) = suc (suc (suc f))

none_some : {A : Type 0} {a : A} → None ≡ Some a → ⊥
none_some e = cc

-- no variable of the answer stands for one yet
none_seen : (y : ℕ) → IsNew [] y
none_seen y z e f g = none_some f

main_alike : LikeFunction items no_openings (record { turns = 0; strays = false }) main_text main_answer
main_alike = record {
  about = record { special = []; asked = [] };
  untouched = λ a h x i. absurd i;
  inside = [];
  params = no_param;
  body = blocks (lets_in ((0, sight 5 (plain shut)) ∷ []) 0 0 (omega arith) (of_values (builds tt no_operands))
      (binding_and (plain shut) takes_none no_steps (new_plain shut tt) refl (none_seen 5) no_binding)
      (runs_on 0 0 (omega arith)
      (loops (λ n e. none_some e) refl refl (blocks (runs_on 0 0 (omega arith) (calls (operands_and 0 0 (omega arith) (reads (direct (plain shut) refl tt tt no_steps)) no_operands)) (ends_in (stays refl)))))
      (ends_in (gives refl units))));
}

show_alike : LikeFunction items no_openings (record { turns = 0; strays = false }) show_text show_answer
show_alike = record {
  about = record { special = []; asked = [] };
  untouched = λ a h x i. absurd i;
  inside = (0, sight 3 (plain shut)) ∷ [];
  params = param_and (plain shut) (new_plain shut tt) refl (none_seen 3) no_param;
  body = blocks (runs_on 0 0 (omega arith) (prints (reads (direct (plain shut) refl tt tt no_steps))) (ends_in (gives refl units)));
}

entries : (f : ℕ) → LikeEntry items no_openings (record { turns = 0; strays = false }) (element text.functions f) (element answer.functions (items f))
entries zero = functions main_alike
entries (suc zero) = functions show_alike
entries (suc (suc f)) = neither tt tt

pub is_renamed : Renamed text answer
is_renamed = record { items = items; alike = record { all = entries; mains = refl } }

text_run : run text [] 3 ≡ record { printed = codes "7\n"; end = End.Ended }
unfolding value below_level digits after bind result_of decided tested closed took bound begun take_turn passed returned with_arguments
text_run = refl

answer_run : run answer [] 3 ≡ record { printed = codes "7\n"; end = End.Ended }
unfolding value below_level digits after bind result_of decided tested closed took bound begun take_turn passed returned with_arguments
answer_run = refl
