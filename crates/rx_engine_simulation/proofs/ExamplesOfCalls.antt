-- A program, and one in which a call that lends a variable stands for an expression of it; both runs are computed.
use Rattle.std.proofs.Common.{◌≡◌, ℕ, zero, suc, pos, Bool, true, false, nat_eq, if◌then◌else◌, [], ◌∷◌, Some, None, refl, ap, arith}
use Rattle.std.specs.Prelude.{codes}
use Rattle.std.specs.Fmt.{digits}
use Rattle.rx_core.specs.declared.types.Kind.{Kind}
use Rattle.rx_meaning.specs.declared.outcome.End.{End}
use Rattle.rx_typed.specs.Tree as tree
use Rattle.rx_typed.specs.Tree.{Mark, Exp, Function, own, under}
use Rattle.rx_meaning.specs.Values.{element}
use Rattle.rx_meaning.specs.Results.{bind, after, result_of}
use Rattle.rx_meaning.specs.Patterns.{decided, tested, closed, bound, took, begun}
use Rattle.rx_meaning.specs.Expressions.{value, take_turn, passed, returned, with_arguments, below_level}
use Rattle.rx_meaning.specs.Programs.{Program, run}
use Rattle.rx_core.specs.declared.types.Step.{Step}
use Rattle.rx_engine_simulation.specs.Sights.{shut, plain, special, through, Sight, sight, sight_of, IsNew}
use Rattle.rx_engine_simulation.specs.Places.{behind, no_steps}
use Rattle.rx_engine_simulation.specs.Binders.{no_param, new_plain, takes_none, no_binding, binding_and}
use Rattle.rx_engine_simulation.specs.Like.{opens, reads, builds, units, prints, blocks, gives, no_operands, of_values, ends_in, runs_on, lets_in}
use Rattle.rx_engine_simulation.specs.Programs.{LikeFunction, LikeEntry, functions, neither}
use Rattle.rx_engine_simulation.specs.Passing.{New, passes_none, passes_reference, none_absent}
use Rattle.rx_engine_simulation.specs.Statements.{none_elsewhere}
use Rattle.rx_engine_simulation.specs.Called.{becomes_call, calls_of, a_turn, WithCall}

abbrev m : ℕ → Mark
m n = record { node = n; typ = None }

abbrev seven : Exp
seven = tree.build (m 4) (tree.constant (tree.whole_number Kind.I64 (pos 7))) tree.no_operand

-- fn main() { let a = 7; println!("{}", a); }
abbrev main_text : Function
main_text = record { params = []; body = tree.block (m 1) (tree.lets 2 (tree.bind 3 0 (tree.by_value false)) (tree.of_value seven) (tree.runs (tree.print (m 5) (tree.read (m 6) false (own 0))) (tree.ends (tree.give (m 1) (tree.unit (m 1)))))) }

abbrev call_answer : Exp
call_answer = tree.call (m 7) 1 (tree.operand_and 0 (tree.borrow (m 8) false (own 0)) tree.no_operand)

-- fn main() { let a = 7; println!("{}", seen(&a)); }
abbrev main_answer : Function
main_answer = record { params = []; body = tree.block (m 1) (tree.lets 2 (tree.bind 3 0 (tree.by_value false)) (tree.of_value seven) (tree.runs (tree.print (m 5) call_answer) (tree.ends (tree.give (m 1) (tree.unit (m 1)))))) }

-- fn seen(a: &i64) -> i64 { *a }
abbrev new : New
new = record { number = 1; function = record { params = record { node = 9; variable = 5 } ∷ []; body = tree.block (m 7) (tree.ends (tree.give (m 7) (tree.read (m 6) false (under (own 5) (Step.Deref false ∷ []))))) } }

abbrev text : Program
text = record { functions = Some main_text ∷ []; main = 0 }

abbrev answer : Program
answer = record { functions = Some main_answer ∷ Some new.function ∷ []; main = 0 }

abbrev items : ℕ → ℕ
items zero = 0
items (suc f) = suc (suc f)

none_some : {A : Type 0} {a : A} → None ≡ Some a → ⊥
none_some e = cc

some_same : {A : Type 0} {a b : A} → Some a ≡ Some b → a ≡ b
some_same e = cc

not_special : plain shut ≡ special → ⊥
not_special e = cc

none_seen : (y : ℕ) → IsNew [] y
none_seen y z e f g = none_some f

main_alike : LikeFunction items (calls_of items (a_turn false) [] new) (a_turn false) main_text main_answer
main_alike = record {
  about = record { special = []; asked = [] };
  untouched = λ a h x i. absurd i;
  inside = [];
  params = no_param;
  body = blocks (lets_in ((0, sight 0 (plain shut)) ∷ []) 0 1 (omega arith) (of_values (builds tt no_operands))
      (binding_and (plain shut) takes_none no_steps (new_plain shut tt) refl (none_seen 0) no_binding)
      (runs_on 1 0 (omega arith)
      (prints (opens {e = tree.unit (m 1)} {e' = tree.unit (m 1)} {f = λ x. tree.read (m 6) false (own 0)} {f' = λ x. call_answer} 1 0 (omega arith)
      (becomes_call [] ((0, sight 5 (through shut false)) ∷ []) ((0, sight 5 (through shut false)) ∷ []) refl (none_elsewhere none_special) (λ x i. absurd i)
      (λ t. passes_reference shut refl (λ e. absurd (cc)) refl (none_seen 5) passes_none) none_absent covers (reads (behind shut false refl tt no_steps))) units))
      (ends_in (gives refl units))));
}
  where
    none_special : (x y : ℕ) → sight_of ((0, sight 0 (plain shut)) ∷ []) x ≡ Some (sight y special) → ⊥
    none_special x y e = by (nat_eq x 0) e
      where
        by : (b : Bool) → (if b then Some (sight 0 (plain shut)) else None) ≡ Some (sight y special) → ⊥
        by true f = not_special (ap (λ (e : Sight). e.how) (some_same f))
        by false f = none_some f

    covers : (x : ℕ) (e : Sight) → sight_of ((0, sight 0 (plain shut)) ∷ []) x ≡ Some e → (f : Sight) × (sight_of ((0, sight 5 (through shut false)) ∷ []) x ≡ Some f)
    covers x e f = by (nat_eq x 0) f
      where
        by : (b : Bool) → (if b then Some (sight 0 (plain shut)) else None) ≡ Some e → (f : Sight) × ((if b then Some (sight 5 (through shut false)) else None) ≡ Some f)
        by true f = (sight 5 (through shut false), refl)
        by false f = absurd (none_some f)

entries : (f : ℕ) → LikeEntry items (calls_of items (a_turn false) [] new) (a_turn false) (element text.functions f) (element answer.functions (items f))
entries zero = functions main_alike
entries (suc f) = neither tt tt

pub is_with_call : WithCall text answer new
is_with_call = record { items = items; strays = false; units = []; are_units = λ f i. absurd i; alike = record { all = entries; mains = refl }; stands = refl }

text_run : run text [] 1 ≡ record { printed = codes "7\n"; end = End.Ended }
unfolding value below_level digits after bind result_of decided tested closed took bound begun take_turn passed returned with_arguments
text_run = refl

-- the call takes a turn
answer_cut : run answer [] 1 ≡ record { printed = []; end = End.Running }
unfolding value below_level digits after bind result_of decided tested closed took bound begun take_turn passed returned with_arguments
answer_cut = refl

answer_run : run answer [] 2 ≡ record { printed = codes "7\n"; end = End.Ended }
unfolding value below_level digits after bind result_of decided tested closed took bound begun take_turn passed returned with_arguments
answer_run = refl
