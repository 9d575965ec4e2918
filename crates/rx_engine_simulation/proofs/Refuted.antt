-- Programs that are not what a text is with the call of a new function: what is so runs as the text, and these don't. In one a variable
-- that is handed back is not assigned, in one `continue` became the end, one passes an argument for another, and in one a pass of a loop
-- has a call of which its turn gives no credit.
use Rattle.std.proofs.Common.{◌≡◌, ℕ, true, false, List, [], ◌∷◌, ◌++◌, length, suc, Some, refl, sym, ap, ◌∙◌, subst, arith, ⊎_elim}
use Rattle.std.proofs.lemmas.List.{append-nil}
use Rattle.std.specs.Prelude.{codes}
use Rattle.std.specs.Fmt.{digits}
use Rattle.rx_tree.specs.declared.tree.BinaryOp.{BinaryOp}
use Rattle.rx_meaning.specs.declared.outcome.End.{End}
use Rattle.rx_meaning.specs.declared.outcome.Outcome.{Outcome}
use Rattle.rx_typed.specs.Tree as tree
use Rattle.rx_typed.specs.Tree.{Exp, Arms, Body, Function, own}
use Rattle.rx_meaning.specs.Results.{bind, after, result_of}
use Rattle.rx_meaning.specs.Patterns.{decided, tested, closed, bound, took, begun}
use Rattle.rx_meaning.specs.Expressions.{value, take_turn, passed, returned, with_arguments, below_level}
use Rattle.rx_meaning.specs.Programs.{Program, run, UpTo}
use Rattle.rx_engine_simulation.specs.Passing.{New}
use Rattle.rx_engine_simulation.specs.Called.{WithCall}
use Rattle.rx_engine_simulation.proofs.Called.{answer_to_text, text_to_answer}
use Rattle.rx_engine_simulation.proofs.Astray.{right_finds, never_strays}
use Rattle.rx_engine_simulation.proofs.ExamplesOfStatements.{m, number}

abbrev printing : List ℕ → End → Outcome
printing w e = record { printed = w; end = e }

-- the one has printed what the other doesn't begin with
printed_otherwise : (a b : List ℕ) (e f : End) → ((c : List ℕ) → b ≡ a ++ c → ⊥) → UpTo (printing a e) (printing b f) → ⊥
printed_otherwise a b e f n k = ⊎_elim (λ g. n [] (ap (λ (o : Outcome). o.printed) (sym g) ∙ sym (append-nil a))) (λ g. n g.1.0 g.1.1) k

ended_apart : End.Ended ≡ End.Wrong → ⊥
ended_apart e = cc

running_apart : End.Running ≡ End.Wrong → ⊥
running_apart e = cc

not_wrong : {o : Outcome} {w : List ℕ} {e : End} → (e ≡ End.Wrong → ⊥) → o ≡ printing w e → o.end ≡ End.Wrong → ⊥
not_wrong n k f = n (sym (ap (λ (o : Outcome). o.end) k) ∙ f)

abbrev first_of : List ℕ → ℕ
first_of [] = 0
first_of (n ∷ l) = n

abbrev main_of : Body → Function
main_of b = record { params = []; body = tree.block (m 1) b }

abbrev ended : Body
ended = tree.ends (tree.give (m 1) (tree.unit (m 1)))

abbrev show : ℕ → Body
show x = tree.runs (tree.print (m 7) (tree.read (m 8) false (own x))) ended

abbrev alone : Function → Program
alone f = record { functions = Some f ∷ []; main = 0 }

abbrev beside : Function → New → Program
beside f N = record { functions = Some f ∷ Some N.function ∷ []; main = 0 }

-- ---- a variable is not assigned

abbrev with_seven : Body → Body
with_seven b = tree.lets 2 (tree.bind 3 0 (tree.by_value true)) (tree.of_value (number 4 7)) b

abbrev add : ℕ → Exp
add x = tree.update (m 5) BinaryOp.Add (own x) (number 6 1)

-- fn main() { let mut a = 7; a += 1; println!("{}", a); }
abbrev adding : Function
adding = main_of (with_seven (tree.runs (add 0) (show 0)))

-- fn main() { let mut a = 7; next(a); println!("{}", a); }
abbrev not_assigned : Function
not_assigned = main_of (with_seven (tree.runs (tree.call (m 10) 1 (tree.operand_and 0 (tree.read (m 11) true (own 0)) tree.no_operand)) (show 0)))

-- fn next(mut a: i64) -> i64 { a += 1; a }
abbrev next : New
next = record { number = 1; function = record { params = record { node = 12; variable = 5 } ∷ []; body = tree.block (m 13) (tree.runs (add 5) (tree.ends (tree.give (m 13) (tree.read (m 14) true (own 5))))) } }

adding_run : run (alone adding) [] 2 ≡ printing (codes "8\n") End.Ended
unfolding value below_level digits after bind result_of decided tested closed took bound begun take_turn passed returned with_arguments
adding_run = refl

not_assigned_run : run (beside not_assigned next) [] 2 ≡ printing (codes "7\n") End.Ended
unfolding value below_level digits after bind result_of decided tested closed took bound begun take_turn passed returned with_arguments
not_assigned_run = refl

pub an_out_is_assigned : WithCall (alone adding) (beside not_assigned next) next → ⊥
an_out_is_assigned w =
    printed_otherwise (codes "7\n") (codes "8\n") End.Ended End.Ended (λ c e. let f : 56 ≡ 55 = ap first_of e in absurd (omega (arith, f)))
    (subst (λ o. UpTo o (printing (codes "8\n") End.Ended)) not_assigned_run (subst (λ o. UpTo (run (beside not_assigned next) [] 2) o) adding_run (never_strays w.strays (alone adding) (beside not_assigned next) [] 2 2 (right_finds (beside not_assigned next) [] 2 (not_wrong ended_apart not_assigned_run)) (answer_to_text (alone adding) (beside not_assigned next) next w [] 2))))

-- ---- `continue` became the end

abbrev perhaps : Exp → Exp
perhaps e = tree.choose (m 20) (tree.of_value (tree.build (m 21) (tree.constant (tree.truth true)) tree.no_operand)) (tree.arm_and (tree.exactly 22 (tree.truth true)) e (tree.arm_and tree.any (tree.unit (m 23)) tree.no_arm))

abbrev looping : Exp → Function
looping e = main_of (tree.runs (tree.loop (m 24) 0 (tree.block (m 25) (tree.runs e (tree.runs (tree.print (m 26) (number 27 7)) (tree.ends (tree.unit (m 25))))))) ended)

-- fn main() { loop { if true { continue } println!("{}", 7); } }
abbrev continuing : Function
continuing = looping (perhaps (tree.jump (m 28) 0 true))

abbrev arms_of : Arms
arms_of = tree.arm_and (tree.variant 29 2 true 0 tree.no_part) (tree.unit (m 30)) (tree.arm_and (tree.variant 31 2 true 1 tree.no_part) (tree.unit (m 32)) tree.no_arm)

-- fn main() { loop { match step() { Exit::Next => {}, Exit::Continue_0 => {} } println!("{}", 7); } }
abbrev going_on : Function
going_on = looping (tree.choose (m 33) (tree.of_value (tree.call (m 34) 1 tree.no_operand)) arms_of)

-- fn step() -> Exit { if true { return Exit::Continue_0; } Exit::Next }
abbrev step : New
step = record {
  number = 1;
  function = record { params = []; body = tree.block (m 35) (tree.runs (perhaps (tree.give (m 28) (tree.build (m 36) (tree.variant_of 2 1) tree.no_operand))) (tree.ends (tree.give (m 35) (tree.build (m 37) (tree.variant_of 2 0) tree.no_operand)))) };
}

continuing_run : run (alone continuing) [] 3 ≡ printing [] End.Running
unfolding value below_level digits after bind result_of decided tested closed took bound begun take_turn passed returned with_arguments
continuing_run = refl

going_on_run : run (beside going_on step) [] 3 ≡ printing (codes "7\n") End.Running
unfolding value below_level digits after bind result_of decided tested closed took bound begun take_turn passed returned with_arguments
going_on_run = refl

pub a_continue_is_no_end : WithCall (alone continuing) (beside going_on step) step → ⊥
a_continue_is_no_end w =
    printed_otherwise (codes "7\n") [] End.Running End.Running (λ c e. let f : 0 ≡ suc (suc (length c)) = ap length e in absurd (omega (arith, f)))
    (subst (λ o. UpTo o (printing [] End.Running)) going_on_run (subst (λ o. UpTo (run (beside going_on step) [] 3) o) continuing_run (never_strays w.strays (alone continuing) (beside going_on step) [] 3 3 (right_finds (beside going_on step) [] 3 (not_wrong running_apart going_on_run)) (answer_to_text (alone continuing) (beside going_on step) step w [] 3))))

-- ---- one argument for another

-- fn main() { let a = 7; let b = 8; println!("{}", ..); }
abbrev two : Exp → Function
two e = main_of (with_seven (tree.lets 40 (tree.bind 41 1 (tree.by_value false)) (tree.of_value (number 42 8)) (tree.runs (tree.print (m 7) e) ended)))

-- same(b)
abbrev other_argument : Exp
other_argument = tree.call (m 43) 1 (tree.operand_and 0 (tree.read (m 44) false (own 1)) tree.no_operand)

-- fn same(a: i64) -> i64 { a }
abbrev same : New
same = record { number = 1; function = record { params = record { node = 45; variable = 5 } ∷ []; body = tree.block (m 46) (tree.ends (tree.give (m 46) (tree.read (m 47) false (own 5)))) } }

two_run : run (alone (two (tree.read (m 8) false (own 0)))) [] 2 ≡ printing (codes "7\n") End.Ended
unfolding value below_level digits after bind result_of decided tested closed took bound begun take_turn passed returned with_arguments
two_run = refl

other_run : run (beside (two other_argument) same) [] 2 ≡ printing (codes "8\n") End.Ended
unfolding value below_level digits after bind result_of decided tested closed took bound begun take_turn passed returned with_arguments
other_run = refl

pub an_argument_is_its_own : WithCall (alone (two (tree.read (m 8) false (own 0)))) (beside (two other_argument) same) same → ⊥
an_argument_is_its_own w =
    printed_otherwise (codes "8\n") (codes "7\n") End.Ended End.Ended (λ c e. let f : 55 ≡ 56 = ap first_of e in absurd (omega (arith, f)))
    (subst (λ o. UpTo o (printing (codes "7\n") End.Ended)) other_run
    (subst (λ o. UpTo (run (beside (two other_argument) same) [] 2) o) two_run (never_strays w.strays (alone (two (tree.read (m 8) false (own 0)))) (beside (two other_argument) same) [] 2 2 (right_finds (beside (two other_argument) same) [] 2 (not_wrong ended_apart other_run)) (answer_to_text (alone (two (tree.read (m 8) false (own 0)))) (beside (two other_argument) same) same w [] 2))))

-- ---- a pass has two calls

-- fn main() { loop { idle(); idle(); println!("{}", 7); } }
abbrev idling : Function
idling = looping (tree.block (m 50) (tree.runs (tree.call (m 51) 1 tree.no_operand) (tree.runs (tree.call (m 52) 1 tree.no_operand) (tree.ends (tree.unit (m 50))))))

-- fn main() { loop { (); println!("{}", 7); } }
abbrev passing : Function
passing = looping (tree.unit (m 53))

-- fn idle() {}
abbrev idle : New
idle = record { number = 1; function = record { params = []; body = tree.block (m 54) (tree.ends (tree.give (m 54) (tree.unit (m 54)))) } }

passing_run : run (alone passing) [] 4 ≡ printing (codes "7\n7\n7\n") End.Running
unfolding value below_level digits after bind result_of decided tested closed took bound begun take_turn passed returned with_arguments
passing_run = refl

idling_run : run (beside idling idle) [] 8 ≡ printing (codes "7\n7\n") End.Running
unfolding value below_level digits after bind result_of decided tested closed took bound begun take_turn passed returned with_arguments
idling_run = refl

pub a_pass_has_one_call : WithCall (alone passing) (beside idling idle) idle → ⊥
a_pass_has_one_call w =
    printed_otherwise (codes "7\n7\n7\n") (codes "7\n7\n") End.Running End.Running (λ c e. let f : 4 ≡ suc (suc (suc (suc (suc (suc (length c)))))) = ap length e in absurd (omega (arith, f)))
    (subst (λ o. UpTo o (printing (codes "7\n7\n") End.Running)) passing_run (subst (λ o. UpTo (run (alone passing) [] 4) o) idling_run (never_strays w.strays (alone passing) (beside idling idle) [] 4 8 (right_finds (beside idling idle) [] 8 (not_wrong running_apart idling_run)) (text_to_answer (alone passing) (beside idling idle) idle w [] 4))))
