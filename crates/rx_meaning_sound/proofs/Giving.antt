-- No action ends a run because a body gave no value; so where no walk of a function leaves it without one, no run does.
use Rattle.std.proofs.Common.{◌≡◌, ℕ, List, ap, ◌∙◌, subst}
use Rattle.rx_typed.specs.PlainTypes.{declarations}
use Rattle.rx_typed.specs.Tree.{Function}
use Rattle.rx_typed.specs.PlainTree.{plain-TypedTree}
use Rattle.rx_lower_walks.specs.Walks.{Among}
use Rattle.rx_typeck_typed.specs.declared.typed.Typed.{Typed}
use Rattle.rx_typeck_typed.specs.declared.typed.TypedFn.{TypedFn}
use Rattle.rx_machine.specs.Functions.{typed_functions}
use Rattle.rx_meaning.specs.Endings.{Ending, wrong, missing_value}
use Rattle.rx_meaning.specs.Values.{Value, State}
use Rattle.rx_meaning.specs.Results.{ends}
use Rattle.rx_meaning.specs.Acting.{plainly}
use Rattle.rx_meaning.specs.Expressions.{Functions}
use Rattle.rx_meaning_keeping.specs.Keeping.{IsFunction}
use Rattle.rx_meaning_keeping.specs.Reaching.{Ends, by_action, without_turns, at_no_function, at_other_number, starts_with_other_number, at_no_arm, at_no_value}
use Rattle.rx_meaning_accepted.proofs.Finding.{Well, act_well}
use Rattle.rx_meaning_covered.specs.Covered.{Answers}
use Rattle.rx_meaning_sound.proofs.Accepted.{function_at}

pub never_without_value : (P : Functions) (m : ℕ) (vs : List Value) (s : State) (e : Ending) → ((f : ℕ) (F : Function) → IsFunction P f F → Answers F) → Ends plainly P m vs s e → e ≡ wrong missing_value → ⊥
never_without_value P m vs s e h (by_action f us s1 w s2 K F a ws K1 t is r fn d walk q) z = let x : Well (ends t (wrong missing_value)) = subst Well (q ∙ ap (λ (y : Ending). ends t y) z) (act_well a.act ws s2) in x
never_without_value P m vs s e h without_turns z = cc
never_without_value P m vs s e h (at_no_function f us s1 w s2 K F n g ts d ws is r fn pr walk unmet) z = cc
never_without_value P m vs s e h (at_other_number f us s1 w s2 K F G n g ts d ws is r fn pr walk gn unmet) z = cc
never_without_value P m vs s e h (starts_with_other_number F fn unmet) z = cc
never_without_value P m vs s e h (at_no_arm f us s1 w s2 K F S l ws is r fn c fits all) z = cc
never_without_value P m vs s e h (at_no_value f F o x fn walk none) z = h f F fn o x walk none

pub all_answer : (t : Typed) → ((g : TypedFn) → Among g t.functions → Answers (plain-TypedTree g.tree)) → (f : ℕ) (F : Function) → IsFunction (typed_functions (declarations t.decls.items) t.functions) f F → Answers F
all_answer t h f F e = let x = function_at (declarations t.decls.items) t.functions f F e in subst (λ (z : Function). Answers z) x.2 (h x.0 x.1)
