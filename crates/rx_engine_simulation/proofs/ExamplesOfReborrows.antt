-- A program, and one in which a call stands for an assignment of it: the reference in one variable is asked for again there, and what the
-- one in another leads to is seen through a shared reference. Both runs are computed; and that of the answer with the first one read.
use Rattle.std.proofs.Common.{◌≡◌, ℕ, zero, suc, pos, Bool, true, false, nat_eq, if◌then◌else◌, List, [], ◌∷◌, ◌++◌, Some, None, refl, sym, ap, ap₂, ◌∙◌, subst, arith, inl, inr}
use Rattle.std.specs.Prelude.{codes, ℤ}
use Rattle.std.specs.Fmt.{digits}
use Rattle.rx_core.specs.declared.types.Kind.{Kind}
use Rattle.rx_core.specs.declared.types.Step.{Step}
use Rattle.rx_meaning.specs.declared.outcome.End.{End}
use Rattle.rx_typed.specs.Tree as tree
use Rattle.rx_typed.specs.Tree.{Mark, Exp, Body, Function, Temporary, own, under}
use Rattle.rx_lower_walks.specs.Actions.{Declare, Write, Action, does}
use Rattle.rx_lower_walks.specs.Orders as orders
use Rattle.rx_lower_walks.specs.Orders.{Exit, Order, order, order_body, order_function}
use Rattle.rx_exits_plan.specs.Coming.{Into, all, in_first, in_second, in_scope}
use Rattle.rx_meaning.specs.Values.{element}
use Rattle.rx_meaning.specs.Results.{bind, after, result_of}
use Rattle.rx_meaning.specs.Patterns.{decided, tested, closed, bound, took, begun}
use Rattle.rx_meaning.specs.Expressions.{value, take_turn, passed, returned, with_arguments, below_level}
use Rattle.rx_meaning.specs.Programs.{Program, run}
use Rattle.rx_engine_simulation.specs.Histories.{put, Written}
use Rattle.rx_engine_simulation.specs.Sights.{shut, free, In, How, plain, special, copied, viewed, absent, Sight, sight, Renaming, sight_of, IsNew}
use Rattle.rx_engine_simulation.specs.Places.{direct, no_steps, derefs}
use Rattle.rx_engine_simulation.specs.Binders.{no_param, param_and, new_plain, takes_none, no_binding, binding_and}
use Rattle.rx_engine_simulation.specs.Like.{opens, reads, borrows, views, builds, units, prints, assigns, calls, blocks, gives, no_operands, operands_and, of_values, ends_in, runs_on, lets_in}
use Rattle.rx_engine_simulation.specs.Programs.{ComesTo, LikeFunction, LikeEntry, functions, neither}
use Rattle.rx_engine_simulation.specs.Passing.{New, reborrow_of, passes_none, passes_reborrow, passes_view, none_absent, absent_and}
use Rattle.rx_engine_simulation.specs.Statements.{none_elsewhere}
use Rattle.rx_engine_simulation.specs.Rereads.{is_read, same_borrow, in_call, in_block, in_operand, in_none, in_value_of, in_run, in_let, RereadsEntry, no_function, in_function, RereadsProgram}
use Rattle.rx_engine_simulation.proofs.Rereads.{self_exp, self_body}
use Rattle.rx_engine_simulation.proofs.Histories.{came}
use Rattle.rx_engine_simulation.proofs.ExamplesOfStatements.{IsLine, line, line_is}
use Rattle.rx_engine_simulation.specs.Called.{becomes_call, calls_of, a_turn, WithCall}

abbrev m : ℕ → Mark
m n = record { node = n; typ = None }

abbrev number : ℕ → ℤ → Exp
number n z = tree.build (m n) (tree.constant (tree.whole_number Kind.I64 z)) tree.no_operand

abbrev deref : ℕ → Exp
deref x = tree.read (m 20) false (under (own x) (Step.Deref true ∷ []))

abbrev lets : ℕ → ℕ → Exp → Body → Body
lets n x e b = tree.lets n (tree.bind (suc n) x (tree.by_value false)) (tree.of_value e) b

-- let mut a = 7; let mut b = 0; let x = &mut b; let z = &mut a; ..; println!("{}", *x);
abbrev main_with : Exp → Function
main_with e = record { params = []; body = tree.block (m 1) (lets 2 0 (number 4 (pos 7)) (lets 5 1 (number 7 (pos 0)) (lets 8 2 (tree.borrow (m 10) true (own 1)) (lets 11 3 (tree.borrow (m 13) true (own 0)) (tree.runs e (tree.runs (tree.print (m 19) (deref 2)) (tree.ends (tree.give (m 1) (tree.unit (m 1)))))))))) }

-- fn look(r: &i64) -> i64 { *r }
abbrev look : Function
look = record { params = record { node = 2; variable = 0 } ∷ []; body = tree.block (m 3) (tree.ends (tree.give (m 3) (tree.read (m 4) false (under (own 0) (Step.Deref false ∷ []))))) }

-- *x = look(z)
abbrev assigned : Exp
assigned = tree.assign (m 14) (under (own 2) (Step.Deref true ∷ [])) (tree.call (m 15) 1 (tree.operand_and 0 (reborrow_of (m 16) false 3 true) tree.no_operand))

-- set(x, z)
abbrev call_answer : Exp
call_answer = tree.call (m 14) 1 (tree.operand_and 0 (reborrow_of (m 15) true 2 true) (tree.operand_and 1 (reborrow_of (m 16) false 3 true) tree.no_operand))

-- fn set(x: &mut i64, z: &i64) { *x = look(z) }
abbrev new : New
new = record {
  number = 1;
  function = record {
    params = record { node = 2; variable = 5 } ∷ record { node = 3; variable = 6 } ∷ [];
    body = tree.block (m 4) (tree.ends (tree.give (m 4) (tree.assign (m 5) (under (own 5) (Step.Deref true ∷ [])) (tree.call (m 6) 2 (tree.operand_and 0 (tree.read (m 7) false (own 6)) tree.no_operand)))));
  };
}

abbrev text : Program
text = record { functions = Some (main_with assigned) ∷ Some look ∷ []; main = 0 }

abbrev answer : Program
answer = record { functions = Some (main_with call_answer) ∷ Some new.function ∷ Some look ∷ []; main = 0 }

abbrev items : ℕ → ℕ
items zero = 0
items (suc f) = suc (suc f)

none_some : {A : Type 0} {a : A} → None ≡ Some a → ⊥
none_some e = cc

some_same : {A : Type 0} {a b : A} → Some a ≡ Some b → a ≡ b
some_same e = cc

-- ---- variables

none_seen : (y : ℕ) → IsNew [] y
none_seen y z e f g = none_some f

new_and : (R : Renaming) (x o : ℕ) (w : How) (y : ℕ) → IsNew R y → (o ≡ y → ⊥) → IsNew ((x, sight o w) ∷ R) y
new_and R x o w y new other z e = by (nat_eq z x)
  where
    by : (b : Bool) → (if b then Some (sight o w) else sight_of R z) ≡ Some e → e.to ≡ y → ⊥
    by true f g = other (ap (λ (e : Sight). e.to) (some_same f) ∙ g)
    by false f g = new z e f g

abbrev one : Renaming
one = (0, sight 0 (plain free)) ∷ []

abbrev two : Renaming
two = (1, sight 1 (plain free)) ∷ one

abbrev three : Renaming
three = (2, sight 2 (plain shut)) ∷ two

abbrev outside : Renaming
outside = (3, sight 3 (plain shut)) ∷ three

abbrev given : Renaming
given = (3, sight 6 viewed) ∷ (2, sight 5 copied) ∷ []

abbrev inside : Renaming
inside = (0, sight 8 absent) ∷ (1, sight 7 absent) ∷ given

new_one : (y : ℕ) → (0 ≡ y → ⊥) → IsNew one y
new_one y a = new_and [] 0 0 (plain free) y (none_seen y) a

new_two : (y : ℕ) → (0 ≡ y → ⊥) → (1 ≡ y → ⊥) → IsNew two y
new_two y a b = new_and one 1 1 (plain free) y (new_one y a) b

new_three : (y : ℕ) → (0 ≡ y → ⊥) → (1 ≡ y → ⊥) → (2 ≡ y → ⊥) → IsNew three y
new_three y a b c = new_and two 2 2 (plain shut) y (new_two y a b) c

new_given : (y : ℕ) → (5 ≡ y → ⊥) → (6 ≡ y → ⊥) → IsNew given y
new_given y a b = new_and ((2, sight 5 copied) ∷ []) 3 6 viewed y (new_and [] 2 5 copied y (none_seen y) a) b

shuts : (x : ℕ) → In x (2 ∷ 3 ∷ []) → (y : ℕ) × (sight_of outside x ≡ Some (sight y (plain shut)))
shuts x (inl e) = (2, ap (λ x. sight_of outside x) e)
shuts x (inr (inl e)) = (3, ap (λ x. sight_of outside x) e)
shuts x (inr (inr e)) = absurd e

none_special : (x y : ℕ) → sight_of outside x ≡ Some (sight y special) → ⊥
none_special x y = at_three (nat_eq x 3) (nat_eq x 2) (nat_eq x 1) (nat_eq x 0)
  where
    not_special : (w : How) → Some (sight 0 w) ≡ Some (sight 0 special) → w ≡ special
    not_special w e = ap (λ (e : Sight). e.how) (some_same e)

    plain_special : (n y : ℕ) (h : _) → Some (sight n (plain h)) ≡ Some (sight y special) → ⊥
    plain_special n y h e = by (ap (λ (e : Sight). e.how) (some_same e))
      where
        by : plain h ≡ special → ⊥
        by e = cc

    at_three : (a b c d : Bool) → (if a then Some (sight 3 (plain shut)) else if b then Some (sight 2 (plain shut)) else if c then Some (sight 1 (plain free)) else if d then Some (sight 0 (plain free)) else None) ≡ Some (sight y special) → ⊥
    at_three true b c d e = plain_special 3 y shut e
    at_three false true c d e = plain_special 2 y shut e
    at_three false false true d e = plain_special 1 y free e
    at_three false false false true e = plain_special 0 y free e
    at_three false false false false e = none_some e

covers : (x : ℕ) (e : Sight) → sight_of outside x ≡ Some e → (f : Sight) × (sight_of inside x ≡ Some f)
covers x e = by (nat_eq x 3) (nat_eq x 2) (nat_eq x 1) (nat_eq x 0)
  where
    by : (a b c d : Bool) → (if a then Some (sight 3 (plain shut)) else if b then Some (sight 2 (plain shut)) else if c then Some (sight 1 (plain free)) else if d then Some (sight 0 (plain free)) else None) ≡ Some e
        → (f : Sight) × ((if d then Some (sight 8 absent) else if c then Some (sight 7 absent) else if a then Some (sight 6 viewed) else if b then Some (sight 5 copied) else None) ≡ Some f)
    by a b c true f = (sight 8 absent, refl)
    by a b true false f = (sight 7 absent, refl)
    by true b false false f = (sight 6 viewed, refl)
    by false true false false f = (sight 5 copied, refl)
    by false false false false f = absurd (none_some f)

-- ---- where the text comes to the assignment, both references were written

abbrev main_text : Function
main_text = main_with assigned

abbrev part : Order
part = order assigned (tree.temporary_at 0 0)

not_act : {a : Action} {w : List Action} → Into part (orders.act a) w → ⊥
not_act i = elim i [ ]

not_nothing : {w : List Action} → Into part orders.nothing w → ⊥
not_nothing i = elim i [ ]

not_leave : {x : Exit} {w : List Action} → Into part (orders.leave x) w → ⊥
not_leave i = elim i [ ]

not_in_number : {n : ℕ} {z : ℤ} {t : Temporary} {w : List Action} → Into part (order (number n z) t) w → ⊥
not_in_number (in_first i) = not_nothing i
not_in_number (in_second k i) = not_act i

-- behind a `let`
behind_let : {s rest : Order} {d e : Action} {n x : ℕ} {f : List Action} → IsLine s → ((w : List Action) → Into part s w → ⊥) → ((w : List Action) → Into part rest w → w ≡ f) → {w : List Action}
    → Into part (orders.then s (orders.then orders.nothing (orders.then (orders.act d) (orders.then (orders.act e) (orders.ending n x rest))))) w → w ≡ line s ++ d ∷ e ∷ f
behind_let l none go (in_first i) = absurd (none _ i)
behind_let l none go (in_second k (in_first i)) = absurd (not_nothing i)
behind_let l none go (in_second k (in_second o (in_first i))) = absurd (not_act i)
behind_let l none go (in_second k (in_second o (in_second p (in_first i)))) = absurd (not_act i)
behind_let {d = d} {e = e} l none go (in_second k (in_second o (in_second p (in_second q (in_scope i))))) =
    ap₂ (λ a b. a ++ b) (line_is l k) (ap₂ (λ a b. a ++ b) (line_is tt o) (ap₂ (λ a b. a ++ b) (line_is {s = orders.act d} tt p) (ap₂ (λ a b. a ++ b) (line_is {s = orders.act e} tt q) (go _ i))))

in_part : {w : List Action} → Into part part w → w ≡ []
in_part all = refl
in_part (in_first (in_first (in_first i))) = absurd (not_act i)
in_part (in_first (in_first (in_second k i))) = absurd (not_nothing i)
in_part (in_first (in_second k i)) = absurd (not_act i)
in_part (in_second k i) = absurd (not_act i)

not_behind : {w : List Action} → Into part (order_body (tree.runs (tree.print (m 19) (deref 2)) (tree.ends (tree.give (m 1) (tree.unit (m 1))))) 1 (tree.temporary_at 1 0)) w → ⊥
not_behind (in_first (in_first i)) = not_act i
not_behind (in_first (in_second k i)) = not_act i
not_behind (in_second k (in_first i)) = not_nothing i
not_behind (in_second k (in_second l (in_first i))) = not_act i
not_behind (in_second k (in_second l (in_second e i))) = not_leave i

in_statement : {w : List Action} → Into part (order_body (tree.runs assigned (tree.runs (tree.print (m 19) (deref 2)) (tree.ends (tree.give (m 1) (tree.unit (m 1)))))) 1 (tree.temporary_at 1 0)) w → w ≡ []
in_statement (in_first i) = in_part i
in_statement (in_second k i) = absurd (not_behind i)

-- what is done in front of it
abbrev begins_with : ℕ → ℕ → ℕ → List Action → List Action
begins_with n x k w = does n (Declare x) ∷ does n (Write (own x) (tree.temporary_at k 0) []) ∷ w

abbrev front : List Action
front =
    line (order (number 4 (pos 7)) (tree.temporary_at 4 0)) ++ begins_with 3 0 4
    (line (order (number 7 (pos 0)) (tree.temporary_at 7 0)) ++ begins_with 6 1 7
    (line (order (tree.borrow (m 10) true (own 1)) (tree.temporary_at 10 0)) ++ begins_with 9 2 10
    (line (order (tree.borrow (m 13) true (own 0)) (tree.temporary_at 13 0)) ++ begins_with 12 3 13 [])))

in_main : {w : List Action} → Into part (order_function main_text) w → w ≡ front
in_main i =
    behind_let (tt, tt) (λ w i. not_in_number i) (λ w i. behind_let (tt, tt) (λ w i. not_in_number i) (λ w i. behind_let tt (λ w i. not_act i) (λ w i. behind_let tt (λ w i. not_act i) (λ w i. in_statement i) i) i) i) i

at_part : {h : List Action} → ComesTo main_text part h → h ≡ put front []
at_part c = let k = came c in k.1 ∙ ap (λ w. put w []) (in_main k.2)

first_written : (h : List Action) → ComesTo main_text part h → Written h 2
first_written h c = subst (λ h. Written h 2) (sym (at_part c)) (inr ((λ e. e), inr ((λ e. absurd (cc)), inr ((λ e. e), inl (refl, tt)))))

second_written : (h : List Action) → ComesTo main_text part h → Written h 3
second_written h c = subst (λ h. Written h 3) (sym (at_part c)) (inl (refl, tt))

-- ---- the programs

main_alike : LikeFunction items (calls_of items (a_turn true) [] new) (a_turn true) (main_with assigned) (main_with call_answer)
main_alike = record {
  about = record { special = []; asked = [] };
  untouched = λ a h x i. absurd i;
  inside = [];
  params = no_param;
  body = blocks
      (lets_in one 0 1 (omega arith) (of_values (builds tt no_operands)) (binding_and (plain free) takes_none no_steps (new_plain free tt) refl (none_seen 0) no_binding)
      (lets_in two 0 1 (omega arith) (of_values (builds tt no_operands)) (binding_and (plain free) takes_none no_steps (new_plain free tt) refl (new_one 1 (λ e. absurd (cc))) no_binding)
      (lets_in three 0 1 (omega arith) (of_values (borrows (direct (plain free) refl tt ((λ o. tt), tt) no_steps))) (binding_and (plain shut) takes_none no_steps (new_plain shut tt) refl (new_two 2 (λ e. absurd (cc)) (λ e. absurd (cc))) no_binding)
      (lets_in outside 0 1 (omega arith) (of_values (borrows (direct (plain free) refl tt ((λ o. tt), tt) no_steps))) (binding_and (plain shut) takes_none no_steps (new_plain shut tt) refl (new_three 3 (λ e. absurd (cc)) (λ e. absurd (cc)) (λ e. absurd (cc))) no_binding)
      (runs_on 1 0 (omega arith)
      (opens {e = tree.unit (m 1)} {e' = tree.unit (m 1)} {f = λ x. assigned} {f' = λ x. call_answer} 1 0 (omega arith)
      (becomes_call (2 ∷ 3 ∷ []) given inside refl (none_elsewhere none_special) shuts
      (λ t. passes_reborrow refl refl (inl refl) first_written refl (none_seen 5) (passes_view refl refl (inr (inl refl)) second_written refl (new_and [] 2 5 copied 6 (none_seen 6) (λ e. absurd (cc))) passes_none))
      (absent_and {x = 1} {z = 7} refl (new_given 7 (λ e. absurd (cc)) (λ e. absurd (cc))) (absent_and {x = 0} {z = 8} refl (new_and given 1 7 absent 8 (new_given 8 (λ e. absurd (cc)) (λ e. absurd (cc))) (λ e. absurd (cc))) none_absent)) covers
      (assigns (direct copied refl tt ((λ o. o), tt) (derefs no_steps)) (calls (operands_and 0 0 (omega arith) (views refl) no_operands)))) units)
      (runs_on 0 0 (omega arith) (prints (reads (direct (plain shut) refl tt tt (derefs no_steps)))) (ends_in (gives refl units))))))));
}

look_alike : LikeFunction items (calls_of items (a_turn true) [] new) (a_turn true) look look
look_alike = record {
  about = record { special = []; asked = [] };
  untouched = λ a h x i. absurd i;
  inside = (0, sight 0 (plain shut)) ∷ [];
  params = param_and (plain shut) (new_plain shut tt) refl (none_seen 0) no_param;
  body = blocks (ends_in (gives refl (reads (direct (plain shut) refl tt tt (derefs no_steps)))));
}

entries : (f : ℕ) → LikeEntry items (calls_of items (a_turn true) [] new) (a_turn true) (element text.functions f) (element answer.functions (items f))
entries zero = functions main_alike
entries (suc zero) = functions look_alike
entries (suc (suc f)) = neither tt tt

pub is_with_call : WithCall text answer new
is_with_call = record { items = items; strays = true; units = []; are_units = λ f i. absurd i; alike = record { all = entries; mains = refl }; stands = refl }

text_run : run text [] 2 ≡ record { printed = codes "7\n"; end = End.Ended }
unfolding value below_level digits after bind result_of decided tested closed took bound begun take_turn passed returned with_arguments
text_run = refl

answer_run : run answer [] 3 ≡ record { printed = codes "7\n"; end = End.Ended }
unfolding value below_level digits after bind result_of decided tested closed took bound begun take_turn passed returned with_arguments
answer_run = refl

-- ---- read in place of being asked for again

abbrev call_read : Exp
call_read = tree.call (m 14) 1 (tree.operand_and 0 (tree.read (m 15) true (own 2)) (tree.operand_and 1 (reborrow_of (m 16) false 3 true) tree.no_operand))

abbrev answer_read : Program
answer_read = record { functions = Some (main_with call_read) ∷ Some new.function ∷ Some look ∷ []; main = 0 }

rereads : (f : ℕ) → RereadsEntry (element answer.functions f) (element answer_read.functions f)
rereads zero = in_function refl (in_block (in_let (in_value_of (self_exp (number 4 (pos 7)))) (in_let (in_value_of (self_exp (number 7 (pos 0)))) (in_let (in_value_of same_borrow) (in_let (in_value_of same_borrow)
    (in_run (in_call (in_operand is_read (in_operand same_borrow in_none))) (self_body (tree.runs (tree.print (m 19) (deref 2)) (tree.ends (tree.give (m 1) (tree.unit (m 1))))))))))))
rereads (suc zero) = in_function refl (self_exp new.function.body)
rereads (suc (suc zero)) = in_function refl (self_exp look.body)
rereads (suc (suc (suc f))) = no_function tt tt

pub is_reread : RereadsProgram answer answer_read
is_reread = record { all = rereads; mains = refl }

read_run : run answer_read [] 3 ≡ record { printed = codes "7\n"; end = End.Ended }
unfolding value below_level digits after bind result_of decided tested closed took bound begun take_turn passed returned with_arguments
read_run = refl
