-- A program, and one in which the call of a new function stands for a statement of it: a variable moves into the function, and back. What
-- is asked of the text's histories is shown from its walks; both runs are computed.
use Rattle.std.proofs.Common.{◌≡◌, ℕ, zero, suc, pos, Bool, true, false, nat_eq, if◌then◌else◌, List, [], ◌∷◌, ◌++◌, Some, None, refl, sym, ap, ap₂, ◌∙◌, subst, arith, inl, inr}
use Rattle.std.specs.Prelude.{codes}
use Rattle.std.specs.Fmt.{digits}
use Rattle.rx_core.specs.declared.types.Kind.{Kind}
use Rattle.rx_tree.specs.declared.tree.BinaryOp.{BinaryOp}
use Rattle.rx_meaning.specs.declared.outcome.End.{End}
use Rattle.rx_typed.specs.Tree as tree
use Rattle.rx_typed.specs.Tree.{Mark, Exp, Body, Function, Temporary, own}
use Rattle.rx_lower_walks.specs.Actions.{Declare, Write, Action, does}
use Rattle.rx_lower_walks.specs.Orders as orders
use Rattle.rx_lower_walks.specs.Orders.{Exit, Order, order, order_body, order_function}
use Rattle.rx_lower_walks.specs.Walks as walk
use Rattle.rx_lower_walks.specs.Walks.{Walk, Among, here, there, actions_in}
use Rattle.rx_exits_plan.specs.Coming.{Into, all, in_first, in_second, in_scope}
use Rattle.rx_meaning.specs.Values.{element}
use Rattle.rx_meaning.specs.Results.{bind, after, result_of}
use Rattle.rx_meaning.specs.Patterns.{decided, tested, closed, bound, took, begun}
use Rattle.rx_meaning.specs.Expressions.{value, take_turn, passed, returned, with_arguments, below_level}
use Rattle.rx_meaning.specs.Programs.{Program, run}
use Rattle.rx_engine_simulation.specs.Histories.{put, Facts, Living, Written, Borrowed, BorrowsOwn, asked}
use Rattle.rx_engine_simulation.specs.Sights.{special, Sight, sight, Renaming, sight_of, IsNew}
use Rattle.rx_engine_simulation.specs.Places.{direct, no_steps}
use Rattle.rx_engine_simulation.specs.Binders.{no_param, new_special, takes_none, no_binding, binding_and}
use Rattle.rx_engine_simulation.specs.Like.{opens_in, reads, builds, updates, units, prints, blocks, gives, no_operands, of_values, ends_in, runs_on, lets_in}
use Rattle.rx_engine_simulation.specs.Programs.{whole_jumps, About, Untouched, ComesTo, facts_of, LikeFunction, LikeEntry, functions, neither}
use Rattle.rx_engine_simulation.specs.Passing.{New, passes_none, passes_move, no_local, none_absent}
use Rattle.rx_engine_simulation.specs.Arrivals.{to_rest, Arrives, none_ready, ready_and}
use Rattle.rx_engine_simulation.specs.Packing.{takes_read, gives_one}
use Rattle.rx_engine_simulation.specs.Handing.{assigns, redeclares_none}
use Rattle.rx_engine_simulation.specs.Blocks.{Stretch, done, does_then, before}
use Rattle.rx_engine_simulation.specs.Stretches.{both_done, both_do}
use Rattle.rx_engine_simulation.specs.Endings.{none_left, a_tail, end_gives}
use Rattle.rx_engine_simulation.specs.Statements.{body_of, enters, calls_alone, goes_on, hands_on, StatementsBecomeCall, statements_become_call}
use Rattle.rx_engine_simulation.specs.Called.{calls_of, a_turn, WithCall}
use Rattle.rx_engine_simulation.proofs.Histories.{came, never_borrowed}
use Rattle.rx_engine_simulation.proofs.Blocks.{arrives_comes}

abbrev pub m : ℕ → Mark
m n = record { node = n; typ = None }

abbrev pub number : ℕ → ℕ → Exp
number n z = tree.build (m n) (tree.constant (tree.whole_number Kind.I64 (pos z))) tree.no_operand

-- a += 1;
abbrev pub adding : ℕ → Stretch
adding x = does_then (tree.update (m 5) BinaryOp.Add (own x) (number 6 1)) done

-- println!("{}", a);
abbrev rest : Body
rest = tree.runs (tree.print (m 7) (tree.read (m 8) false (own 0))) (tree.ends (tree.give (m 1) (tree.unit (m 1))))

-- fn main() { let mut a = 7; a += 1; println!("{}", a); }
abbrev main_text : Function
main_text = record { params = []; body = tree.block (m 1) (tree.lets 2 (tree.bind 3 0 (tree.by_value true)) (tree.of_value (number 4 7)) (before (adding 0) rest)) }

-- fn main() { let mut a = 7; a = next(a); println!("{}", a); }
abbrev main_answer : Function
main_answer = record {
  params = [];
  body = tree.block (m 1) (tree.lets 2 (tree.bind 3 0 (tree.by_value true)) (tree.of_value (number 4 7)) (tree.runs (tree.assign (m 9) (own 0) (tree.call (m 10) 1 (tree.operand_and 0 (tree.read (m 11) true (own 0)) tree.no_operand))) rest));
}

-- fn next(mut a: i64) -> i64 { a += 1; a }
abbrev new : New
new = record { number = 1; function = record { params = record { node = 12; variable = 5 } ∷ []; body = body_of (m 13) [] (adding 5) (tree.ends (tree.give (m 13) (tree.read (m 14) true (own 5)))) } }

abbrev text : Program
text = record { functions = Some main_text ∷ []; main = 0 }

abbrev answer : Program
answer = record { functions = Some main_answer ∷ Some new.function ∷ []; main = 0 }

-- ---- walks of the text

abbrev part : Order
part = order_body (before (adding 0) rest) 1 (tree.temporary_at 1 0)

abbrev behind : Order
behind = order_body rest 1 (tree.temporary_at 1 0)

abbrev pub IsLine : Order → Type 0
IsLine orders.nothing = Unit {0}
IsLine (orders.act a) = Unit {0}
IsLine (orders.then s t) = IsLine s × IsLine t
IsLine s = ⊥

abbrev pub line : Order → List Action
line (orders.act a) = a ∷ []
line (orders.then s t) = line s ++ line t
line s = []

pub line_is : {s : Order} {w : List Action} → IsLine s → Walk s w walk.on → w ≡ line s
line_is l walk.nothing = refl
line_is l walk.acts = refl
line_is l (walk.both h k) = ap₂ (λ a b. a ++ b) (line_is l.0 h) (line_is l.1 k)
line_is l (walk.first e h) = absurd e
line_is l (walk.one h) = absurd l
line_is l (walk.other h) = absurd l
line_is l (walk.holds e h) = absurd l
line_is l (walk.next h k) = absurd l
line_is l (walk.ends h) = absurd l
line_is l (walk.last h e) = absurd l
line_is l (walk.more h e k) = absurd l

module _ {s t : Order} {w : List Action} where
  pub not_act : {a : Action} → Into (orders.then s t) (orders.act a) w → ⊥
  not_act i = elim i [ ]

  pub not_nothing : Into (orders.then s t) orders.nothing w → ⊥
  not_nothing i = elim i [ ]

-- what is done in front of the statement, and by it
abbrev pub front : List Action
front = line (order (number 4 7) (tree.temporary_at 4 0)) ++ does 3 (Declare 0) ∷ does 3 (Write (own 0) (tree.temporary_at 4 0) []) ∷ []

abbrev pub adds : Order
adds = order (tree.update (m 5) BinaryOp.Add (own 0) (number 6 1)) (tree.temporary_at 5 0)

abbrev prints_it : Order
prints_it = order (tree.print (m 7) (tree.read (m 8) false (own 0))) (tree.temporary_at 7 0)

-- each of both parts has one place
part_in_number : {w : List Action} {n z : ℕ} → Into part (order (number n z) (tree.temporary_at n 0)) w → ⊥
part_in_number (in_first i) = not_nothing i
part_in_number (in_second k i) = not_act i

behind_in_number : {w : List Action} {n z : ℕ} → Into behind (order (number n z) (tree.temporary_at n 0)) w → ⊥
behind_in_number (in_first i) = not_nothing i
behind_in_number (in_second k i) = not_act i

part_in_adding : {w : List Action} → Into part adds w → ⊥
part_in_adding (in_first i) = part_in_number i
part_in_adding (in_second k (in_first i)) = not_act i
part_in_adding (in_second k (in_second l (in_first i))) = not_act i
part_in_adding (in_second k (in_second l (in_second e i))) = not_act i

behind_in_adding : {w : List Action} → Into behind adds w → ⊥
behind_in_adding (in_first i) = behind_in_number i
behind_in_adding (in_second k (in_first i)) = not_act i
behind_in_adding (in_second k (in_second l (in_first i))) = not_act i
behind_in_adding (in_second k (in_second l (in_second e i))) = not_act i

pub not_leave : {s t : Order} {x : Exit} {w : List Action} → Into (orders.then s t) (orders.leave x) w → ⊥
not_leave i = elim i [ ]

part_behind : {w : List Action} → Into part behind w → ⊥
part_behind (in_first (in_first i)) = not_act i
part_behind (in_first (in_second k i)) = not_act i
part_behind (in_second k (in_first i)) = not_nothing i
part_behind (in_second k (in_second l (in_first i))) = not_act i
part_behind (in_second k (in_second l (in_second e i))) = not_leave i

part_in_part : {w : List Action} → Into part part w → w ≡ []
part_in_part all = refl
part_in_part (in_first i) = absurd (part_in_adding i)
part_in_part (in_second k i) = absurd (part_behind i)

behind_behind : {w : List Action} → Into behind behind w → w ≡ []
behind_behind all = refl
behind_behind (in_first (in_first i)) = absurd (not_act i)
behind_behind (in_first (in_second k i)) = absurd (not_act i)
behind_behind (in_second k (in_first i)) = absurd (not_nothing i)
behind_behind (in_second k (in_second l (in_first i))) = absurd (not_act i)
behind_behind (in_second k (in_second l (in_second e i))) = absurd (not_leave i)

behind_part : {w : List Action} → Into behind part w → w ≡ line adds
behind_part (in_first i) = absurd (behind_in_adding i)
behind_part (in_second k i) = ap₂ (λ a b. a ++ b) (line_is ((tt, tt), (tt, (tt, tt))) k) (behind_behind i)

whole_part : {w : List Action} → Into part (order_function main_text) w → w ≡ front
whole_part (in_first i) = absurd (part_in_number i)
whole_part (in_second k (in_first i)) = absurd (not_nothing i)
whole_part (in_second k (in_second l (in_first i))) = absurd (not_act i)
whole_part (in_second k (in_second l (in_second e (in_first i)))) = absurd (not_act i)
whole_part (in_second k (in_second l (in_second e (in_second f (in_scope i))))) = ap₂ (λ a b. a ++ b) (line_is (tt, tt) k) (ap₂ (λ a b. a ++ b) (line_is tt l) (ap₂ (λ a b. a ++ b) (line_is tt e) (ap₂ (λ a b. a ++ b) (line_is tt f) (part_in_part i))))

whole_behind : {w : List Action} → Into behind (order_function main_text) w → w ≡ front ++ line adds
whole_behind (in_first i) = absurd (behind_in_number i)
whole_behind (in_second k (in_first i)) = absurd (not_nothing i)
whole_behind (in_second k (in_second l (in_first i))) = absurd (not_act i)
whole_behind (in_second k (in_second l (in_second e (in_first i)))) = absurd (not_act i)
whole_behind (in_second k (in_second l (in_second e (in_second f (in_scope i))))) = ap₂ (λ a b. a ++ b) (line_is (tt, tt) k) (ap₂ (λ a b. a ++ b) (line_is tt l) (ap₂ (λ a b. a ++ b) (line_is tt e) (ap₂ (λ a b. a ++ b) (line_is tt f) (behind_part i))))

at_part : {h : List Action} → ComesTo main_text part h → h ≡ put front []
at_part c = let k = came c in k.1 ∙ ap (λ w. put w []) (whole_part k.2)

at_behind : {h : List Action} → ComesTo main_text behind h → h ≡ put (front ++ line adds) []
at_behind c = let k = came c in k.1 ∙ ap (λ w. put w []) (whole_behind k.2)

never : (a : Action) → Among a (actions_in (order_function main_text)) → BorrowsOwn a.act 0 → ⊥
never a here b = b
never a (there here) b = b
never a (there (there here)) b = b
never a (there (there (there here))) b = b
never a (there (there (there (there here)))) b = b
never a (there (there (there (there (there here))))) b = b
never a (there (there (there (there (there (there here)))))) b = b
never a (there (there (there (there (there (there (there here))))))) b = b
never a (there (there (there (there (there (there (there (there here)))))))) b = b
never a (there (there (there (there (there (there (there (there (there here))))))))) b = b
never a (there (there (there (there (there (there (there (there (there (there i)))))))))) b = elim i [ ]

-- ---- the relation

pub none_some : {A : Type 0} {a : A} → None ≡ Some a → ⊥
none_some e = cc

pub none_seen : (y : ℕ) → IsNew [] y
none_seen y z e f g = none_some f

abbrev about : About
about = record { special = 0 ∷ []; asked = (0, part) ∷ (0, behind) ∷ [] }

untouched : Untouched main_text about
untouched a h x (inl e) k w b = never_borrowed main_text 0 never a h k (subst (λ x. Borrowed h x) e b)
untouched a h x (inr i) k w b = i

abbrev V : Facts
V = facts_of main_text about untouched

-- the variable in the caller and in the new function
abbrev outside : Renaming
outside = (0, sight 0 special) ∷ []

abbrev inside : Renaming
inside = (0, sight 5 special) ∷ []

written_part : (h : List Action) → ComesTo main_text part h → Written h 0
written_part h c = subst (λ h. Written h 0) (sym (at_part c)) (inl (refl, tt))

written_behind : (h : List Action) → ComesTo main_text behind h → Written h 0
written_behind h c = subst (λ h. Written h 0) (sym (at_behind c)) (inl (refl, tt))

unlent : (h : List Action) → ComesTo main_text part h → Borrowed h 0 → ⊥
unlent h c b = by (subst (λ h. Borrowed h 0) (at_part c) b)
  where
    by : Borrowed (put front []) 0 → ⊥
    by (inl e) = e
    by (inr (n, inl e)) = e
    by (inr (n, inr (k, e))) = k refl

ready_behind : (h : List Action) → Arrives V (to_rest (before (adding 0) rest) (adding 0)) h → Living V 0 h × Written h 0
ready_behind h a = let c = (arrives_comes (adding 0) rest a).2 in (asked (behind, inr (inl refl), c), written_behind h c)

pub not_tail : (e : Exp) → none_left ≡ a_tail e → ⊥
not_tail e f = cc

covers : (x : ℕ) (e : Sight) → sight_of outside x ≡ Some e → (f : Sight) × (sight_of inside x ≡ Some f)
covers x e f = by (nat_eq x 0) f
  where
    by : (b : Bool) → (if b then Some (sight 0 special) else None) ≡ Some e → (f : Sight) × ((if b then Some (sight 5 special) else None) ≡ Some f)
    by true f = (sight 5 special, refl)
    by false f = absurd (none_some f)

moved : (x y : ℕ) → sight_of outside x ≡ Some (sight y special) → (z : ℕ) × (sight_of inside x ≡ Some (sight z special))
moved x y f = by (nat_eq x 0) f
  where
    by : (b : Bool) → (if b then Some (sight 0 special) else None) ≡ Some (sight y special) → (z : ℕ) × ((if b then Some (sight 5 special) else None) ≡ Some (sight z special))
    by true f = (5, refl)
    by false f = absurd (none_some f)

abbrev items : ℕ → ℕ
items zero = 0
items (suc f) = suc (suc f)

abbrev call_answer : Body → Body
call_answer b = tree.runs (tree.assign (m 9) (own 0) (tree.call (m 10) 1 (tree.operand_and 0 (tree.read (m 11) true (own 0)) tree.no_operand))) b

becomes : StatementsBecomeCall items (a_turn false) [] new V 1 whole_jumps outside outside rest (λ b. before (adding 0) b) call_answer
becomes =
    statements_become_call {l = none_left} {mc = m 10} inside inside (m 13) [] refl (enters [] inside inside (λ x i. absurd i)
    (λ i t. passes_move refl (λ k. k) (λ h c. asked (part, inl refl, c)) written_part refl (none_seen 5) passes_none) (λ i t. no_local) none_absent covers moved)
    (both_do (updates (direct special refl tt tt no_steps) (direct special refl tt ((λ o. tt), tt) no_steps) (builds tt no_operands)) both_done)
    (end_gives (ready_and refl ready_behind none_ready) (gives_one takes_read)) (λ e f. absurd (not_tail e f)) calls_alone
    (hands_on [] outside outside (λ x e f. absurd (none_some f)) (λ x y e. absurd (none_some e)) (assigns refl (none_seen 0) refl (λ i t h c. unlent h c)) redeclares_none goes_on (λ x e f. f) (λ x e f. f))

main_alike : LikeFunction items (calls_of items (a_turn false) [] new) (a_turn false) main_text main_answer
main_alike = record {
  about = about;
  untouched = untouched;
  inside = [];
  params = no_param;
  body = blocks (lets_in outside 0 1 (omega arith) (of_values (builds tt no_operands))
      (binding_and special takes_none no_steps (new_special (inl refl)) refl (none_seen 0) no_binding)
      (opens_in {b = rest} {b' = rest} {f = λ b. before (adding 0) b} {f' = call_answer} 1 0 (omega arith) becomes
      (runs_on 0 0 (omega arith) (prints (reads (direct special refl tt tt no_steps))) (ends_in (gives refl units)))));
}

entries : (f : ℕ) → LikeEntry items (calls_of items (a_turn false) [] new) (a_turn false) (element text.functions f) (element answer.functions (items f))
entries zero = functions main_alike
entries (suc f) = neither tt tt

pub is_with_call : WithCall text answer new
is_with_call = record { items = items; strays = false; units = []; are_units = λ f i. absurd i; alike = record { all = entries; mains = refl }; stands = refl }

text_run : run text [] 1 ≡ record { printed = codes "8\n"; end = End.Ended }
unfolding value below_level digits after bind result_of decided tested closed took bound begun take_turn passed returned with_arguments
text_run = refl

-- the call takes a turn
answer_cut : run answer [] 1 ≡ record { printed = []; end = End.Running }
unfolding value below_level digits after bind result_of decided tested closed took bound begun take_turn passed returned with_arguments
answer_cut = refl

answer_run : run answer [] 2 ≡ record { printed = codes "8\n"; end = End.Ended }
unfolding value below_level digits after bind result_of decided tested closed took bound begun take_turn passed returned with_arguments
answer_run = refl
