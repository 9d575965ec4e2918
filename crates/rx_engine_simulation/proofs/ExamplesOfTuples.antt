-- A program, and one in which the call of a new function stands for two statements of it: a variable moves into the function and back, and
-- one that the statements declare is handed out beside it. Both runs are computed.
use Rattle.std.proofs.Common.{◌≡◌, ℕ, zero, suc, Bool, true, false, nat_eq, if◌then◌else◌, List, [], ◌∷◌, ◌++◌, Some, None, refl, sym, ap, ap₂, ◌∙◌, subst, arith, inl, inr, eqb-true}
use Rattle.std.specs.Prelude.{codes}
use Rattle.std.specs.Fmt.{digits}
use Rattle.rx_meaning.specs.declared.outcome.End.{End}
use Rattle.rx_typed.specs.Tree as tree
use Rattle.rx_typed.specs.Tree.{Exp, Body, Function, own}
use Rattle.rx_lower_walks.specs.Actions.{Declare, Write, Action, does}
use Rattle.rx_lower_walks.specs.Orders.{Order, order, order_body, order_function}
use Rattle.rx_lower_walks.specs.Walks.{Among, here, there, actions_in}
use Rattle.rx_exits_plan.specs.Coming.{Into, all, in_first, in_second, in_scope}
use Rattle.rx_meaning.specs.Values.{element}
use Rattle.rx_meaning.specs.Results.{bind, after, result_of}
use Rattle.rx_meaning.specs.Patterns.{decided, tested, closed, bound, took, begun}
use Rattle.rx_meaning.specs.Expressions.{value, take_turn, passed, returned, with_arguments, below_level}
use Rattle.rx_meaning.specs.Programs.{Program, run}
use Rattle.rx_engine_simulation.specs.Histories.{put, Facts, Living, Written, Borrowed, BorrowsOwn, asked}
use Rattle.rx_engine_simulation.specs.Sights.{special, Sight, sight, Renaming, sight_of, IsNew}
use Rattle.rx_engine_simulation.specs.Places.{direct, no_steps}
use Rattle.rx_engine_simulation.specs.Binders as binders
use Rattle.rx_engine_simulation.specs.Binders.{no_param, new_special, no_binding, binding_and}
use Rattle.rx_engine_simulation.specs.Like.{opens_in, reads, builds, updates, units, prints, blocks, gives, no_operands, of_values, ends_in, runs_on, lets_in}
use Rattle.rx_engine_simulation.specs.Programs.{whole_jumps, About, Untouched, ComesTo, facts_of, LikeFunction, LikeEntry, functions, neither}
use Rattle.rx_engine_simulation.specs.Passing.{New, passes_none, passes_move, no_local, none_absent}
use Rattle.rx_engine_simulation.specs.Arrivals.{to_rest, Arrives, Within, none_ready, ready_and}
use Rattle.rx_engine_simulation.specs.Packing.{takes_read, takes_none, takes_and, gives_tuple, receives_none, receives_and}
use Rattle.rx_engine_simulation.specs.Handing.{received_none, received_and, puts_none, stays_there, puts_and, spreads, redeclares_none}
use Rattle.rx_engine_simulation.specs.Blocks.{Stretch, lets_then, before}
use Rattle.rx_engine_simulation.specs.Stretches.{both_done, both_do, both_let}
use Rattle.rx_engine_simulation.specs.Endings.{none_left, end_gives}
use Rattle.rx_engine_simulation.specs.Statements.{body_of, enters, calls_alone, goes_on, hands_on, StatementsBecomeCall, statements_become_call}
use Rattle.rx_engine_simulation.specs.Called.{calls_of, a_turn, WithCall}
use Rattle.rx_engine_simulation.proofs.Histories.{came, never_borrowed}
use Rattle.rx_engine_simulation.proofs.Blocks.{arrives_comes}
use Rattle.rx_engine_simulation.proofs.ExamplesOfStatements.{not_tail, m, number, adding, line, line_is, not_act, not_nothing, not_leave, none_some, none_seen, front, adds}

-- let b = 5; a += 1;
abbrev stretch : ℕ → ℕ → Stretch
stretch x z = lets_then 20 (tree.bind 21 z (tree.by_value false)) (tree.of_value (number 22 5)) (adding x)

-- println!("{}", b); println!("{}", a);
abbrev rest : Body
rest = tree.runs (tree.print (m 7) (tree.read (m 8) false (own 1))) (tree.runs (tree.print (m 9) (tree.read (m 10) false (own 0))) (tree.ends (tree.give (m 1) (tree.unit (m 1)))))

-- fn main() { let mut a = 7; let b = 5; a += 1; println!("{}", b); println!("{}", a); }
abbrev main_text : Function
main_text = record { params = []; body = tree.block (m 1) (tree.lets 2 (tree.bind 3 0 (tree.by_value true)) (tree.of_value (number 4 7)) (before (stretch 0 1) rest)) }

abbrev call : Exp
call = tree.call (m 11) 1 (tree.operand_and 0 (tree.read (m 12) true (own 0)) tree.no_operand)

abbrev handing : Body → Body
handing b =
    tree.lets 30 (tree.parts (tree.part_and 0 (tree.bind 31 1 (tree.by_value false)) (tree.part_and 1 (tree.bind 32 2 (tree.by_value false)) tree.no_part))) (tree.of_value call)
    (tree.runs (tree.assign (m 33) (own 0) (tree.read (m 34) true (own 2))) b)

-- fn main() { let mut a = 7; let (b, out_1) = both(a); a = out_1; println!("{}", b); println!("{}", a); }
abbrev main_answer : Function
main_answer = record { params = []; body = tree.block (m 1) (tree.lets 2 (tree.bind 3 0 (tree.by_value true)) (tree.of_value (number 4 7)) (handing rest)) }

-- fn both(mut a: i64) -> (i64, i64) { let b = 5; a += 1; (b, a) }
abbrev new : New
new = record {
  number = 1;
  function = record {
    params = record { node = 13; variable = 5 } ∷ [];
    body = body_of (m 14) [] (stretch 5 6) (tree.ends (tree.give (m 14) (tree.build (m 35) tree.tuple (tree.operand_and 0 (tree.read (m 36) true (own 6)) (tree.operand_and 1 (tree.read (m 37) true (own 5)) tree.no_operand)))));
  };
}

abbrev text : Program
text = record { functions = Some main_text ∷ []; main = 0 }

abbrev answer : Program
answer = record { functions = Some main_answer ∷ Some new.function ∷ []; main = 0 }

-- ---- walks of the text

-- in the block at this node
abbrev part : ℕ → Order
part b = order_body (before (stretch 0 1) rest) b (tree.temporary_at 1 0)

abbrev behind : Order
behind = order_body rest 1 (tree.temporary_at 1 0)

abbrev declares : List Action
declares = line (order (number 22 5) (tree.temporary_at 22 0)) ++ does 21 (Declare 1) ∷ does 21 (Write (own 1) (tree.temporary_at 22 0) []) ∷ []

part_in_number : {b : ℕ} {w : List Action} {n z : ℕ} → Into (part b) (order (number n z) (tree.temporary_at n 0)) w → ⊥
part_in_number (in_first i) = not_nothing i
part_in_number (in_second k i) = not_act i

behind_in_number : {w : List Action} {n z : ℕ} → Into behind (order (number n z) (tree.temporary_at n 0)) w → ⊥
behind_in_number (in_first i) = not_nothing i
behind_in_number (in_second k i) = not_act i

part_in_adding : {b : ℕ} {w : List Action} → Into (part b) adds w → ⊥
part_in_adding (in_first i) = part_in_number i
part_in_adding (in_second k (in_first i)) = not_act i
part_in_adding (in_second k (in_second l (in_first i))) = not_act i
part_in_adding (in_second k (in_second l (in_second e i))) = not_act i

behind_in_adding : {w : List Action} → Into behind adds w → ⊥
behind_in_adding (in_first i) = behind_in_number i
behind_in_adding (in_second k (in_first i)) = not_act i
behind_in_adding (in_second k (in_second l (in_first i))) = not_act i
behind_in_adding (in_second k (in_second l (in_second e i))) = not_act i

part_behind : {b : ℕ} {w : List Action} → Into (part b) behind w → ⊥
part_behind (in_first (in_first i)) = not_act i
part_behind (in_first (in_second k i)) = not_act i
part_behind (in_second k (in_first (in_first i))) = not_act i
part_behind (in_second k (in_first (in_second l i))) = not_act i
part_behind (in_second k (in_second l (in_first i))) = not_nothing i
part_behind (in_second k (in_second l (in_second e (in_first i)))) = not_act i
part_behind (in_second k (in_second l (in_second e (in_second f i)))) = not_leave i

part_in_part : {b : ℕ} {w : List Action} → Into (part b) (part 1) w → (b ≡ 1) × (w ≡ [])
part_in_part all = (refl, refl)
part_in_part (in_first i) = absurd (part_in_number i)
part_in_part (in_second k (in_first i)) = absurd (not_nothing i)
part_in_part (in_second k (in_second l (in_first i))) = absurd (not_act i)
part_in_part (in_second k (in_second l (in_second e (in_first i)))) = absurd (not_act i)
part_in_part (in_second k (in_second l (in_second e (in_second f (in_scope (in_first i)))))) = absurd (part_in_adding i)
part_in_part (in_second k (in_second l (in_second e (in_second f (in_scope (in_second g i)))))) = absurd (part_behind i)

behind_behind : {w : List Action} → Into behind behind w → w ≡ []
behind_behind all = refl
behind_behind (in_first (in_first i)) = absurd (not_act i)
behind_behind (in_first (in_second k i)) = absurd (not_act i)
behind_behind (in_second k (in_first (in_first i))) = absurd (not_act i)
behind_behind (in_second k (in_first (in_second l i))) = absurd (not_act i)
behind_behind (in_second k (in_second l (in_first i))) = absurd (not_nothing i)
behind_behind (in_second k (in_second l (in_second e (in_first i)))) = absurd (not_act i)
behind_behind (in_second k (in_second l (in_second e (in_second f i)))) = absurd (not_leave i)

behind_part : {w : List Action} → Into behind (part 1) w → w ≡ declares ++ line adds
behind_part (in_first i) = absurd (behind_in_number i)
behind_part (in_second k (in_first i)) = absurd (not_nothing i)
behind_part (in_second k (in_second l (in_first i))) = absurd (not_act i)
behind_part (in_second k (in_second l (in_second e (in_first i)))) = absurd (not_act i)
behind_part (in_second k (in_second l (in_second e (in_second f (in_scope (in_first i)))))) = absurd (behind_in_adding i)
behind_part (in_second k (in_second l (in_second e (in_second f (in_scope (in_second g i)))))) =
    ap₂ (λ a b. a ++ b) (line_is (tt, tt) k) (ap₂ (λ a b. a ++ b) (line_is tt l) (ap₂ (λ a b. a ++ b) (line_is tt e) (ap₂ (λ a b. a ++ b) (line_is tt f) (ap₂ (λ a b. a ++ b) (line_is ((tt, tt), (tt, (tt, tt))) g) (behind_behind i)))))

whole_part : {b : ℕ} {w : List Action} → Into (part b) (order_function main_text) w → (b ≡ 1) × (w ≡ front)
whole_part (in_first i) = absurd (part_in_number i)
whole_part (in_second k (in_first i)) = absurd (not_nothing i)
whole_part (in_second k (in_second l (in_first i))) = absurd (not_act i)
whole_part (in_second k (in_second l (in_second e (in_first i)))) = absurd (not_act i)
whole_part (in_second k (in_second l (in_second e (in_second f (in_scope i))))) =
    let a = part_in_part i in (a.0, ap₂ (λ a b. a ++ b) (line_is (tt, tt) k) (ap₂ (λ a b. a ++ b) (line_is tt l) (ap₂ (λ a b. a ++ b) (line_is tt e) (ap₂ (λ a b. a ++ b) (line_is tt f) a.1))))

whole_behind : {w : List Action} → Into behind (order_function main_text) w → w ≡ front ++ declares ++ line adds
whole_behind (in_first i) = absurd (behind_in_number i)
whole_behind (in_second k (in_first i)) = absurd (not_nothing i)
whole_behind (in_second k (in_second l (in_first i))) = absurd (not_act i)
whole_behind (in_second k (in_second l (in_second e (in_first i)))) = absurd (not_act i)
whole_behind (in_second k (in_second l (in_second e (in_second f (in_scope i))))) = ap₂ (λ a b. a ++ b) (line_is (tt, tt) k) (ap₂ (λ a b. a ++ b) (line_is tt l) (ap₂ (λ a b. a ++ b) (line_is tt e) (ap₂ (λ a b. a ++ b) (line_is tt f) (behind_part i))))

at_part : {b : ℕ} {h : List Action} → ComesTo main_text (part b) h → (b ≡ 1) × (h ≡ put front [])
at_part c = let k = came c in let a = whole_part k.2 in (a.0, k.1 ∙ ap (λ w. put w []) a.1)

at_behind : {h : List Action} → ComesTo main_text behind h → h ≡ put (front ++ declares ++ line adds) []
at_behind c = let k = came c in k.1 ∙ ap (λ w. put w []) (whole_behind k.2)

never : (x : ℕ) (a : Action) → Among a (actions_in (order_function main_text)) → BorrowsOwn a.act x → ⊥
never x a here b = b
never x a (there here) b = b
never x a (there (there here)) b = b
never x a (there (there (there here))) b = b
never x a (there (there (there (there here)))) b = b
never x a (there (there (there (there (there here))))) b = b
never x a (there (there (there (there (there (there here)))))) b = b
never x a (there (there (there (there (there (there (there here))))))) b = b
never x a (there (there (there (there (there (there (there (there here)))))))) b = b
never x a (there (there (there (there (there (there (there (there (there here))))))))) b = b
never x a (there (there (there (there (there (there (there (there (there (there here)))))))))) b = b
never x a (there (there (there (there (there (there (there (there (there (there (there here))))))))))) b = b
never x a (there (there (there (there (there (there (there (there (there (there (there (there here)))))))))))) b = b
never x a (there (there (there (there (there (there (there (there (there (there (there (there (there here))))))))))))) b = b
never x a (there (there (there (there (there (there (there (there (there (there (there (there (there (there here)))))))))))))) b = b
never x a (there (there (there (there (there (there (there (there (there (there (there (there (there (there (there i))))))))))))))) b = elim i [ ]

-- ---- the relation

abbrev about : About
about = record { special = 0 ∷ 1 ∷ []; asked = (0, part 1) ∷ (0, behind) ∷ (1, behind) ∷ [] }

untouched : Untouched main_text about
untouched a h x i k w b = never_borrowed main_text x (never x) a h k b

abbrev V : Facts
V = facts_of main_text about untouched

-- the variables in the caller, at the end of the new function, where they are received, and behind
abbrev outside : Renaming
outside = (0, sight 0 special) ∷ []

abbrev inside : Renaming
inside = (0, sight 5 special) ∷ []

abbrev at_end : Renaming
at_end = (1, sight 6 special) ∷ inside

abbrev received : Renaming
received = (0, sight 2 special) ∷ (1, sight 1 special) ∷ []

abbrev put_back : Renaming
put_back = (0, sight 0 special) ∷ received

abbrev then_seen : Renaming
then_seen = (1, sight 1 special) ∷ outside

new_and_not : (R : Renaming) (x o y : ℕ) → IsNew R y → (o ≡ y → ⊥) → IsNew ((x, sight o special) ∷ R) y
new_and_not R x o y new n z e f g = by (nat_eq z x) f
  where
    by : (b : Bool) → (if b then Some (sight o special) else sight_of R z) ≡ Some e → ⊥
    by true f = n (ap (λ (e : Sight). e.to) (same f) ∙ g)
      where
        same : Some (sight o special) ≡ Some e → sight o special ≡ e
        same e = cc
    by false f = new z e f g

living_part : (b : ℕ) (h : List Action) → ComesTo main_text (part b) h → Living V 0 h
living_part b h c = asked (part 1, inl refl, subst (λ b. ComesTo main_text (part b) h) (at_part c).0 c)

written_part : (b : ℕ) (h : List Action) → ComesTo main_text (part b) h → Written h 0
written_part b h c = subst (λ h. Written h 0) (sym (at_part c).1) (inl (refl, tt))

written_behind : (h : List Action) → ComesTo main_text behind h → Written h 0
written_behind h c = subst (λ h. Written h 0) (sym (at_behind c)) (inl (refl, tt))

written_new : (h : List Action) → ComesTo main_text behind h → Written h 1
written_new h c = subst (λ h. Written h 1) (sym (at_behind c)) (inr ((λ e. e), inr ((λ e. e), inr ((λ e. e), inr ((λ e. e), inl (refl, tt))))))

unlent : (b : ℕ) (h : List Action) → ComesTo main_text (part b) h → Borrowed h 0 → ⊥
unlent b h c l = by (subst (λ h. Borrowed h 0) (at_part c).1 l)
  where
    by : Borrowed (put front []) 0 → ⊥
    by (inl e) = e
    by (inr (n, inl e)) = e
    by (inr (n, inr (k, e))) = k refl

ready_old : (h : List Action) → Arrives V (to_rest (before (stretch 0 1) rest) (stretch 0 1)) h → Living V 0 h × Written h 0
ready_old h a = let c = (arrives_comes (stretch 0 1) rest a).2 in (asked (behind, inr (inl refl), c), written_behind h c)

ready_new : (h : List Action) → Arrives V (to_rest (before (stretch 0 1) rest) (stretch 0 1)) h → Living V 1 h × Written h 1
ready_new h a = let c = (arrives_comes (stretch 0 1) rest a).2 in (asked (behind, inr (inr (inl refl)), c), written_new h c)

covers : (x : ℕ) (e : Sight) → sight_of outside x ≡ Some e → (f : Sight) × (sight_of inside x ≡ Some f)
covers x e f = by (nat_eq x 0) f
  where
    by : (b : Bool) → (if b then Some (sight 0 special) else None) ≡ Some e → (f : Sight) × ((if b then Some (sight 5 special) else None) ≡ Some f)
    by true f = (sight 5 special, refl)
    by false f = absurd (none_some f)

moved : (x y : ℕ) → sight_of outside x ≡ Some (sight y special) → (z : ℕ) × (sight_of inside x ≡ Some (sight z special))
moved x y f = by (nat_eq x 0) f
  where
    by : (b : Bool) → (if b then Some (sight 0 special) else None) ≡ Some (sight y special) → (z : ℕ) × ((if b then Some (sight 5 special) else None) ≡ Some (sight z special))
    by true f = (5, refl)
    by false f = absurd (none_some f)

all_there : Within then_seen put_back
all_there x e f = by (nat_eq x 1) (nat_eq x 0) refl refl f
  where
    by : (b c : Bool) → nat_eq x 1 ≡ b → nat_eq x 0 ≡ c → (if b then Some (sight 1 special) else if c then Some (sight 0 special) else None) ≡ Some e → sight_of put_back x ≡ Some e
    by true c g k f = subst (λ x. sight_of put_back x ≡ Some e) (sym (eqb-true x 1 g)) f
    by false true g k f = subst (λ x. sight_of put_back x ≡ Some e) (sym (eqb-true x 0 k)) f
    by false false g k f = absurd (none_some f)

outer : Within outside then_seen
outer x e f = by (nat_eq x 0) refl f
  where
    by : (c : Bool) → nat_eq x 0 ≡ c → (if c then Some (sight 0 special) else None) ≡ Some e → sight_of then_seen x ≡ Some e
    by true k f = subst (λ x. sight_of then_seen x ≡ Some e) (sym (eqb-true x 0 k)) f
    by false k f = absurd (none_some f)

abbrev items : ℕ → ℕ
items zero = 0
items (suc f) = suc (suc f)

becomes : StatementsBecomeCall items (a_turn false) [] new V 1 whole_jumps outside then_seen rest (λ b. before (stretch 0 1) b) handing
becomes =
    statements_become_call {l = none_left} {mc = m 11} inside at_end (m 14) [] refl (enters [] inside inside (λ x i. absurd i)
    (λ i t. passes_move refl (λ k. k) (λ h c. living_part i h c) (λ h c. written_part i h c) refl (none_seen 5) passes_none) (λ i t. no_local) none_absent covers moved)
    (both_let (of_values (builds tt no_operands)) (binding_and special binders.takes_none no_steps (new_special (inr (inl refl))) refl (new_and_not [] 0 5 6 (none_seen 6) (λ e. absurd (cc))) no_binding)
    (both_do (updates (direct special refl tt tt no_steps) (direct special refl tt ((λ o. tt), tt) no_steps) (builds tt no_operands)) both_done))
    (end_gives (ready_and refl ready_new (ready_and refl ready_old none_ready)) (gives_tuple (takes_and takes_read (takes_and takes_read takes_none)))) (λ e f. absurd (not_tail e f)) calls_alone
    (hands_on [] put_back put_back (λ x e f. absurd (none_some f)) (λ x y e. absurd (none_some e))
    (spreads (received_and refl (new_and_not [] 0 0 1 (none_seen 1) (λ e. absurd (cc))) (none_seen 1) (received_and refl (new_and_not [] 0 0 2 (none_seen 2) (λ e. absurd (cc))) (new_and_not [] 1 1 2 (none_seen 2) (λ e. absurd (cc))) received_none)) (receives_and (receives_and receives_none))
    (stays_there (puts_and refl (new_and_not ((1, sight 1 special) ∷ []) 0 2 0 (new_and_not [] 1 1 0 (none_seen 0) (λ e. absurd (cc))) (λ e. absurd (cc))) (λ i t h c. unlent i h c) takes_read puts_none)))
    redeclares_none goes_on all_there outer)

main_alike : LikeFunction items (calls_of items (a_turn false) [] new) (a_turn false) main_text main_answer
main_alike = record {
  about = about;
  untouched = untouched;
  inside = [];
  params = no_param;
  body = blocks (lets_in outside 0 1 (omega arith) (of_values (builds tt no_operands))
      (binding_and special binders.takes_none no_steps (new_special (inl refl)) refl (none_seen 0) no_binding)
      (opens_in {b = rest} {b' = rest} {f = λ b. before (stretch 0 1) b} {f' = handing} 1 0 (omega arith) becomes
      (runs_on 0 0 (omega arith) (prints (reads (direct special refl tt tt no_steps))) (runs_on 0 0 (omega arith) (prints (reads (direct special refl tt tt no_steps))) (ends_in (gives refl units))))));
}

entries : (f : ℕ) → LikeEntry items (calls_of items (a_turn false) [] new) (a_turn false) (element text.functions f) (element answer.functions (items f))
entries zero = functions main_alike
entries (suc f) = neither tt tt

pub is_with_call : WithCall text answer new
is_with_call = record { items = items; strays = false; units = []; are_units = λ f i. absurd i; alike = record { all = entries; mains = refl }; stands = refl }

text_run : run text [] 1 ≡ record { printed = codes "5\n8\n"; end = End.Ended }
unfolding value below_level digits after bind result_of decided tested closed took bound begun take_turn passed returned with_arguments
text_run = refl

-- the call takes a turn
answer_cut : run answer [] 1 ≡ record { printed = []; end = End.Running }
unfolding value below_level digits after bind result_of decided tested closed took bound begun take_turn passed returned with_arguments
answer_cut = refl

answer_run : run answer [] 2 ≡ record { printed = codes "5\n8\n"; end = End.Ended }
unfolding value below_level digits after bind result_of decided tested closed took bound begun take_turn passed returned with_arguments
answer_run = refl
