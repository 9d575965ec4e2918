-- A program, and one in which the statements of a block became the call of a new function, that gives the block's value and beside it a
-- variable that moved in. What is asked of the text's histories is shown from its walks; both runs are computed.
use Rattle.std.proofs.Common.{◌≡◌, ℕ, zero, suc, Bool, true, false, nat_eq, if◌then◌else◌, List, [], ◌∷◌, ◌++◌, Some, None, refl, sym, ap, ap₂, ◌∙◌, subst, arith, inl, inr, ⊎_elim}
use Rattle.std.proofs.lemmas.List.{append-nil}
use Rattle.std.specs.Prelude.{codes}
use Rattle.std.specs.Fmt.{digits}
use Rattle.rx_meaning.specs.declared.outcome.End.{End}
use Rattle.rx_typed.specs.Tree as tree
use Rattle.rx_typed.specs.Tree.{Exp, Body, Function, Temporary, own}
use Rattle.rx_lower_walks.specs.Actions.{Print, Action, at_mark}
use Rattle.rx_lower_walks.specs.Orders as orders
use Rattle.rx_lower_walks.specs.Orders.{Order, order, order_body, order_function}
use Rattle.rx_lower_walks.specs.Walks as walk
use Rattle.rx_lower_walks.specs.Walks.{Walk, Among, here, there, actions_in}
use Rattle.rx_exits_plan.specs.Coming.{Into, all, in_first, in_second, in_scope}
use Rattle.rx_meaning.specs.Values.{element}
use Rattle.rx_meaning.specs.Results.{bind, after, result_of}
use Rattle.rx_meaning.specs.Patterns.{decided, tested, closed, bound, took, begun}
use Rattle.rx_meaning.specs.Expressions.{value, take_turn, passed, returned, with_arguments, below_level}
use Rattle.rx_meaning.specs.Programs.{Program, run}
use Rattle.rx_engine_simulation.specs.Histories.{put, Facts, Living, Written, Borrowed, BorrowsOwn, asked}
use Rattle.rx_engine_simulation.specs.Sights.{special, Sight, sight, Renaming, sight_of}
use Rattle.rx_engine_simulation.specs.Places.{direct, no_steps}
use Rattle.rx_engine_simulation.specs.Binders.{no_param, new_special, no_binding, binding_and}
use Rattle.rx_engine_simulation.specs.Binders as binders
use Rattle.rx_engine_simulation.specs.Like.{opens_in, reads, builds, updates, units, prints, blocks, gives, no_operands, of_values, ends_in, runs_on, lets_in}
use Rattle.rx_engine_simulation.specs.Programs.{About, Untouched, ComesTo, goes, begins, facts_of, LikeFunction, LikeEntry, functions, neither}
use Rattle.rx_engine_simulation.specs.Passing.{New, passes_none, passes_move, no_local, none_absent}
use Rattle.rx_engine_simulation.specs.Arrivals.{past_tail, Arrives, arrives_tail, none_ready, ready_and}
use Rattle.rx_engine_simulation.specs.Packing.{takes_read, takes_none, takes_and, gives_tuple, receives_none, receives_and}
use Rattle.rx_engine_simulation.specs.Handing.{received_none, received_and, puts_none, puts_and}
use Rattle.rx_engine_simulation.specs.Blocks.{before, through_none, through_run}
use Rattle.rx_engine_simulation.specs.Stretches.{both_done, both_do}
use Rattle.rx_engine_simulation.specs.Endings.{a_tail, left_tail, bound_value, end_tuple}
use Rattle.rx_engine_simulation.specs.Temporaries.{IsPlaced, goes_to_operand}
use Rattle.rx_engine_simulation.specs.Statements.{body_of, enters, calls_alone, as_tail, hands_beside, statements_become_call}
use Rattle.rx_engine_simulation.specs.Called.{calls_of, a_turn, WithCall}
use Rattle.rx_engine_simulation.proofs.Histories.{came, never_borrowed}
use Rattle.rx_engine_simulation.proofs.ExamplesOfStatements.{m, number, adding, line, line_is, not_act, not_nothing, not_leave, none_some, none_seen, front, adds}
use Rattle.rx_engine_simulation.proofs.ExamplesOfOuts.{some_same}

abbrev five : Exp
five = number 22 5

abbrev inner : Body
inner = before (adding 0) (tree.ends five)

abbrev main_with : Body → Function
main_with b = record {
  params = [];
  body = tree.block (m 1) (tree.lets 2 (tree.bind 3 0 (tree.by_value true)) (tree.of_value (number 4 7))
      (tree.runs (tree.print (m 20) (tree.block (m 21) b)) (tree.runs (tree.print (m 7) (tree.read (m 8) false (own 0))) (tree.ends (tree.give (m 1) (tree.unit (m 1)))))));
}

-- fn main() { let mut a = 7; println!("{}", { a += 1; 5 }); println!("{}", a); }
abbrev main_text : Function
main_text = main_with inner

abbrev call : Exp
call = tree.call (m 13) 1 (tree.operand_and 0 (tree.read (m 12) true (own 0)) tree.no_operand)

abbrev handing : Body
handing =
    tree.lets 30 (tree.parts (tree.part_and 0 (tree.bind 31 1 (tree.by_value false)) (tree.part_and 1 (tree.bind 32 2 (tree.by_value false)) tree.no_part))) (tree.of_value call)
    (tree.runs (tree.assign (m 33) (own 0) (tree.read (m 34) true (own 2))) (tree.ends (tree.read (m 35) true (own 1))))

-- fn main() { let mut a = 7; println!("{}", { let (out_0, out_1) = both(a); a = out_1; out_0 }); println!("{}", a); }
abbrev main_answer : Function
main_answer = main_with handing

-- fn both(mut a: i64) -> (i64, i64) { a += 1; let out_0: i64 = 5; (out_0, a) }
abbrev new : New
new = record {
  number = 1;
  function = record {
    params = record { node = 16; variable = 5 } ∷ [];
    body = body_of (m 19) [] (adding 5) (tree.lets 40 (tree.bind 41 6 (tree.by_value false)) (tree.of_value five)
        (tree.ends (tree.give (m 19) (tree.build (m 42) tree.tuple (tree.operand_and 0 (tree.read (m 43) true (own 6)) (tree.operand_and 1 (tree.read (m 44) true (own 5)) tree.no_operand))))));
  };
}

abbrev text : Program
text = record { functions = Some main_text ∷ []; main = 0 }

abbrev answer : Program
answer = record { functions = Some main_answer ∷ Some new.function ∷ []; main = 0 }

-- ---- walks of the text

-- the block, its value going to this temporary
abbrev part : Temporary → Order
part t = orders.then adds (order five t)

abbrev its : Temporary
its = tree.temporary_at 21 0

abbrev told : Order
told = orders.act (at_mark (m 20) (Print its))

abbrev prints_it : Order
prints_it = order (tree.print (m 7) (tree.read (m 8) false (own 0))) (tree.temporary_at 7 0)

part_in_number : {w : List Action} {n z : ℕ} {t u : Temporary} → Into (part t) (order (number n z) u) w → ⊥
part_in_number (in_first i) = not_nothing i
part_in_number (in_second k i) = not_act i

part_in_adding : {w : List Action} {t : Temporary} → Into (part t) adds w → ⊥
part_in_adding (in_first i) = part_in_number i
part_in_adding (in_second k (in_first i)) = not_act i
part_in_adding (in_second k (in_second l (in_first i))) = not_act i
part_in_adding (in_second k (in_second l (in_second e i))) = not_act i

part_in_part : {w : List Action} {t : Temporary} → Into (part t) (part its) w → (t ≡ its) × (w ≡ [])
part_in_part all = (refl, refl)
part_in_part (in_first i) = absurd (part_in_adding i)
part_in_part (in_second k i) = absurd (part_in_number i)

part_behind : {w : List Action} {t : Temporary} → Into (part t) (orders.then prints_it (order (tree.give (m 1) (tree.unit (m 1))) (tree.temporary_at 1 0))) w → ⊥
part_behind (in_first (in_first i)) = not_act i
part_behind (in_first (in_second k i)) = not_act i
part_behind (in_second k (in_first i)) = not_nothing i
part_behind (in_second k (in_second l (in_first i))) = not_act i
part_behind (in_second k (in_second l (in_second e i))) = not_leave i

whole_part : {w : List Action} {t : Temporary} → Into (part t) (order_function main_text) w → (t ≡ its) × (w ≡ front)
whole_part (in_first i) = absurd (part_in_number i)
whole_part (in_second k (in_first i)) = absurd (not_nothing i)
whole_part (in_second k (in_second l (in_first i))) = absurd (not_act i)
whole_part (in_second k (in_second l (in_second e (in_first i)))) = absurd (not_act i)
whole_part (in_second k (in_second l (in_second e (in_second f (in_scope (in_first (in_first i))))))) =
    let a = part_in_part i in (a.0, ap₂ (λ a b. a ++ b) (line_is (tt, tt) k) (ap₂ (λ a b. a ++ b) (line_is tt l) (ap₂ (λ a b. a ++ b) (line_is tt e) (ap₂ (λ a b. a ++ b) (line_is tt f) a.1))))
whole_part (in_second k (in_second l (in_second e (in_second f (in_scope (in_first (in_second g i))))))) = absurd (not_act i)
whole_part (in_second k (in_second l (in_second e (in_second f (in_scope (in_second g i)))))) = absurd (part_behind i)

at_part : {h : List Action} {t : Temporary} → ComesTo main_text (part t) h → (t ≡ its) × (h ≡ put front [])
at_part c = let k = came c in let a = whole_part k.2 in (a.0, k.1 ∙ ap (λ w. put w []) a.1)

-- behind the block its value is told
at_told : {u w : List Action} → Walk adds w walk.on → Walk (order five its) u walk.on → ComesTo main_text told (put u (put w (put front [])))
at_told {u} {w} k l = subst (λ h. ComesTo main_text told h) (ap₂ (λ u w. put u (put w (put front []))) (sym (line_is (tt, tt) l)) (sym (line_is ((tt, tt), (tt, (tt, tt))) k))) there_it_is
  where
    there_it_is : ComesTo main_text told (put (line (order five its)) (put (line adds) (put front [])))
    there_it_is = goes {w = front ++ ((line adds ++ line (order five its)) ++ [])}
        (in_second (walk.both walk.nothing walk.acts) (in_second walk.nothing (in_second walk.acts (in_second walk.acts (in_scope (in_first (in_second
        (walk.both (walk.both (walk.both walk.nothing walk.acts) (walk.both walk.acts (walk.both walk.acts walk.acts))) (walk.both walk.nothing walk.acts)) all))))))) begins

never : (x : ℕ) (a : Action) → Among a (actions_in (order_function main_text)) → BorrowsOwn a.act x → ⊥
never x a here b = b
never x a (there here) b = b
never x a (there (there here)) b = b
never x a (there (there (there here))) b = b
never x a (there (there (there (there here)))) b = b
never x a (there (there (there (there (there here))))) b = b
never x a (there (there (there (there (there (there here)))))) b = b
never x a (there (there (there (there (there (there (there here))))))) b = b
never x a (there (there (there (there (there (there (there (there here)))))))) b = b
never x a (there (there (there (there (there (there (there (there (there here))))))))) b = b
never x a (there (there (there (there (there (there (there (there (there (there here)))))))))) b = b
never x a (there (there (there (there (there (there (there (there (there (there (there here))))))))))) b = b
never x a (there (there (there (there (there (there (there (there (there (there (there (there i)))))))))))) b = elim i [ ]

-- ---- the relation

abbrev about : About
about = record { special = 0 ∷ []; asked = (0, part its) ∷ (0, told) ∷ [] }

untouched : Untouched main_text about
untouched a h x i k w b = never_borrowed main_text x (never x) a h k b

abbrev V : Facts
V = facts_of main_text about untouched

abbrev outside : Renaming
outside = (0, sight 0 special) ∷ []

abbrev inside : Renaming
inside = (0, sight 5 special) ∷ []

living_part : (t : Temporary) (h : List Action) → ComesTo main_text (part t) h → Living V 0 h
living_part t h c = asked (part its, inl refl, subst (λ t. ComesTo main_text (part t) h) (at_part c).0 c)

written_part : (t : Temporary) (h : List Action) → ComesTo main_text (part t) h → Written h 0
written_part t h c = subst (λ h. Written h 0) (sym (at_part c).1) (inl (refl, tt))

unlent : (t : Temporary) (h : List Action) → ComesTo main_text (part t) h → Borrowed h 0 → ⊥
unlent t h c b = by (subst (λ h. Borrowed h 0) (at_part c).1 b)
  where
    by : Borrowed (put front []) 0 → ⊥
    by (inl e) = e
    by (inr (n, inl e)) = e
    by (inr (n, inr (k, e))) = k refl

placed : (f : Exp) → a_tail five ≡ a_tail f → IsPlaced V inner f
placed f e = subst (λ f. IsPlaced V inner f) (same e) (goes_to_operand (λ i t h c. ap (λ (t : Temporary). t.which) (at_part c).0))
  where
    same : a_tail five ≡ a_tail f → five ≡ f
    same e = cc

ready_past : (h : List Action) → Arrives V (past_tail inner (adding 0) five) h → Living V 0 h × Written h 0
ready_past h (arrives_tail {h = h0} {u = u} i t c (through_run {u = w} k through_none) l) =
    let a = at_part c in
    let l1 : Walk (order five its) u walk.on = subst (λ t. Walk (order five t) u walk.on) a.0 l in (
      subst (λ h0. Living V 0 (put u (put (w ++ []) h0))) (sym a.1) (subst (λ w. Living V 0 (put u (put w (put front [])))) (sym (append-nil w)) (asked (told, inr (inl refl), at_told k l1))),
      subst (λ h0. Written (put u (put (w ++ []) h0)) 0) (sym a.1) (subst (λ w. Written (put u (put (w ++ []) (put front []))) 0) (sym (line_is ((tt, tt), (tt, (tt, tt))) k)) (subst (λ u. Written (put u (put (line adds ++ []) (put front []))) 0) (sym (line_is (tt, tt) l1)) (inr ((λ e. e), inl (refl, tt))))),
    )

covers : (x : ℕ) (e : Sight) → sight_of outside x ≡ Some e → (f : Sight) × (sight_of inside x ≡ Some f)
covers x e f = by (nat_eq x 0) f
  where
    by : (b : Bool) → (if b then Some (sight 0 special) else None) ≡ Some e → (f : Sight) × ((if b then Some (sight 5 special) else None) ≡ Some f)
    by true f = (sight 5 special, refl)
    by false f = absurd (none_some f)

moved : (x y : ℕ) → sight_of outside x ≡ Some (sight y special) → (z : ℕ) × (sight_of inside x ≡ Some (sight z special))
moved x y f = by (nat_eq x 0) f
  where
    by : (b : Bool) → (if b then Some (sight 0 special) else None) ≡ Some (sight y special) → (z : ℕ) × ((if b then Some (sight 5 special) else None) ≡ Some (sight z special))
    by true f = (5, refl)
    by false f = absurd (none_some f)

-- no variable of the answer but this one stands for the text's
new_of : (y o z : ℕ) (e : Sight) → (y ≡ o → ⊥) → sight_of ((0, sight y special) ∷ []) z ≡ Some e → e.to ≡ o → ⊥
new_of y o z e n f g = by (nat_eq z 0) f
  where
    by : (b : Bool) → (if b then Some (sight y special) else None) ≡ Some e → ⊥
    by true f = n (ap (λ (e : Sight). e.to) (some_same f) ∙ g)
    by false f = none_some f

back : (x : ℕ) (e : Sight) → sight_of outside x ≡ Some e → sight_of ((0, sight 0 special) ∷ (0, sight 2 special) ∷ []) x ≡ Some e
back x e f = by (nat_eq x 0) f
  where
    by : (b : Bool) → (if b then Some (sight 0 special) else None) ≡ Some e → (if b then Some (sight 0 special) else if b then Some (sight 2 special) else None) ≡ Some e
    by true f = f
    by false f = f

abbrev items : ℕ → ℕ
items zero = 0
items (suc f) = suc (suc f)

main_alike : LikeFunction items (calls_of items (a_turn false) [] new) (a_turn false) main_text main_answer
main_alike = record {
  about = about;
  untouched = untouched;
  inside = [];
  params = no_param;
  body = blocks (lets_in outside 0 1 (omega arith) (of_values (builds tt no_operands))
      (binding_and special binders.takes_none no_steps (new_special (inl refl)) refl (none_seen 0) no_binding)
      (runs_on 1 0 (omega arith)
      (prints (blocks (opens_in {Ra = outside} {b = tree.ends (tree.unit (m 9))} {b' = tree.ends (tree.unit (m 9))} {f = λ b. inner} {f' = λ b. handing} 1 0 (omega arith)
      (statements_become_call {r = adding 0} {l = a_tail five} {has = true} {xs = 0 ∷ []} {rest = tree.ends (tree.unit (m 9))} {mc = m 13} inside inside (m 19) [] refl (enters [] inside inside (λ x i. absurd i)
      (λ i t. passes_move refl (λ k. k) (living_part t) (written_part t) refl (none_seen 5) passes_none) (λ i t. no_local) none_absent covers moved)
      (both_do (updates (direct special refl tt tt no_steps) (direct special refl tt ((λ o. tt), tt) no_steps) (builds tt no_operands)) both_done)
      (end_tuple left_tail (bound_value (builds tt no_operands)) (λ z e f g. new_of 5 6 z e (λ k. absurd (omega (arith, k))) f g) (λ i. ⊎_elim (λ k. absurd (omega (arith, k))) (λ k. k) i) (ready_and refl ready_past none_ready) (gives_tuple (takes_and takes_read (takes_and takes_read takes_none))))
      placed calls_alone
      (hands_beside [] ((0, sight 2 special) ∷ []) ((0, sight 0 special) ∷ (0, sight 2 special) ∷ []) (λ x e f. absurd (none_some f)) (λ x y e. absurd (none_some e)) (λ z e f g. new_of 0 1 z e (λ k. absurd (omega (arith, k))) f g) (λ i. ⊎_elim (λ k. absurd (omega (arith, k))) (λ k. k) i)
      (received_and refl (λ z e f g. new_of 0 2 z e (λ k. absurd (omega (arith, k))) f g) (none_seen 2) received_none) (receives_and (receives_and receives_none))
      (puts_and refl (λ z e f g. new_of 2 0 z e (λ k. absurd (omega (arith, k))) f g) (λ i t h c. unlent t h c) takes_read puts_none) back takes_read as_tail))
      (ends_in units))))
      (runs_on 0 0 (omega arith) (prints (reads (direct special refl tt tt no_steps))) (ends_in (gives refl units)))));
}

entries : (f : ℕ) → LikeEntry items (calls_of items (a_turn false) [] new) (a_turn false) (element text.functions f) (element answer.functions (items f))
entries zero = functions main_alike
entries (suc f) = neither tt tt

pub is_with_call : WithCall text answer new
is_with_call = record { items = items; strays = false; units = []; are_units = λ f i. absurd i; alike = record { all = entries; mains = refl }; stands = refl }

text_run : run text [] 1 ≡ record { printed = codes "5\n8\n"; end = End.Ended }
unfolding value below_level digits after bind result_of decided tested closed took bound begun take_turn passed returned with_arguments
text_run = refl

answer_run : run answer [] 2 ≡ record { printed = codes "5\n8\n"; end = End.Ended }
unfolding value below_level digits after bind result_of decided tested closed took bound begun take_turn passed returned with_arguments
answer_run = refl
