-- A program, and one in which the statements of a loop became the call of a new function, whose only variant hands a variable out: the
-- loop is left with it. What is asked of the text's histories is shown from its walks; both runs are computed.
use Rattle.std.proofs.Common.{◌≡◌, ℕ, zero, suc, Bool, true, false, nat_eq, if◌then◌else◌, List, [], ◌∷◌, ◌++◌, Option, Some, None, refl, sym, ap, ap₂, ◌∙◌, subst, arith, inl, inr, ◌⊎◌, eqb-true}
use Rattle.std.specs.Prelude.{codes}
use Rattle.std.specs.Fmt.{digits}
use Rattle.rx_tree.specs.declared.tree.BinaryOp.{BinaryOp}
use Rattle.rx_meaning.specs.declared.outcome.End.{End}
use Rattle.rx_typed.specs.Tree as tree
use Rattle.rx_typed.specs.Tree.{Exp, Arms, Body, Function, own}
use Rattle.rx_lower_walks.specs.Actions.{Action}
use Rattle.rx_lower_walks.specs.Orders as orders
use Rattle.rx_lower_walks.specs.Orders.{Exit, Order, order, order_body, order_function}
use Rattle.rx_lower_walks.specs.Walks as walk
use Rattle.rx_lower_walks.specs.Walks.{Walk, Out, Passed, by_end, by_continue, Among, here, there, actions_in}
use Rattle.rx_exits_plan.specs.Coming.{Into, all, in_first, in_second, in_scope, in_pass, in_later}
use Rattle.rx_meaning.specs.Values.{element}
use Rattle.rx_meaning.specs.Results.{bind, after, result_of}
use Rattle.rx_meaning.specs.Patterns.{decided, tested, closed, bound, took, begun}
use Rattle.rx_meaning.specs.Expressions.{value, take_turn, passed, returned, with_arguments, below_level}
use Rattle.rx_meaning.specs.Programs.{Program, run}
use Rattle.rx_engine_simulation.specs.Histories.{put, Facts, Living, Written, Borrowed, BorrowsOwn, asked}
use Rattle.rx_engine_simulation.specs.Sights.{special, Sight, sight, Renaming, sight_of}
use Rattle.rx_engine_simulation.specs.Places.{direct, no_steps}
use Rattle.rx_engine_simulation.specs.Binders.{no_param, new_special, no_binding, binding_and}
use Rattle.rx_engine_simulation.specs.Binders as binders
use Rattle.rx_engine_simulation.specs.Jumps.{Pack, no_return, Jumping, loop_of}
use Rattle.rx_engine_simulation.specs.Like.{opens, opens_in, reads, builds, updates, units, prints, blocks, loops, gives, no_operands, of_values, ends_in, runs_on, lets_in}
use Rattle.rx_engine_simulation.specs.Programs.{About, Untouched, ComesTo, facts_of, LikeFunction, LikeEntry, functions, neither}
use Rattle.rx_engine_simulation.specs.Passing.{New, passes_none, passes_move, no_local, none_absent}
use Rattle.rx_engine_simulation.specs.Arrivals.{to_rest, to_part, Arrives, arrives_rest, arrives_part, none_ready, ready_and}
use Rattle.rx_engine_simulation.specs.Packing.{takes_read, takes_none, takes_and, gives_variant, receives_none, receives_and, picks_here}
use Rattle.rx_engine_simulation.specs.Handing.{received_none, received_and, puts_none, puts_and}
use Rattle.rx_engine_simulation.specs.Variants.{leaves_loop, JumpArm, jump_arm, jumps_last}
use Rattle.rx_engine_simulation.specs.Blocks.{Stretch, done, does_then, before, through_run}
use Rattle.rx_engine_simulation.specs.Stretches.{both_done, both_do}
use Rattle.rx_engine_simulation.specs.Endings.{none_left, end_never}
use Rattle.rx_engine_simulation.specs.Statements.{body_of, enters, matches_jumps, hands_none, statements_become_call}
use Rattle.rx_engine_simulation.specs.Called.{calls_of, a_turn, WithCall}
use Rattle.rx_engine_simulation.proofs.Histories.{came, never_borrowed}
use Rattle.rx_engine_simulation.proofs.ExamplesOfStatements.{not_tail, m, number, IsLine, line, line_is, not_act, not_nothing, not_leave, none_some, none_seen, front, adds}

-- a += 1; ..
abbrev stretch : ℕ → Exp → Stretch
stretch x e = does_then (tree.update (m 5) BinaryOp.Add (own x) (number 6 1)) (does_then e done)

abbrev breaking : Exp
breaking = tree.jump (m 11) 0 false

abbrev rest : Body
rest = tree.ends (tree.unit (m 9))

abbrev main_with : Body → Function
main_with b = record {
  params = [];
  body = tree.block (m 1) (tree.lets 2 (tree.bind 3 0 (tree.by_value true)) (tree.of_value (number 4 7))
      (tree.runs (tree.loop (m 8) 0 (tree.block (m 9) b)) (tree.runs (tree.print (m 7) (tree.read (m 10) false (own 0))) (tree.ends (tree.give (m 1) (tree.unit (m 1)))))));
}

-- fn main() { let mut a = 7; loop { a += 1; break; } println!("{}", a); }
abbrev main_text : Function
main_text = main_with (before (stretch 0 breaking) rest)

abbrev call : Exp
call = tree.call (m 13) 1 (tree.operand_and 0 (tree.read (m 12) true (own 0)) tree.no_operand)

abbrev leaving_arm : Arms
leaving_arm =
    tree.arm_and (tree.variant 18 2 false 0 (tree.part_and 0 (tree.bind 20 8 (tree.by_value false)) tree.no_part))
    (tree.block (m 23) (tree.runs (tree.assign (m 24) (own 0) (tree.read (m 25) true (own 8))) (tree.runs (tree.jump (m 26) 0 false) (tree.ends (tree.unit (m 23)))))) tree.no_arm

abbrev matched : Body → Body
matched b = tree.runs (tree.choose (m 22) (tree.of_value call) leaving_arm) b

-- fn main() { let mut a = 7; loop { match step(a) { Exit::Break_0(out_0) => { a = out_0; break; } }; } println!("{}", a); }
abbrev main_answer : Function
main_answer = main_with (matched rest)

-- return Exit::Break_0(a)
abbrev telling : ℕ → Exp
telling z = tree.give (m 11) (tree.build (m 14) (tree.variant_of 2 0) (tree.operand_and 0 (tree.read (m 15) true (own z)) tree.no_operand))

-- fn step(mut a: i64) -> Exit { a += 1; return Exit::Break_0(a); }
abbrev new : New
new = record { number = 1; function = record { params = record { node = 16; variable = 5 } ∷ []; body = body_of (m 19) [] (stretch 5 (telling 5)) (tree.ends (tree.give (m 19) (tree.unit (m 19)))) } }

abbrev text : Program
text = record { functions = Some main_text ∷ []; main = 0 }

abbrev answer : Program
answer = record { functions = Some main_answer ∷ Some new.function ∷ []; main = 0 }

-- ---- walks of the text

abbrev pass : Order
pass = order_body (before (stretch 0 breaking) rest) 9 (tree.temporary_at 9 0)

abbrev leave : Order
leave = order breaking (tree.temporary_at 11 0)

abbrev prints_it : Order
prints_it = order (tree.print (m 7) (tree.read (m 10) false (own 0))) (tree.temporary_at 7 0)

no_leave : {x : Exit} {w : List Action} → Walk (orders.leave x) w walk.on → ⊥
no_leave k = elim k [ ]

line_stays : {s : Order} {w : List Action} {x : Exit} → IsLine s → Walk s w (walk.leaves x) → ⊥
line_stays l (walk.both h k) = line_stays l.1 k
line_stays l (walk.first e h) = line_stays l.0 h
line_stays l (walk.one h) = absurd l
line_stays l (walk.other h) = absurd l
line_stays l walk.leave = absurd l
line_stays l (walk.jumps h) = absurd l
line_stays l (walk.holds e h) = absurd l
line_stays l (walk.next h k) = absurd l
line_stays l (walk.last h e) = absurd l
line_stays l (walk.more h e k) = absurd l

-- a pass leaves the loop
not_passed : {w : List Action} {o : Out} → Walk pass w o → Passed 0 o → ⊥
not_passed walk.rests p = elim p [ ]
not_passed (walk.stops h) p = elim p [ ]
not_passed (walk.both h walk.rests) p = elim p [ ]
not_passed (walk.both h (walk.stops k)) p = elim p [ ]
not_passed (walk.both h (walk.both k l)) p = no_leave k
not_passed (walk.both h (walk.first e k)) by_end = absurd e
not_passed (walk.both h (walk.first e k)) (by_continue f) = elim k [ ]
not_passed (walk.first e h) by_end = absurd e
not_passed (walk.first e h) (by_continue f) = line_stays ((tt, tt), (tt, (tt, tt))) h

pass_in_number : {w : List Action} {n z : ℕ} → Into pass (order (number n z) (tree.temporary_at n 0)) w → ⊥
pass_in_number (in_first i) = not_nothing i
pass_in_number (in_second k i) = not_act i

pass_in_adding : {w : List Action} → Into pass adds w → ⊥
pass_in_adding (in_first i) = pass_in_number i
pass_in_adding (in_second k (in_first i)) = not_act i
pass_in_adding (in_second k (in_second l (in_first i))) = not_act i
pass_in_adding (in_second k (in_second l (in_second e i))) = not_act i

pass_in_pass : {w : List Action} → Into pass pass w → w ≡ []
pass_in_pass all = refl
pass_in_pass (in_first i) = absurd (pass_in_adding i)
pass_in_pass (in_second k (in_first i)) = absurd (not_leave i)
pass_in_pass (in_second k (in_second l i)) = absurd (not_nothing i)

pass_behind : {w : List Action} → Into pass (orders.then prints_it (order (tree.give (m 1) (tree.unit (m 1))) (tree.temporary_at 1 0))) w → ⊥
pass_behind (in_first (in_first i)) = not_act i
pass_behind (in_first (in_second k i)) = not_act i
pass_behind (in_second k (in_first i)) = not_nothing i
pass_behind (in_second k (in_second l (in_first i))) = not_act i
pass_behind (in_second k (in_second l (in_second e i))) = not_leave i

whole_pass : {w : List Action} → Into pass (order_function main_text) w → w ≡ front
whole_pass (in_first i) = absurd (pass_in_number i)
whole_pass (in_second k (in_first i)) = absurd (not_nothing i)
whole_pass (in_second k (in_second l (in_first i))) = absurd (not_act i)
whole_pass (in_second k (in_second l (in_second e (in_first i)))) = absurd (not_act i)
whole_pass (in_second k (in_second l (in_second e (in_second f (in_scope (in_first (in_pass i))))))) =
    ap₂ (λ a b. a ++ b) (line_is (tt, tt) k) (ap₂ (λ a b. a ++ b) (line_is tt l) (ap₂ (λ a b. a ++ b) (line_is tt e) (ap₂ (λ a b. a ++ b) (line_is tt f) (pass_in_pass i))))
whole_pass (in_second k (in_second l (in_second e (in_second f (in_scope (in_first (in_later g p i))))))) = absurd (not_passed g p)
whole_pass (in_second k (in_second l (in_second e (in_second f (in_scope (in_second g i)))))) = absurd (pass_behind i)

leave_in_number : {w : List Action} {n z : ℕ} → Into leave (order (number n z) (tree.temporary_at n 0)) w → ⊥
leave_in_number (in_first i) = elim i [ ]
leave_in_number (in_second k i) = elim i [ ]

leave_in_adding : {w : List Action} → Into leave adds w → ⊥
leave_in_adding (in_first i) = leave_in_number i
leave_in_adding (in_second k (in_first i)) = elim i [ ]
leave_in_adding (in_second k (in_second l (in_first i))) = elim i [ ]
leave_in_adding (in_second k (in_second l (in_second e i))) = elim i [ ]

leave_in_pass : {w : List Action} → Into leave pass w → w ≡ line adds ++ []
leave_in_pass (in_first i) = absurd (leave_in_adding i)
leave_in_pass (in_second k (in_first all)) = ap (λ u. u ++ []) (line_is ((tt, tt), (tt, (tt, tt))) k)
leave_in_pass (in_second k (in_second l i)) = absurd (no_leave l)

leave_behind : {w : List Action} → Into leave (orders.then prints_it (order (tree.give (m 1) (tree.unit (m 1))) (tree.temporary_at 1 0))) w → ⊥
leave_behind (in_first (in_first i)) = elim i [ ]
leave_behind (in_first (in_second k i)) = elim i [ ]
leave_behind (in_second k (in_first i)) = elim i [ ]
leave_behind (in_second k (in_second l (in_first i))) = elim i [ ]
leave_behind (in_second k (in_second l (in_second e i))) = elim i [ ]

whole_leave : {w : List Action} → Into leave (order_function main_text) w → w ≡ front ++ (line adds ++ [])
whole_leave (in_first i) = absurd (leave_in_number i)
whole_leave (in_second k (in_first i)) = absurd (elim i [ ])
whole_leave (in_second k (in_second l (in_first i))) = absurd (elim i [ ])
whole_leave (in_second k (in_second l (in_second e (in_first i)))) = absurd (elim i [ ])
whole_leave (in_second k (in_second l (in_second e (in_second f (in_scope (in_first (in_pass i))))))) =
    ap₂ (λ a b. a ++ b) (line_is (tt, tt) k) (ap₂ (λ a b. a ++ b) (line_is tt l) (ap₂ (λ a b. a ++ b) (line_is tt e) (ap₂ (λ a b. a ++ b) (line_is tt f) (leave_in_pass i))))
whole_leave (in_second k (in_second l (in_second e (in_second f (in_scope (in_first (in_later g p i))))))) = absurd (not_passed g p)
whole_leave (in_second k (in_second l (in_second e (in_second f (in_scope (in_second g i)))))) = absurd (leave_behind i)

at_pass : {h : List Action} → ComesTo main_text pass h → h ≡ put front []
at_pass c = let k = came c in k.1 ∙ ap (λ w. put w []) (whole_pass k.2)

at_leave : {h : List Action} → ComesTo main_text leave h → h ≡ put (front ++ (line adds ++ [])) []
at_leave c = let k = came c in k.1 ∙ ap (λ w. put w []) (whole_leave k.2)

never : (x : ℕ) (a : Action) → Among a (actions_in (order_function main_text)) → BorrowsOwn a.act x → ⊥
never x a here b = b
never x a (there here) b = b
never x a (there (there here)) b = b
never x a (there (there (there here))) b = b
never x a (there (there (there (there here)))) b = b
never x a (there (there (there (there (there here))))) b = b
never x a (there (there (there (there (there (there here)))))) b = b
never x a (there (there (there (there (there (there (there here))))))) b = b
never x a (there (there (there (there (there (there (there (there here)))))))) b = b
never x a (there (there (there (there (there (there (there (there (there here))))))))) b = b
never x a (there (there (there (there (there (there (there (there (there (there i)))))))))) b = elim i [ ]

-- ---- the relation

abbrev about : About
about = record { special = 0 ∷ []; asked = (0, pass) ∷ (0, leave) ∷ [] }

untouched : Untouched main_text about
untouched a h x i k w b = never_borrowed main_text x (never x) a h k b

abbrev V : Facts
V = facts_of main_text about untouched

abbrev outside : Renaming
outside = (0, sight 0 special) ∷ []

abbrev inside : Renaming
inside = (0, sight 5 special) ∷ []

abbrev leaving_by : ℕ → Bool → Option Pack
leaving_by l true = None
leaving_by l false = if nat_eq l 0 then Some (record { variant = 0; outs = 0 ∷ [] }) else None

abbrev jumps_inside : Jumping
jumps_inside = record { loops = []; leaving = leaving_by; returning = no_return; dead = 0 ∷ [] }

written_pass : (h : List Action) → ComesTo main_text pass h → Written h 0
written_pass h c = subst (λ h. Written h 0) (sym (at_pass c)) (inl (refl, tt))

written_leave : (h : List Action) → ComesTo main_text leave h → Written h 0
written_leave h c = subst (λ h. Written h 0) (sym (at_leave c)) (inl (refl, tt))

ready_leave : (h : List Action) → Arrives V (to_part breaking) h → Living V 0 h × Written h 0
ready_leave h (arrives_part t c) = (asked (leave, inr (inl refl), c), written_leave h c)

unlent : (h : List Action) → ComesTo main_text pass h → Borrowed h 0 → ⊥
unlent h c b = by (subst (λ h. Borrowed h 0) (at_pass c) b)
  where
    by : Borrowed (put front []) 0 → ⊥
    by (inl e) = e
    by (inr (n, inl e)) = e
    by (inr (n, inr (k, e))) = k refl

no_end : (h : List Action) → Arrives V (to_rest (before (stretch 0 breaking) rest) (stretch 0 breaking)) h → ⊥
no_end h (arrives_rest i t c (through_run k (through_run l th))) = no_leave l

covers : (x : ℕ) (e : Sight) → sight_of outside x ≡ Some e → (f : Sight) × (sight_of inside x ≡ Some f)
covers x e f = by (nat_eq x 0) f
  where
    by : (b : Bool) → (if b then Some (sight 0 special) else None) ≡ Some e → (f : Sight) × ((if b then Some (sight 5 special) else None) ≡ Some f)
    by true f = (sight 5 special, refl)
    by false f = absurd (none_some f)

moved : (x y : ℕ) → sight_of outside x ≡ Some (sight y special) → (z : ℕ) × (sight_of inside x ≡ Some (sight z special))
moved x y f = by (nat_eq x 0) f
  where
    by : (b : Bool) → (if b then Some (sight 0 special) else None) ≡ Some (sight y special) → (z : ℕ) × ((if b then Some (sight 5 special) else None) ≡ Some (sight z special))
    by true f = (5, refl)
    by false f = absurd (none_some f)

is_dead : (x y : ℕ) → sight_of outside x ≡ Some (sight y special) → (x ≡ 0) ⊎ ⊥
is_dead x y f = by (nat_eq x 0) refl f
  where
    by : (b : Bool) → nat_eq x 0 ≡ b → (if b then Some (sight 0 special) else None) ≡ Some (sight y special) → (x ≡ 0) ⊎ ⊥
    by true e f = inl (eqb-true x 0 e)
    by false e f = absurd (none_some f)

pub some_same : {A : Type 0} {a b : A} → Some a ≡ Some b → a ≡ b
some_same e = cc

back : (x : ℕ) (e : Sight) → sight_of outside x ≡ Some e → sight_of ((0, sight 0 special) ∷ (0, sight 8 special) ∷ []) x ≡ Some e
back x e f = by (nat_eq x 0) f
  where
    by : (b : Bool) → (if b then Some (sight 0 special) else None) ≡ Some e → (if b then Some (sight 0 special) else if b then Some (sight 8 special) else None) ≡ Some e
    by true f = f
    by false f = f

new_eight : (z : ℕ) (e : Sight) → sight_of outside z ≡ Some e → e.to ≡ 8 → ⊥
new_eight z e f g = by (nat_eq z 0) f
  where
    by : (b : Bool) → (if b then Some (sight 0 special) else None) ≡ Some e → ⊥
    by true f = let k : 0 ≡ 8 = ap (λ (e : Sight). e.to) (some_same f) ∙ g in absurd (omega (arith, k))
    by false f = none_some f

new_zero : (z : ℕ) (e : Sight) → sight_of ((0, sight 8 special) ∷ []) z ≡ Some e → e.to ≡ 0 → ⊥
new_zero z e f g = by (nat_eq z 0) f
  where
    by : (b : Bool) → (if b then Some (sight 8 special) else None) ≡ Some e → ⊥
    by true f = let k : 8 ≡ 0 = ap (λ (e : Sight). e.to) (some_same f) ∙ g in absurd (omega (arith, k))
    by false f = none_some f

all_there : (x : ℕ) → (x ≡ 0) ⊎ ⊥ → (y : ℕ) × (sight_of outside x ≡ Some (sight y special))
all_there x (inl e) = (0, ap (λ x. sight_of outside x) e)
all_there x (inr e) = absurd e

abbrev Jumps : Bool → Option ℕ → Pack → Type 0
Jumps again o p = (mj : tree.Mark) × (k : ℕ) × (o ≡ Some k) × JumpArm V outside (before (stretch 0 breaking) rest) leaving_arm p (tree.jump mj k again)

jumps_on : (l : ℕ) (again : Bool) (p : Pack) → leaving_by l again ≡ Some p → Jumps again (loop_of ((0, 0) ∷ []) l) p
jumps_on l true p e = absurd (none_some e)
jumps_on l false p e = by (nat_eq l 0) e
  where
    by : (b : Bool) → (if b then Some (record { variant = 0; outs = 0 ∷ [] }) else None) ≡ Some p → Jumps false (if b then Some 0 else None) p
    by true f =
        subst (λ p. Jumps false (Some 0) p) (some_same f) (
          m 26,
          0,
          refl,
          jump_arm {f = λ b. tree.runs (tree.assign (m 24) (own 0) (tree.read (m 25) true (own 8))) b} [] ((0, sight 8 special) ∷ []) ((0, sight 0 special) ∷ (0, sight 8 special) ∷ []) all_there (λ x e f. absurd (none_some f))
              (received_and refl new_eight (none_seen 8) received_none) (receives_and receives_none) picks_here (puts_and refl new_zero (λ i t h c. unlent h c) takes_read puts_none) back (jumps_last (m 23)),
        )
    by false f = absurd (none_some f)

abbrev items : ℕ → ℕ
items zero = 0
items (suc f) = suc (suc f)

main_alike : LikeFunction items (calls_of items (a_turn false) [] new) (a_turn false) main_text main_answer
main_alike = record {
  about = about;
  untouched = untouched;
  inside = [];
  params = no_param;
  body = blocks (lets_in outside 0 1 (omega arith) (of_values (builds tt no_operands))
      (binding_and special binders.takes_none no_steps (new_special (inl refl)) refl (none_seen 0) no_binding)
      (runs_on 1 0 (omega arith)
      (loops (λ n e. absurd (none_some e)) refl refl (blocks
      (opens_in {Ra = outside} {b = rest} {b' = rest} {f = λ b. before (stretch 0 breaking) b} {f' = matched} 1 0 (omega arith)
      (statements_become_call {r = stretch 0 breaking} {l = none_left} {has = false} {xs = []} {rest = rest} {mc = m 13} inside inside (m 19) [] refl (enters [] inside inside (λ x i. absurd i)
      (λ i t. passes_move refl (λ k. k) (λ h c. asked (pass, inl refl, c)) written_pass refl (none_seen 5) passes_none) (λ i t. no_local) none_absent covers moved)
      (both_do (updates (direct special refl tt tt no_steps) (direct special refl tt ((λ o. tt), tt) no_steps) (builds tt no_operands)) (both_do
      (opens {e = tree.unit (m 9)} {e' = tree.unit (m 9)} {f = λ x. breaking} {f' = λ x. telling 5} 0 0 (omega arith)
      (leaves_loop (record { variant = 0; outs = 0 ∷ [] }) refl (ready_and refl ready_leave none_ready) (gives_variant (takes_and takes_read takes_none)) (λ h a x i n. absurd (n i))) units) both_done))
      (end_never no_end) (λ e f. absurd (not_tail e f))
      (matches_jumps {Ji = jumps_inside} (record { all_dead = is_dead; no_loops = refl; jumps_on = jumps_on; returns_on = tt }))
      (hands_none {g = λ b. b}))
      (ends_in units))))
      (runs_on 0 0 (omega arith) (prints (reads (direct special refl tt tt no_steps))) (ends_in (gives refl units)))));
}

entries : (f : ℕ) → LikeEntry items (calls_of items (a_turn false) [] new) (a_turn false) (element text.functions f) (element answer.functions (items f))
entries zero = functions main_alike
entries (suc f) = neither tt tt

pub is_with_call : WithCall text answer new
is_with_call = record { items = items; strays = false; units = []; are_units = λ f i. absurd i; alike = record { all = entries; mains = refl }; stands = refl }

text_run : run text [] 2 ≡ record { printed = codes "8\n"; end = End.Ended }
unfolding value below_level digits after bind result_of decided tested closed took bound begun take_turn passed returned with_arguments
text_run = refl

answer_run : run answer [] 3 ≡ record { printed = codes "8\n"; end = End.Ended }
unfolding value below_level digits after bind result_of decided tested closed took bound begun take_turn passed returned with_arguments
answer_run = refl
