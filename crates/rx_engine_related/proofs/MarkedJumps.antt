-- The marks of one `break` or `continue` lead to one place of the function with marks, in which one stands behind what each `return` of the run
-- gives too.
use Rattle.std.proofs.Common.{◌≡◌, ℕ, ◌+◌, ◌*◌, ◌≤◌, ◌==◌, if◌then◌else◌, Bool, true, false, List, [], ◌∷◌, ◌++◌, map, drop, refl, arith}
use Rattle.rx_typed.specs.Tree.{Temporary, Mark, Exp, read, borrow, share, build, unit, lazily, assign, update, call, input, print, block, choose, loop, jump, give, Body, ends, Function, temporary_of}
use Rattle.rx_lower_walks.specs.Orders.{order, order_body, order_function}
use Rattle.rx_lower_walks.specs.Orders as orders
use Rattle.rx_lower_walks.specs.Walks.{Among}
use Rattle.rx_exits_plan.specs.Blocks.{statements, tail, before}
use Rattle.rx_exits_plan.specs.Spots.{a_block, spots_of_function}
use Rattle.rx_exits_plan.specs.Runs.{Run, Home, in_front, inside, behind}
use Rattle.rx_exits_plan.specs.Points.{enters, leaves, next, returns, jump_exit, number}
use Rattle.rx_exits_plan.specs.Changed.{changed, changed_statement}
use Rattle.rx_exits_plan.specs.Marked.{then_mark, shown, is_among, marking, using, entering, ended, ended_value, ended_tail, marked_body, marked}
use Rattle.rx_exits_plan.specs.Coming.{HasNoMark}
use Rattle.rx_engine_related.specs.OneSite.{blocks_at}
use Rattle.rx_engine_related.specs.OnePlace.{LeadsToOnePlace, loops_in, loops_of, loops_of_run}
use Rattle.rx_engine_related.proofs.Bare.{NoMarks}
use Rattle.rx_engine_related.proofs.Sole.{Light, all_free, take_free, drop_free, light, differ, jump_weight, free, jump_numbers, anywhere}
use Rattle.rx_engine_related.proofs.Meeting.{led_two, then_splits, free_led}
use Rattle.rx_engine_related.proofs.Leading.{Changing, grown}
use Rattle.rx_engine_related.proofs.Entry.{marking_light, of_run, marked_light}
use Rattle.rx_engine_related.proofs.Jumps.{Other, IsLed, other_loops, led_forms, unmarked_free, passing_led, other_mark, nowhere_around, went, unpassed, used, marked_before, function_part, one_block, led_to_one_place}
use Rattle.rx_engine_related.proofs.Jumps as jumps

-- no jump's mark is that of a return
pub not_a_return : (l : ℕ) (again : Bool) → (2 == number (leaves (jump_exit l again))) ≡ false
not_a_return l true = differ 2 (4 + 2 * l) (λ e. omega (arith, e))
not_a_return l false = differ 2 (3 + 2 * l) (λ e. omega (arith, e))

module _ (l : ℕ) (again : Bool) where
  abbrev k : ℕ
  k = number (leaves (jump_exit l again))

  -- one behind the other
  both_led : {s t : orders.Order} → IsLed l again 0 s → IsLed l again 0 t → IsLed l again 0 (orders.then s t)
  both_led x y = led_two (shown (leaves (jump_exit l again))) refl l again (then_splits (shown (leaves (jump_exit l again))) refl l again) x y

  module _ (ls : List ℕ) where
    pub marking_led : Changing k (Other l again) (IsLed l again) (marking ls) light
    marking_led = record {
      of_block = λ a n was b d f i h q x. x;
      of_jump = λ m j c d. (passing_led l again ls).of_jump m j c d;
      of_return = λ e i x d. both_led (x (temporary_of e)) (both_led (other_mark l again (leaves returns) (not_a_return l again)) (led_forms l again).of_nothing);
    }

    abbrev pub lightly : Light k (marking ls) light (jump_weight k ls)
    lightly = marking_light k (not_a_return l again) ls

    -- ---- its tail

    ended_led : (e : Exp) (d f : Temporary) → NoMarks (order e f) → is_among l (loops_in (order e f)) ≡ false → IsLed l again 0 (order (then_mark (leaves next) (changed (marking ls) e)) d)
    ended_led e d f h i =
        both_led (grown k (Other l again) (IsLed l again) (led_forms l again) (marking ls) light marking_led light (jump_weight k ls) lightly e (nowhere_around l again) _ f h (other_loops l (order e f) i))
        (both_led (other_mark l again (leaves next) (jump_numbers l again).1) (led_forms l again).of_nothing)

    given_led : (t : Bool) (m : Mark) (e : Exp) (d f : Temporary) → NoMarks (order (give m e) f) → is_among l (loops_in (order (give m e) f)) ≡ false
        → IsLed l again 0 (order (if t then give m (then_mark (leaves next) (changed (marking ls) e)) else then_mark (leaves next) (changed (marking ls) (give m e))) d)
    given_led true m e d f h i =
        both_led (ended_led e (temporary_of (changed (marking ls) e)) (temporary_of e) h.0 (jumps.among_both l (loops_in (order e (temporary_of e))) [] i).0)
        (both_led ((led_forms l again).of_act _ refl) ((led_forms l again).of_leave _))
    given_led false m e d f h i = ended_led (give m e) d f h i

    value_led : (n : ℕ) (v : Exp) (d f : Temporary) → NoMarks (order v f) → is_among l (loops_in (order v f)) ≡ false → IsLed l again 0 (order (ended_value n ls v) d)
    value_led n (read m v p) d f h i = ended_led (read m v p) d f h i
    value_led n (borrow m b p) d f h i = ended_led (borrow m b p) d f h i
    value_led n (share m e) d f h i = ended_led (share m e) d f h i
    value_led n (build m w es) d f h i = ended_led (build m w es) d f h i
    value_led n (unit m) d f h i = ended_led (unit m) d f h i
    value_led n (lazily m b e g) d f h i = ended_led (lazily m b e g) d f h i
    value_led n (assign m p e) d f h i = ended_led (assign m p e) d f h i
    value_led n (update m o p e) d f h i = ended_led (update m o p e) d f h i
    value_led n (call m g es) d f h i = ended_led (call m g es) d f h i
    value_led n (input m) d f h i = ended_led (input m) d f h i
    value_led n (print m e) d f h i = ended_led (print m e) d f h i
    value_led n (block m b) d f h i = ended_led (block m b) d f h i
    value_led n (choose m s r) d f h i = ended_led (choose m s r) d f h i
    value_led n (loop m j e) d f h i = ended_led (loop m j e) d f h i
    value_led n (jump m j c) d f h i = ended_led (jump m j c) d f h i
    value_led n (give m e) d f h i = given_led (m.node == n) m e d f h i

    -- ---- the run's block

    end_led : (t : Bool) (r : Run) (b : Body) (n : ℕ) (d f : Temporary) → NoMarks (order_body b n f) → is_among l (if t then loops_in (order (tail b) (temporary_of (tail b))) else []) ≡ false
        → IsLed l again 0 (order_body (before (ended t) (before (behind r b) (ends (ended_tail t r.block ls (tail b))))) n d)
    end_led true r b n d f h i =
        let z = all_free b n f h in
        let x : IsLed l again 0 (order_body (ends (ended_value r.block ls (tail b))) n d) = value_led r.block (tail b) d (temporary_of (tail b)) (anywhere (tail b) (temporary_of (tail b)) f z.1) i in
        unpassed l again (behind r b) (ends (ended_value r.block ls (tail b))) n d (drop_free r.count (drop r.first (statements b)) (drop_free r.first (statements b) z.0)) x
    end_led false r b n d f h i =
        let z = all_free b n f h in
        let x : IsLed l again 0 (order_body (ends (tail b)) n d) = free_led (shown (leaves (jump_exit l again))) refl l again (unmarked_free l again (order (tail b) d) (anywhere (tail b) d f z.1)) in
        let y = unpassed l again (behind r b) (ends (tail b)) n d (drop_free r.count (drop r.first (statements b)) (drop_free r.first (statements b) z.0)) x in
        marked_before l again (leaves next) (before (behind r b) (ends (tail b))) n d (jump_numbers l again).1 y

    -- the run, with what stands behind it
    pub entered_led : (r : Run) (xs : List ℕ) (b rest : Body) (n : ℕ) (d f : Temporary) → NoMarks (order_body b n f) → is_among l (loops_of (inside r b)) ≡ false → IsLed l again 0 (order_body rest n d)
        → IsLed l again 0 (order_body (before (entering xs) (before (map (changed_statement (marking ls)) (inside r b)) rest)) n d)
    entered_led r xs b rest n d f h i x =
        let run : Body = before (map (changed_statement (marking ls)) (inside r b)) rest in
        let y = went l again (marking ls) marking_led (jump_weight k ls) lightly (inside r b) rest n d (take_free r.count (drop r.first (statements b)) (drop_free r.first (statements b) (all_free b n f h).0)) i x in
        marked_before l again enters (before (map using xs) run) n d (jump_numbers l again).0 (used l again xs run n d y)

    run_led : (r : Run) (xs : List ℕ) (b : Body) (n : ℕ) (d f : Temporary) → NoMarks (order_body b n f) → is_among l (loops_of_run r b) ≡ false → IsLed l again 0 (order_body (marked_body r ls xs b) n d)
    run_led r xs b n d f h i =
        let y = jumps.among_both l (loops_of (inside r b)) (if r.tail then loops_in (order (tail b) (temporary_of (tail b))) else []) i in
        let rest : Body = before (ended r.tail) (before (behind r b) (ends (ended_tail r.tail r.block ls (tail b)))) in
        unpassed l again (in_front r b) (before (entering xs) (before (map (changed_statement (marking ls)) (inside r b)) rest)) n d (take_free r.first (statements b) (all_free b n f h).0)
        (entered_led r xs b rest n d f h y.0 (end_led r.tail r b n d f h y.1))

pub marked_jumps_meet : (r : Run) (h : Home) (xs : List ℕ) (f : Function) (l : ℕ) (again : Bool) → HasNoMark (order_function f) → blocks_at r.block (spots_of_function f) ≤ 1
    → Among (a_block h.around r.block h.body) (spots_of_function f) → is_among l (loops_of_run r h.body) ≡ false
    → LeadsToOnePlace (marked r h.around.loops xs f) (shown (leaves (jump_exit l again)))
marked_jumps_meet r h xs f l again unmarked one i other =
    led_to_one_place l again (marked r h.around.loops xs f)
    ((function_part l again r.block (marked_body r h.around.loops xs) (λ b. is_among l (loops_of_run r b)) (λ b n d g m e. run_led l again h.around.loops r xs b n d g m e)
    (of_run (number (leaves (jump_exit l again))) (not_a_return l again) h.around.loops r) free (marked_light (number (leaves (jump_exit l again))) (not_a_return l again) h.around.loops r xs) f unmarked).when_one
    (one_block (λ b. is_among l (loops_of_run r b)) r.block h.around h.body other (spots_of_function f) i one))
