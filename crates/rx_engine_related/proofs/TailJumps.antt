-- So do the marks of one `break` or `continue` in the text of a run with its block's tail, in which those of the tail's jumps stand too.
use Rattle.std.proofs.Common.{◌≡◌, ℕ, ◌+◌, ◌≤◌, ◌==◌, if◌then◌else◌, Bool, true, false, List, [], ◌∷◌, ◌++◌, map, drop, refl, ap, arith}
use Rattle.rx_typed.specs.Tree.{Temporary, Mark, Exp, read, borrow, share, build, unit, lazily, assign, update, call, input, print, block, choose, loop, jump, give, Body, ends, Function, temporary_of}
use Rattle.rx_lower_walks.specs.Orders.{order, order_body, order_function}
use Rattle.rx_lower_walks.specs.Walks.{Among}
use Rattle.rx_exits_plan.specs.Blocks.{statements, tail, before}
use Rattle.rx_exits_plan.specs.Spots.{Around, a_block, a_return, spots, spots_of_function}
use Rattle.rx_exits_plan.specs.Runs.{Run, Home, in_front, inside, behind}
use Rattle.rx_exits_plan.specs.Points.{enters, leaves, jump_exit, number}
use Rattle.rx_exits_plan.specs.Changed.{changed, changed_statement}
use Rattle.rx_exits_plan.specs.Marked.{shown, is_among, using, entering}
use Rattle.rx_exits_plan.specs.Coming.{HasNoMark}
use Rattle.rx_exits_plan.specs.Exits.{past, spots_in_statements}
use Rattle.rx_engine_simulation.specs.Passed.{let_pass}
use Rattle.rx_engine_related.specs.OneSite.{blocks_at}
use Rattle.rx_engine_related.specs.OnePlace.{LeadsToOnePlace, loops_in, loops_of}
use Rattle.rx_engine_related.specs.Running.{passing}
use Rattle.rx_engine_related.specs.Tailed.{passing_value, tailed_body, in_the_tailed_block, tailed}
use Rattle.rx_engine_related.proofs.Counting.{one_if, count}
use Rattle.rx_engine_related.proofs.Bare.{NoMarks}
use Rattle.rx_engine_related.proofs.Sole.{Light, few, weighed, weighed_both, all_free, take_free, drop_free, before_count, changed_count, reads_count, light, jump_weight, passing_light, free, jump_numbers, anywhere}
use Rattle.rx_engine_related.proofs.Meeting.{led_two, then_splits}
use Rattle.rx_engine_related.proofs.Leading.{grown}
use Rattle.rx_engine_related.proofs.Jumps.{Other, IsLed, other_loops, led_forms, unmarked_free, passing_led, nowhere_around, passed, unpassed, used, marked_before, function_part, one_block, led_to_one_place}
use Rattle.rx_engine_related.proofs.Jumps as jumps

-- ---- how many marks of a jump the text has

module _ (k : ℕ) (nz : (0 == k) ≡ false) (ls : List ℕ) where
  passed_count : (e : Exp) (a : Around) (d f : Temporary) → NoMarks (order e f) → count k (order (let_pass (changed (passing ls) e)) d) ≤ weighed light (jump_weight k ls) (spots a e)
  passed_count e a d f h = let x = few k (passing ls) light (jump_weight k ls) (passing_light k ls) e a (temporary_of (changed (passing ls) e)) f h in omega (arith, x)

  given_count : (t : Bool) (m : Mark) (e : Exp) (a : Around) (d f : Temporary) → NoMarks (order (give m e) f)
      → count k (order (if t then give m (let_pass (changed (passing ls) e)) else let_pass (changed (passing ls) (give m e))) d) ≤ weighed light (jump_weight k ls) (spots a (give m e))
  given_count true m e a d f h =
      let x = passed_count e a (temporary_of (changed (passing ls) e)) (temporary_of e) h.0 in
      let z = weighed_both light (jump_weight k ls) (spots a e) (a_return a m.node ∷ []) in
      omega (arith, x, z)
  given_count false m e a d f h = passed_count (give m e) a d f h

  value_count : (n : ℕ) (v : Exp) (a : Around) (d f : Temporary) → NoMarks (order v f) → count k (order (passing_value n ls v) d) ≤ weighed light (jump_weight k ls) (spots a v)
  value_count n (read m v p) a d f h = passed_count (read m v p) a d f h
  value_count n (borrow m b p) a d f h = passed_count (borrow m b p) a d f h
  value_count n (share m e) a d f h = passed_count (share m e) a d f h
  value_count n (build m w es) a d f h = passed_count (build m w es) a d f h
  value_count n (unit m) a d f h = passed_count (unit m) a d f h
  value_count n (lazily m b e g) a d f h = passed_count (lazily m b e g) a d f h
  value_count n (assign m p e) a d f h = passed_count (assign m p e) a d f h
  value_count n (update m o p e) a d f h = passed_count (update m o p e) a d f h
  value_count n (call m g es) a d f h = passed_count (call m g es) a d f h
  value_count n (input m) a d f h = passed_count (input m) a d f h
  value_count n (print m e) a d f h = passed_count (print m e) a d f h
  value_count n (block m b) a d f h = passed_count (block m b) a d f h
  value_count n (choose m s l) a d f h = passed_count (choose m s l) a d f h
  value_count n (loop m l e) a d f h = passed_count (loop m l e) a d f h
  value_count n (jump m l again) a d f h = passed_count (jump m l again) a d f h
  value_count n (give m e) a d f h = given_count (m.node == n) m e a d f h

  -- those of the jumps of the run, and of its tail
  abbrev inner : Run → Around → Body → ℕ
  inner r a b = weighed light (jump_weight k ls) (spots_in_statements (past (in_front r b) a) (inside r b)) + weighed light (jump_weight k ls) (spots a (tail b))

  block_count : (r : Run) (xs : List ℕ) (a : Around) (b : Body) (n : ℕ) (d f : Temporary) → NoMarks (order_body b n f) → count k (order_body (tailed_body r ls xs b) n d) ≤ inner r a b
  block_count r xs a b n d f h =
      let z = all_free b n f h in
      let last : Body = ends (passing_value r.block ls (tail b)) in
      let rest : Body = before (behind r b) last in
      let run : Body = before (map (changed_statement (passing ls)) (inside r b)) rest in
      let e0 : one_if (0 == k) ≡ 0 = ap one_if nz in
      let x0 = value_count r.block (tail b) a d f z.1 in
      let x1 = before_count k (behind r b) last n d (drop_free r.count (drop r.first (statements b)) (drop_free r.first (statements b) z.0)) in
      let x2 = changed_count k (passing ls) (jump_weight k ls) (passing_light k ls) (inside r b) (past (in_front r b) a) rest n d (take_free r.count (drop r.first (statements b)) (drop_free r.first (statements b) z.0)) in
      let x3 = reads_count k xs run n d in
      let x4 = before_count k (in_front r b) (before (entering xs) run) n d (take_free r.first (statements b) z.0) in
      omega (arith, e0, x0, x1, x2, x3, x4)

  chosen : (t : Bool) (r : Run) (xs : List ℕ) (a : Around) (was b : Body) (n : ℕ) (d f : Temporary) (i : ℕ) → NoMarks (order_body was n f) → count k (order_body b n d) ≤ i
      → count k (order_body (if t then tailed_body r ls xs was else b) n d) ≤ (if t then inner r a was else 0) + i
  chosen true r xs a was b n d f i h c = let x = block_count r xs a was n d f h in omega (arith, x)
  chosen false r xs a was b n d f i h c = omega (arith, c)

  abbrev of_run : Run → Around → ℕ → Body → ℕ
  of_run r a n b = if n == r.block then inner r a b else 0

  tailed_light : (r : Run) (xs : List ℕ) → Light k (in_the_tailed_block r ls xs) (of_run r) free
  tailed_light r xs = record {
    jump_mark = λ m l again. refl;
    return_mark = λ e. refl;
    at_block = λ a n was b d f i h c. chosen (n == r.block) r xs a was b n d f i h c;
    at_jump = λ m l again d. omega arith;
    at_return = λ e. omega arith;
  }

-- ---- each leads out

module _ (l : ℕ) (again : Bool) (ls : List ℕ) where
  passed_led : (e : Exp) (d f : Temporary) → NoMarks (order e f) → is_among l (loops_in (order e f)) ≡ false → IsLed l again 0 (order (let_pass (changed (passing ls) e)) d)
  passed_led e d f h i =
      led_two (shown (leaves (jump_exit l again))) refl l again (then_splits (shown (leaves (jump_exit l again))) refl l again)
      (led_two (shown (leaves (jump_exit l again))) refl l again (then_splits (shown (leaves (jump_exit l again))) refl l again)
      (grown (number (leaves (jump_exit l again))) (Other l again) (IsLed l again) (led_forms l again) (passing ls) light (passing_led l again ls) light (jump_weight (number (leaves (jump_exit l again))) ls) (passing_light (number (leaves (jump_exit l again))) ls) e (nowhere_around l again) _ f h
      (other_loops l (order e f) i)) (led_forms l again).of_nothing) ((led_forms l again).of_act _ refl)

  given_led : (t : Bool) (m : Mark) (e : Exp) (d f : Temporary) → NoMarks (order (give m e) f) → is_among l (loops_in (order (give m e) f)) ≡ false
      → IsLed l again 0 (order (if t then give m (let_pass (changed (passing ls) e)) else let_pass (changed (passing ls) (give m e))) d)
  given_led true m e d f h i =
      led_two (shown (leaves (jump_exit l again))) refl l again (then_splits (shown (leaves (jump_exit l again))) refl l again) (passed_led e _ (temporary_of e) h.0 (jumps.among_both l (loops_in (order e (temporary_of e))) [] i).0)
      (led_two (shown (leaves (jump_exit l again))) refl l again (then_splits (shown (leaves (jump_exit l again))) refl l again) ((led_forms l again).of_act _ refl) ((led_forms l again).of_leave _))
  given_led false m e d f h i = passed_led (give m e) d f h i

  value_led : (n : ℕ) (v : Exp) (d f : Temporary) → NoMarks (order v f) → is_among l (loops_in (order v f)) ≡ false → IsLed l again 0 (order (passing_value n ls v) d)
  value_led n (read m v p) d f h i = passed_led (read m v p) d f h i
  value_led n (borrow m b p) d f h i = passed_led (borrow m b p) d f h i
  value_led n (share m e) d f h i = passed_led (share m e) d f h i
  value_led n (build m w es) d f h i = passed_led (build m w es) d f h i
  value_led n (unit m) d f h i = passed_led (unit m) d f h i
  value_led n (lazily m b e g) d f h i = passed_led (lazily m b e g) d f h i
  value_led n (assign m p e) d f h i = passed_led (assign m p e) d f h i
  value_led n (update m o p e) d f h i = passed_led (update m o p e) d f h i
  value_led n (call m g es) d f h i = passed_led (call m g es) d f h i
  value_led n (input m) d f h i = passed_led (input m) d f h i
  value_led n (print m e) d f h i = passed_led (print m e) d f h i
  value_led n (block m b) d f h i = passed_led (block m b) d f h i
  value_led n (choose m s r) d f h i = passed_led (choose m s r) d f h i
  value_led n (loop m j e) d f h i = passed_led (loop m j e) d f h i
  value_led n (jump m j c) d f h i = passed_led (jump m j c) d f h i
  value_led n (give m e) d f h i = given_led (m.node == n) m e d f h i

  -- the loops of the run's statements, and of its tail
  abbrev pub has_loop : Run → Body → Bool
  has_loop r b = is_among l (loops_of (inside r b) ++ loops_in (order (tail b) (temporary_of (tail b))))

  tail_led : (r : Run) (xs : List ℕ) (b : Body) (n : ℕ) (d f : Temporary) → NoMarks (order_body b n f) → has_loop r b ≡ false → IsLed l again 0 (order_body (tailed_body r ls xs b) n d)
  tail_led r xs b n d f h i =
      let z = all_free b n f h in
      let q = jump_numbers l again in
      let y = jumps.among_both l (loops_of (inside r b)) (loops_in (order (tail b) (temporary_of (tail b)))) i in
      let last : Body = ends (passing_value r.block ls (tail b)) in
      let rest : Body = before (behind r b) last in
      let run : Body = before (map (changed_statement (passing ls)) (inside r b)) rest in
      let x0 : IsLed l again 0 (order_body last n d) = value_led r.block (tail b) d (temporary_of (tail b)) (anywhere (tail b) (temporary_of (tail b)) f z.1) y.1 in
      let x1 = unpassed l again (behind r b) last n d (drop_free r.count (drop r.first (statements b)) (drop_free r.first (statements b) z.0)) x0 in
      let x3 = passed l again ls (inside r b) rest n d (take_free r.count (drop r.first (statements b)) (drop_free r.first (statements b) z.0)) y.0 x1 in
      let x4 = marked_before l again enters (before (map using xs) run) n d q.0 (used l again xs run n d x3) in
      unpassed l again (in_front r b) (before (entering xs) run) n d (take_free r.first (statements b) z.0) x4

pub tail_jumps_meet : (r : Run) (h : Home) (xs : List ℕ) (f : Function) (l : ℕ) (again : Bool) → HasNoMark (order_function f) → blocks_at r.block (spots_of_function f) ≤ 1
    → Among (a_block h.around r.block h.body) (spots_of_function f) → has_loop l again h.around.loops r h.body ≡ false
    → LeadsToOnePlace (tailed r h.around.loops xs f) (shown (leaves (jump_exit l again)))
tail_jumps_meet r h xs f l again unmarked one i other =
    led_to_one_place l again (tailed r h.around.loops xs f)
    ((function_part l again r.block (tailed_body r h.around.loops xs) (has_loop l again h.around.loops r) (λ b n d f m e. tail_led l again h.around.loops r xs b n d f m e)
    (of_run (number (leaves (jump_exit l again))) (jump_numbers l again).0 h.around.loops r) free (tailed_light (number (leaves (jump_exit l again))) (jump_numbers l again).0 h.around.loops r xs) f unmarked).when_one
    (one_block (has_loop l again h.around.loops r) r.block h.around h.body other (spots_of_function f) i one))
