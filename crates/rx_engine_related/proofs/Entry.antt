-- How many marks of one point the marked function has, but for those behind what is returned: no more than its run, form by form. So the mark
-- where the run is entered stands once, and that at its end, where one block has the run's node.
use Rattle.std.proofs.Common.{◌≡◌, ℕ, suc, ◌+◌, ◌≤◌, ◌==◌, if◌then◌else◌, Bool, true, false, List, [], ◌∷◌, map, drop, refl, ap, arith, ◌*◌}
use Rattle.rx_typed.specs.Tree.{Temporary, Mark, Exp, read, borrow, share, build, unit, lazily, assign, update, call, input, print, block, choose, loop, jump, give, Body, ends, Function, mark_of, temporary_of}
use Rattle.rx_lower_walks.specs.Orders.{order, order_body, order_function}
use Rattle.rx_exits_plan.specs.Blocks.{statements, tail, before}
use Rattle.rx_exits_plan.specs.Spots.{Around, Spot, a_block, a_jump, a_return, spots, outermost, spots_of_function}
use Rattle.rx_exits_plan.specs.Runs.{Run, in_front, inside, behind}
use Rattle.rx_exits_plan.specs.Points.{next, enters, leaves, jump_exit, number}
use Rattle.rx_exits_plan.specs.Changed.{changed, changed_statement}
use Rattle.rx_exits_plan.specs.Marked.{mark_then, then_mark, shown, is_among, marking, entering, ended, ended_value, ended_tail, marked_body, at_the_block, marked}
use Rattle.rx_exits_plan.specs.Coming.{HasNoMark}
use Rattle.rx_exits_plan.specs.Exits.{past, spots_in_statements}
use Rattle.rx_engine_related.specs.OneSite.{StandsOnce, blocks_at}
use Rattle.rx_engine_related.proofs.Counting.{one_if, count, stands_once}
use Rattle.rx_engine_related.proofs.Bare.{NoMarks, no_marks, none_counted}
use Rattle.rx_engine_related.proofs.Sole.{Light, few, weighed, weighed_both, all_free, take_free, drop_free, before_count, changed_count, beginning_count, reads_count, light, differ, jump_weight, no_jump_weight, free, of_beginning, anywhere}

-- ---- inside the run

jump_keeps : (t : Bool) (m : Mark) (l : ℕ) (again : Bool) → mark_of (if t then mark_then (leaves (jump_exit l again)) (jump m l again) else jump m l again) ≡ m
jump_keeps true m l again = refl
jump_keeps false m l again = refl

jump_count : (k : ℕ) (t : Bool) (m : Mark) (l : ℕ) (again : Bool) (d : Temporary)
    → count k (order (if t then mark_then (leaves (jump_exit l again)) (jump m l again) else jump m l again) d) ≤ (if t then one_if (number (leaves (jump_exit l again)) == k) else 0)
jump_count k true m l again d = omega arith
jump_count k false m l again d = omega arith

module _ (k : ℕ) (other : (2 == k) ≡ false) (ls : List ℕ) where
  pub marking_light : Light k (marking ls) light (jump_weight k ls)
  marking_light = record {
    jump_mark = λ m l again. jump_keeps (is_among l ls) m l again;
    return_mark = λ e. refl;
    at_block = λ a n was b d f i h c. omega (arith, c);
    at_jump = λ m l again d. jump_count k (is_among l ls) m l again d;
    at_return = λ e. let q : one_if (2 == k) ≡ 0 = ap one_if other in omega (arith, q);
  }

  -- ---- its tail

  ended_count : (e : Exp) (a : Around) (d f : Temporary) → NoMarks (order e f)
      → count k (order (then_mark (leaves next) (changed (marking ls) e)) d) ≤ one_if (1 == k) + weighed light (jump_weight k ls) (spots a e)
  ended_count e a d f h = let x = few k (marking ls) light (jump_weight k ls) marking_light e a (temporary_of (changed (marking ls) e)) f h in omega (arith, x)

  given_count : (t : Bool) (m : Mark) (e : Exp) (a : Around) (d f : Temporary) → NoMarks (order (give m e) f)
      → count k (order (if t then give m (then_mark (leaves next) (changed (marking ls) e)) else then_mark (leaves next) (changed (marking ls) (give m e))) d)
      ≤ one_if (1 == k) + weighed light (jump_weight k ls) (spots a (give m e))
  given_count true m e a d f h =
      let x = ended_count e a (temporary_of (changed (marking ls) e)) (temporary_of e) h.0 in
      let z = weighed_both light (jump_weight k ls) (spots a e) (a_return a m.node ∷ []) in
      omega (arith, x, z)
  given_count false m e a d f h = ended_count (give m e) a d f h

  value_count : (n : ℕ) (v : Exp) (a : Around) (d f : Temporary) → NoMarks (order v f) → count k (order (ended_value n ls v) d) ≤ one_if (1 == k) + weighed light (jump_weight k ls) (spots a v)
  value_count n (read m v p) a d f h = ended_count (read m v p) a d f h
  value_count n (borrow m b p) a d f h = ended_count (borrow m b p) a d f h
  value_count n (share m e) a d f h = ended_count (share m e) a d f h
  value_count n (build m w es) a d f h = ended_count (build m w es) a d f h
  value_count n (unit m) a d f h = ended_count (unit m) a d f h
  value_count n (lazily m b e g) a d f h = ended_count (lazily m b e g) a d f h
  value_count n (assign m p e) a d f h = ended_count (assign m p e) a d f h
  value_count n (update m o p e) a d f h = ended_count (update m o p e) a d f h
  value_count n (call m g es) a d f h = ended_count (call m g es) a d f h
  value_count n (input m) a d f h = ended_count (input m) a d f h
  value_count n (print m e) a d f h = ended_count (print m e) a d f h
  value_count n (block m b) a d f h = ended_count (block m b) a d f h
  value_count n (choose m s l) a d f h = ended_count (choose m s l) a d f h
  value_count n (loop m l e) a d f h = ended_count (loop m l e) a d f h
  value_count n (jump m l again) a d f h = ended_count (jump m l again) a d f h
  value_count n (give m e) a d f h = given_count (m.node == n) m e a d f h

  -- ---- the run's block

  -- the marks of its entry and its end, and those of the jumps of the run
  abbrev inner : Run → Around → Body → ℕ
  inner r a b =
      one_if (0 == k) + (one_if (1 == k) + (weighed light (jump_weight k ls) (spots_in_statements (past (in_front r b) a) (inside r b)) + weighed light (jump_weight k ls) (spots a (tail b))))

  -- the run's end, and what stands behind it
  end_count : (t : Bool) (r : Run) (a : Around) (b : Body) (n : ℕ) (d f : Temporary) → NoMarks (order_body b n f)
      → count k (order_body (before (ended t) (before (behind r b) (ends (ended_tail t r.block ls (tail b))))) n d) ≤ one_if (1 == k) + weighed light (jump_weight k ls) (spots a (tail b))
  end_count true r a b n d f h =
      let z = all_free b n f h in
      let x = value_count r.block (tail b) a d f z.1 in
      let y = before_count k (behind r b) (ends (ended_value r.block ls (tail b))) n d (drop_free r.count (drop r.first (statements b)) (drop_free r.first (statements b) z.0)) in
      omega (arith, x, y)
  end_count false r a b n d f h =
      let z = all_free b n f h in
      let x = none_counted k (order (tail b) d) (anywhere (tail b) d f z.1) in
      let y = before_count k (behind r b) (ends (tail b)) n d (drop_free r.count (drop r.first (statements b)) (drop_free r.first (statements b) z.0)) in
      omega (arith, x, y)

  block_count : (r : Run) (xs : List ℕ) (a : Around) (b : Body) (n : ℕ) (d f : Temporary) → NoMarks (order_body b n f) → count k (order_body (marked_body r ls xs b) n d) ≤ inner r a b
  block_count r xs a b n d f h =
      let z = all_free b n f h in
      let rest : Body = before (ended r.tail) (before (behind r b) (ends (ended_tail r.tail r.block ls (tail b)))) in
      let run : Body = before (map (changed_statement (marking ls)) (inside r b)) rest in
      let x1 = end_count r.tail r a b n d f h in
      let ours = take_free r.count (drop r.first (statements b)) (drop_free r.first (statements b) z.0) in
      let x2 = changed_count k (marking ls) (jump_weight k ls) marking_light (inside r b) (past (in_front r b) a) rest n d ours in
      let x3 = reads_count k xs run n d in
      let x4 = before_count k (in_front r b) (before (entering xs) run) n d (take_free r.first (statements b) z.0) in
      omega (arith, x1, x2, x3, x4)

  chosen : (t : Bool) (r : Run) (xs : List ℕ) (a : Around) (was b : Body) (n : ℕ) (d f : Temporary) (i : ℕ) → NoMarks (order_body was n f) → count k (order_body b n d) ≤ i
      → count k (order_body (if t then marked_body r ls xs was else b) n d) ≤ (if t then inner r a was else 0) + i
  chosen true r xs a was b n d f i h c = let x = block_count r xs a was n d f h in omega (arith, x)
  chosen false r xs a was b n d f i h c = omega (arith, c)

  abbrev pub of_run : Run → Around → ℕ → Body → ℕ
  of_run r a n b = if n == r.block then inner r a b else 0

  pub marked_light : (r : Run) (xs : List ℕ) → Light k (at_the_block r ls xs) (of_run r) free
  marked_light r xs = record {
    jump_mark = λ m l again. refl;
    return_mark = λ e. refl;
    at_block = λ a n was b d f i h c. chosen (n == r.block) r xs a was b n d f i h c;
    at_jump = λ m l again d. omega arith;
    at_return = λ e. omega arith;
  }

  function_count : (r : Run) (xs : List ℕ) (f : Function) → HasNoMark (order_function f) → count k (order_function (marked r ls xs f)) ≤ weighed (of_run r) free (spots_of_function f)
  function_count r xs f h =
      let C = at_the_block r ls xs in
      let n = of_beginning f.params (mark_of f.body).node (order f.body (temporary_of f.body)) (no_marks (order_function f) h.none) in
      let x = few k C (of_run r) free (marked_light r xs) f.body (outermost f) (temporary_of (changed C f.body)) (temporary_of f.body) n in
      let y = beginning_count k f.params (mark_of (changed C f.body)).node (order (changed C f.body) (temporary_of (changed C f.body))) in
      omega (arith, x, y)

-- ---- where the run is entered

module _ (ls : List ℕ) where
  -- no jump's mark is one
  no_jump : (l : List Spot) → weighed light (jump_weight 0 ls) l ≡ 0
  no_jump [] = refl
  no_jump (a_block a n b ∷ l) = let h = no_jump l in omega (arith, h)
  no_jump (a_jump a n j again ∷ l) = by (is_among j ls) again (no_jump l)
    where
      by : (t again : Bool) → weighed light (jump_weight 0 ls) l ≡ 0 → (if t then one_if (number (leaves (jump_exit j again)) == 0) else 0) + weighed light (jump_weight 0 ls) l ≡ 0
      by true true h = let e : one_if ((4 + 2 * j) == 0) ≡ 0 = ap one_if (differ (4 + 2 * j) 0 (λ e. omega (arith, e))) in omega (arith, h, e)
      by true false h = let e : one_if ((3 + 2 * j) == 0) ≡ 0 = ap one_if (differ (3 + 2 * j) 0 (λ e. omega (arith, e))) in omega (arith, h, e)
      by false again h = omega (arith, h)
  no_jump (a_return a n ∷ l) = no_jump l

  once_each : (r : Run) (l : List Spot) → weighed (of_run 0 refl ls r) free l ≡ blocks_at r.block l
  once_each r [] = refl
  once_each r (a_block a n b ∷ l) = by (n == r.block) (once_each r l)
    where
      by : (t : Bool) → weighed (of_run 0 refl ls r) free l ≡ blocks_at r.block l
          → (if t then inner 0 refl ls r a b else 0) + weighed (of_run 0 refl ls r) free l ≡ (if t then suc (blocks_at r.block l) else blocks_at r.block l)
      by true h = let e = no_jump (spots_in_statements (past (in_front r b) a) (inside r b)) in let c = no_jump (spots a (tail b)) in omega (arith, h, e, c)
      by false h = omega (arith, h)
  once_each r (a_jump a n j again ∷ l) = let h = once_each r l in omega (arith, h)
  once_each r (a_return a n ∷ l) = once_each r l

  pub entry_stands_once : (r : Run) (xs : List ℕ) (f : Function) → HasNoMark (order_function f) → blocks_at r.block (spots_of_function f) ≤ 1 → StandsOnce (marked r ls xs f) (shown enters)
  entry_stands_once r xs f h one =
      let x = function_count 0 refl ls r xs f h in
      let z = once_each r (spots_of_function f) in
      stands_once (marked r ls xs f) enters (omega (arith, x, z, one))

-- ---- at its end

module _ (ls : List ℕ) where
  once_at_end : (r : Run) (l : List Spot) → weighed (of_run 1 refl ls r) free l ≡ blocks_at r.block l
  once_at_end r [] = refl
  once_at_end r (a_block a n b ∷ l) = by (n == r.block) (once_at_end r l)
    where
      by : (t : Bool) → weighed (of_run 1 refl ls r) free l ≡ blocks_at r.block l
          → (if t then inner 1 refl ls r a b else 0) + weighed (of_run 1 refl ls r) free l ≡ (if t then suc (blocks_at r.block l) else blocks_at r.block l)
      by true h = let e = no_jump_weight ls (spots_in_statements (past (in_front r b) a) (inside r b)) in let c = no_jump_weight ls (spots a (tail b)) in omega (arith, h, e, c)
      by false h = omega (arith, h)
  once_at_end r (a_jump a n j again ∷ l) = let h = once_at_end r l in omega (arith, h)
  once_at_end r (a_return a n ∷ l) = once_at_end r l

  pub marked_end_stands_once : (r : Run) (xs : List ℕ) (f : Function) → HasNoMark (order_function f) → blocks_at r.block (spots_of_function f) ≤ 1 → StandsOnce (marked r ls xs f) (shown (leaves next))
  marked_end_stands_once r xs f h one =
      let x = function_count 1 refl ls r xs f h in
      let z = once_at_end r (spots_of_function f) in
      stands_once (marked r ls xs f) (leaves next) (omega (arith, x, z, one))
