-- The marked function is the text that lets its run's tail pass, with further marks behind what is returned, and with a mark at the run's end, where
-- that value passes.
use Rattle.std.proofs.Common.{◌≡◌, ℕ, ◌==◌, if◌then◌else◌, Bool, true, false, List, map, refl, sym, subst}
use Rattle.rx_typed.specs.Tree.{Temporary, Mark, Exp, read, borrow, share, build, unit, lazily, assign, update, call, input, print, block, choose, loop, jump, give, Body, ends, Function, mark_of, temporary_of}
use Rattle.rx_lower_walks.specs.Actions.{Give, at_mark}
use Rattle.rx_lower_walks.specs.Orders.{Order, order, order_body, beginning, order_function}
use Rattle.rx_lower_walks.specs.Orders as order
use Rattle.rx_exits_plan.specs.Blocks.{before, tail}
use Rattle.rx_exits_plan.specs.Runs.{Run, in_front, inside, behind}
use Rattle.rx_exits_plan.specs.Points.{next, returns, Point, leaves}
use Rattle.rx_exits_plan.specs.Changed.{changed, changed_statement}
use Rattle.rx_exits_plan.specs.Marked.{then_mark, marking, entering, ended, ended_value, ended_tail, marked_body, at_the_block, marked}
use Rattle.rx_engine_simulation.specs.Passed.{let_pass}
use Rattle.rx_engine_related.specs.Running.{passing}
use Rattle.rx_engine_related.specs.Tailed.{passing_value, tailed_body, in_the_tailed_block, tailed}
use Rattle.rx_engine_related.proofs.Beside.{Extended, as_it_stands, e_behind, e_then, e_ended, extended}
use Rattle.rx_engine_related.proofs.Formwise.{Furthers, before_further, same_temporary, own_further, further, statements_further, function_further}

module _ (Put : Point → Type 0) (back : Put (leaves returns)) (ls : List ℕ) where
  -- inside the run
  pub inside_extended : Furthers (Extended Put) (marking ls) (passing ls)
  inside_extended = record {
    jump_mark = λ m l k. refl;
    return_mark = λ e f q. q;
    at_block = λ n was b c d h. h;
    at_jump = λ m l k d. as_it_stands;
    at_return = λ e f q h. e_behind (leaves returns) back h;
  }

  exp_extended : (e : Exp) (d : Temporary) → Extended Put (order (changed (marking ls) e) d) (order (changed (passing ls) e) d)
  exp_extended e d = further (Extended Put) (extended Put) (marking ls) (passing ls) inside_extended e d

  own_extended : (e : Exp) → Extended Put (order (changed (marking ls) e) (temporary_of (changed (marking ls) e))) (order (changed (passing ls) e) (temporary_of (changed (passing ls) e)))
  own_extended e = own_further (Extended Put) (extended Put) (marking ls) (passing ls) inside_extended e (exp_extended e _)

  -- what is let pass
  passed_extended : (e : Exp) (d : Temporary) → Extended Put (order (then_mark (leaves next) (changed (marking ls) e)) d) (order (let_pass (changed (passing ls) e)) d)
  passed_extended e d = e_ended (mark_of (changed (passing ls) e)).node (temporary_of (changed (passing ls) e)) d (own_extended e)

  given_passed : (mg : Mark) (e : Exp) (d : Temporary) → Extended Put (order (give mg (then_mark (leaves next) (changed (marking ls) e))) d) (order (give mg (let_pass (changed (passing ls) e))) d)
  given_passed mg e d =
      subst (λ t. Extended Put (order (give mg (then_mark (leaves next) (changed (marking ls) e))) d) (order.then (order (let_pass (changed (passing ls) e)) t) (order.then (order.act (at_mark mg (Give t))) (order.leave (order.returns mg.node)))))
      (sym (same_temporary (Extended Put) (extended Put) (marking ls) (passing ls) inside_extended e)) (e_then (passed_extended e (temporary_of (changed (marking ls) e))) as_it_stands)

  given_or_passed : (t : Bool) (mg : Mark) (e : Exp) (d : Temporary)
      → Extended Put (order (if t then give mg (then_mark (leaves next) (changed (marking ls) e)) else then_mark (leaves next) (changed (marking ls) (give mg e))) d)
      (order (if t then give mg (let_pass (changed (passing ls) e)) else let_pass (changed (passing ls) (give mg e))) d)
  given_or_passed true mg e d = given_passed mg e d
  given_or_passed false mg e d = passed_extended (give mg e) d

  value_extended : (n : ℕ) (v : Exp) (d : Temporary) → Extended Put (order (ended_value n ls v) d) (order (passing_value n ls v) d)
  value_extended n (read m v p) d = passed_extended (read m v p) d
  value_extended n (borrow m k p) d = passed_extended (borrow m k p) d
  value_extended n (share m e) d = passed_extended (share m e) d
  value_extended n (build m w es) d = passed_extended (build m w es) d
  value_extended n (unit m) d = passed_extended (unit m) d
  value_extended n (lazily m b e f) d = passed_extended (lazily m b e f) d
  value_extended n (assign m p e) d = passed_extended (assign m p e) d
  value_extended n (update m o p e) d = passed_extended (update m o p e) d
  value_extended n (call m f es) d = passed_extended (call m f es) d
  value_extended n (input m) d = passed_extended (input m) d
  value_extended n (print m e) d = passed_extended (print m e) d
  value_extended n (block m b) d = passed_extended (block m b) d
  value_extended n (choose m s l) d = passed_extended (choose m s l) d
  value_extended n (loop m l e) d = passed_extended (loop m l e) d
  value_extended n (jump m l k) d = passed_extended (jump m l k) d
  value_extended n (give m e) d = given_or_passed (m.node == n) m e d

  -- ---- a run with the tail of its block

  tail_extended : (t : Bool) (r : Run) (xs : List ℕ) (b : Body) (n : ℕ) (d : Temporary) → t ≡ true
      → Extended Put (order_body (before (in_front r b) (before (entering xs) (before (map (changed_statement (marking ls)) (inside r b)) (before (ended t) (before (behind r b) (ends (ended_tail t r.block ls (tail b)))))))) n d)
      (order_body (tailed_body r ls xs b) n d)
  tail_extended true r xs b n d q =
      before_further (Extended Put) (extended Put) (in_front r b) _ _ n d (before_further (Extended Put) (extended Put) (entering xs) _ _ n d
      (statements_further (Extended Put) (extended Put) (marking ls) (passing ls) inside_extended (inside r b) _ _ n d
      (before_further (Extended Put) (extended Put) (behind r b) (ends (ended_value r.block ls (tail b))) (ends (passing_value r.block ls (tail b))) n d (value_extended r.block (tail b) d))))
  tail_extended false r xs b n d q = absurd (cc)

  chosen : (t : Bool) (r : Run) (xs : List ℕ) (n : ℕ) (was b c : Body) (d : Temporary) → r.tail ≡ true → Extended Put (order_body b n d) (order_body c n d)
      → Extended Put (order_body (if t then marked_body r ls xs was else b) n d) (order_body (if t then tailed_body r ls xs was else c) n d)
  chosen true r xs n was b c d e h = tail_extended r.tail r xs was n d e
  chosen false r xs n was b c d e h = h

  pub tailed_extended : (r : Run) (xs : List ℕ) → r.tail ≡ true → (g : Function) → Extended Put (order_function (marked r ls xs g)) (order_function (tailed r ls xs g))
  tailed_extended r xs e g = function_further (Extended Put) (extended Put) (at_the_block r ls xs) (in_the_tailed_block r ls xs) (record {
    jump_mark = λ m l k. refl;
    return_mark = λ f g q. q;
    at_block = λ n was b c d h. chosen (n == r.block) r xs n was b c d e h;
    at_jump = λ m l k d. as_it_stands;
    at_return = λ f g q h. h;
  }) g
