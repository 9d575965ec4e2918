-- When a walk of an order comes to a part of it, and what it did until then.
use Rattle.std.specs.Prelude.{◌≡◌, ℕ, ◌==◌, true, false, List, [], ◌++◌}
use Rattle.rx_typed.specs.Tree.{Temporary, Body}
use Rattle.rx_lower_walks.specs.Actions.{Action}
use Rattle.rx_lower_walks.specs.Orders.{Order, order_body}
use Rattle.rx_lower_walks.specs.Orders as order
use Rattle.rx_lower_walks.specs.Walks.{Out, on, fails, Passed, Walk, actions_in, Among}
use Rattle.rx_exits_plan.specs.Runs.{Run}
use Rattle.rx_exits_plan.specs.Marked.{marked_body}
use Rattle.rx_exits_plan.specs.Unmarked.{is_mark}

pub data Into (q : Order) : Order → List Action → Type 0 where
  all : Into q q []
  in_first : {s t : Order} {w : List Action} → Into q s w → Into q (order.then s t) w
  in_second : {s t : Order} {us w : List Action} → Walk s us on → Into q t w → Into q (order.then s t) (us ++ w)
  in_one : {s t : Order} {w : List Action} → Into q s w → Into q (order.or s t) w
  in_other : {s t : Order} {w : List Action} → Into q t w → Into q (order.or s t) w
  -- a test of an arm holds, or the next arm comes
  in_arm : {s t : Order} {w : List Action} → Into q s w → Into q (order.otherwise s t) w
  in_next : {s t : Order} {us w : List Action} → Walk s us fails → Into q t w → Into q (order.otherwise s t) (us ++ w)
  in_scope : {n x : ℕ} {s : Order} {w : List Action} → Into q s w → Into q (order.ending n x s) w
  -- in this pass of a loop, or in a later one
  in_pass : {l : ℕ} {s : Order} {w : List Action} → Into q s w → Into q (order.passes l s) w
  in_later : {l : ℕ} {s : Order} {us w : List Action} {o : Out} → Walk s us o → Passed l o → Into q (order.passes l s) w → Into q (order.passes l s) (us ++ w)

-- what an order of a text is
pub record HasNoMark (s : Order) : Type 0 where
  pub none : (a : Action) → Among a (actions_in s) → is_mark a.act ≡ false

-- the marked block of a run, as the part of an order: where a body stands that has no mark
pub data RunBlock (r : Run) (ls : List ℕ) : Order → Type 0 where
  the_block : (b : Body) (n : ℕ) (d f : Temporary) → (n == r.block) ≡ true → HasNoMark (order_body b n d) → RunBlock r ls (order_body (marked_body r ls [] b) n f)
