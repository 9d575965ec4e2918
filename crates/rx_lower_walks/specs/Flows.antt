-- Orders of actions as flows: sequences are lists, so that code goes over them by loops.
use Rattle.std.specs.Prelude.{ℕ, List, [], ◌∷◌}
use Rattle.rx_lower_walks.specs.Actions.{Action}
use Rattle.rx_lower_walks.specs.Orders.{Exit, Order}
use Rattle.rx_lower_walks.specs.Orders as order

mutual
  pub data Flow : Type 0 where
    -- it goes on without an action; it never goes on
    nothing : Flow
    nowhere : Flow
    act : Action → Flow
    items : Items → Flow
    or : Flow → Flow → Flow
    leave : Exit → Flow
    -- any number of passes of a loop, by its number
    passes : ℕ → Flow → Flow

  -- a sequence, which ends in a flow
  pub data Items : Type 0 where
    last : Flow → Items
    -- the flow, then what follows
    do_and : Flow → Items → Items
    -- what follows, with a variable that ends where it does: at this node, or at the jump's
    ends_and : ℕ → ℕ → Items → Items
    -- what follows, or a test has failed
    may_and : Items → Items
    -- the flow, and what follows comes where a test in it fails
    else_and : Flow → Items → Items

-- what stands in a sequence in front of what follows
pub data Item : Type 0 where
  doing : Flow → Item
  ending : ℕ → ℕ → Item
  may : Item
  trying : Flow → Item

abbrev pub item_and : Item → Items → Items
item_and (doing f) l = do_and f l
item_and (ending n x) l = ends_and n x l
item_and may l = may_and l
item_and (trying f) l = else_and f l

abbrev pub items_of : List Item → Items → Items
items_of [] l = l
items_of (i ∷ is) l = item_and i (items_of is l)

-- the order that a flow is
abbrev mutual
  pub order_of : Flow → Order
  order_of nothing = order.nothing
  order_of nowhere = order.nowhere
  order_of (act a) = order.act a
  order_of (items l) = order_of_items l
  order_of (or f g) = order.or (order_of f) (order_of g)
  order_of (leave x) = order.leave x
  order_of (passes l f) = order.passes l (order_of f)

  pub order_of_items : Items → Order
  order_of_items (last f) = order_of f
  order_of_items (do_and f l) = order.then (order_of f) (order_of_items l)
  order_of_items (ends_and n x l) = order.ending n x (order_of_items l)
  order_of_items (may_and l) = order.or (order_of_items l) order.fail
  order_of_items (else_and f l) = order.otherwise (order_of f) (order_of_items l)
