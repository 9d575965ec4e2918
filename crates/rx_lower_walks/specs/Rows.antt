-- The sums that the walk over a flow asks for, as a list: those of what it comes to first stand last.
use Rattle.std.specs.Prelude.{List, [], ◌∷◌, ◌++◌, length}
use Rattle.rx_lower_walks.specs.Flows.{Flow, nothing, nowhere, act, items, or, leave, passes, Items, last, do_and, ends_and, may_and, else_and, Item, doing, ending, may, trying, item_and}
use Rattle.rx_lower_walks.specs.declared.sums.Sum.{Sum}
use Rattle.rx_lower_walks.specs.declared.sums.Row.{Row}
use Rattle.rx_lower_walks.specs.declared.around.Around.{Around}
use Rattle.rx_lower_walks.specs.Around.{with_variable, with_loop}
use Rattle.rx_lower_walks.specs.Sums.{nowhere_sum, sum, sum_items, opened, no_items}

-- a part and what comes behind it, which has these rows
abbrev pub row : Sum → Sum → List Row → Row
row own rest behind = record { own = own; rest = rest; behind = length behind }

-- the rows of what comes behind, those of the part, and the row of both
abbrev pub with_row : Sum → Sum → List Row → List Row → List Row
with_row own rest behind rows = behind ++ (rows ++ row own rest behind ∷ [])

abbrev mutual
  pub flow_rows : Around → Flow → List Row
  flow_rows A nothing = []
  flow_rows A nowhere = []
  flow_rows A (act a) = []
  flow_rows A (items l) = items_rows A l
  flow_rows A (or f g) = with_row (sum A f) (sum A g) (flow_rows A g) (flow_rows A f)
  flow_rows A (leave x) = []
  flow_rows A (passes l f) = with_row (sum (with_loop l [] [] A) f) nowhere_sum [] (flow_rows (with_loop l [] [] A) f)

  pub items_rows : Around → Items → List Row
  items_rows A (last f) = flow_rows A f
  items_rows A (do_and f l) = with_row (sum A f) (sum_items A l) (items_rows A l) (flow_rows A f)
  items_rows A (ends_and n x l) = with_row nowhere_sum (sum_items (with_variable x A) l) (items_rows (with_variable x A) l) []
  items_rows A (may_and l) = with_row nowhere_sum (sum_items A l) (items_rows A l) []
  items_rows A (else_and f l) = with_row (sum A f) (sum_items A l) (items_rows A l) (flow_rows A f)

-- of an item: what is around the items behind it, its own sum, its own rows, and the row of both
abbrev pub past : Item → Around → Around
past n A = opened (item_and n no_items) A

abbrev pub own_sum : Around → Item → Sum
own_sum A (doing f) = sum A f
own_sum A (ending n x) = nowhere_sum
own_sum A may = nowhere_sum
own_sum A (trying f) = sum A f

abbrev pub own_rows : Around → Item → List Row
own_rows A (doing f) = flow_rows A f
own_rows A (ending n x) = []
own_rows A may = []
own_rows A (trying f) = flow_rows A f

abbrev pub item_row : Around → Item → Items → Row
item_row A n l = row (own_sum A n) (sum_items (past n A) l) (items_rows (past n A) l)
