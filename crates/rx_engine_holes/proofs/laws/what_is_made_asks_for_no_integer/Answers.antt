use Rattle.std.proofs.Common.{[]}
use Rattle.rx_typeck_typed.specs.Demands.{of_statements}
use Rattle.rx_engine_holes.specs.Tail.{of_end}
use Rattle.rx_engine_holes.specs.Others.{Anywhere}
use Rattle.rx_engine_holes.proofs.Integers.{end_keeps, no_integer, no_literal, statements_keep}
use Rattle.rx_engine_holes.proofs.laws.what_is_made_asks_for_no_integer.Goals as goal

pub returns : goal.returns
returns c f k d ss o made = (
  λ n. (λ i. no_literal n (of_statements f ss []) (statements_keep Anywhere f ss made [] tt) i, λ s i. no_integer n s (of_statements f ss []) (statements_keep Anywhere f ss made [] tt) i),
  λ ends n. (λ i. no_literal n (of_end f k d ss o []) (end_keeps Anywhere f k d ss o made ends [] tt) i, λ s i. no_integer n s (of_end f k d ss o []) (end_keeps Anywhere f k d ss o made ends [] tt) i),
)
