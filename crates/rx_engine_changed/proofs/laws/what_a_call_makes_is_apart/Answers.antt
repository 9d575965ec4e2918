use Rattle.rx_typed.specs.Naming.{of_optional, of_statements}
use Rattle.rx_engine_changed.specs.Spots.{spot}
use Rattle.rx_engine_changed.proofs.Inside.{end_inside, inside_apart, statements_inside}
use Rattle.rx_engine_changed.proofs.Spots.{optional_numbered, statements_numbered}
use Rattle.rx_engine_changed.proofs.laws.what_a_call_makes_is_apart.Goals as goal

pub returns-clause-within : goal.returns-clause-within
returns-clause-within k q w E A f B ss c made x new stand =
    inside_apart q w A (spot c) (spot (of_statements ss c).1) made new (statements_inside E f x (spot c) (spot (of_statements ss c).1) (statements_numbered ss c)).1 stand

pub returns-clause-at_the_end : goal.returns-clause-at_the_end
returns-clause-at_the_end k q w E A f B n d ss t o c made x new stand =
    let S = of_statements ss c in let O = of_optional t o S.1 in
    inside_apart q w A (spot c) (spot O.1) made new (end_inside E f x (spot c) (spot S.1) (spot O.1) t (statements_numbered ss c) (optional_numbered o t S.1)) stand
