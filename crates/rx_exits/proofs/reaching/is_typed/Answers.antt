use Rattle.rx_exits.proofs.ReachingLemmas.{typed_some, typed_none}
use Rattle.rx_exits.proofs.reaching.is_typed.Goals as goal

pub returns-in-Some : goal.returns-in-Some
returns-in-Some c = typed_some c.args.expr.now _ c.in-Some.is

pub returns-in-None : goal.returns-in-None
returns-in-None c = λ n. n (typed_none c.args.expr.now c.in-None.is)
