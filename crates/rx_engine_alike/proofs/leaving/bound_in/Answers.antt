use Rattle.std.proofs.Common.{arith}
use Rattle.rx_typed.specs.PlainTree.{plain-Expr}
use Rattle.rx_engine_alike.proofs.GivenLemmas.{bound_lets}
use Rattle.rx_engine_alike.proofs.leaving.bound_in.Goals as goal

pub returns-in-Lets : goal.returns-in-Lets
returns-in-Lets c =
    bound_lets c.args.stmts.now c.first-item.result c.in-Lets.field-0 c.in-Lets.pattern c.in-Lets.matched (plain-Expr c.args.tail.now) c.bound_by.result _
    (omega (arith, c.in-len1-up.len_at_least)) c.first-item.is c.in-Lets.is c.bound_by.ensures c.bound_then.ensures
