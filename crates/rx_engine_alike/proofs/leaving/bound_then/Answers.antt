use Rattle.std.proofs.Common.{arith}
use Rattle.rx_typed.specs.PlainTree.{plain-Expr, plain-Matched}
use Rattle.rx_engine_alike.proofs.GivenLemmas.{bound_value, bound_behind}
use Rattle.rx_engine_alike.proofs.leaving.bound_then.Goals as goal

pub returns-in-Value : goal.returns-in-Value
returns-in-Value c =
    bound_value c.args.variable c.in-Some.variable c.args.matched.now c.in-Value.value c.get.result.now c.args.stmts.now (plain-Expr c.args.tail.now)
    (omega (arith, c.in-empty.len_below)) c.in-Some.is c.in-Value.is c.get.ensures

pub returns-in-len1-up : goal.returns-in-len1-up
returns-in-len1-up c = bound_behind c.args.variable (plain-Matched c.args.matched.now) c.args.stmts.now (plain-Expr c.args.tail.now) (omega (arith, c.in-len1-up.len_at_least))
