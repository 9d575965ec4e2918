use Rattle.std.proofs.Common.{map, ap, ◌∙◌, drop}
use Rattle.rx_typed.specs.PlainTree.{plain-Expr}
use Rattle.rx_exits_plan.specs.PlainSyntax.{plain-Statement}
use Rattle.rx_exits_plan.proofs.StatementLemmas.{back_part}
use Rattle.rx_exits_plan.proofs.statements.behind.Goals as goal

pub returns : goal.returns
returns c =
    ap (map plain-Statement) (c.rest-2.ensures ∙ ap (drop c.args.run.count) c.rest.ensures)
    ∙ back_part c.args.run.first c.args.run.count c.args.home.now.stmts.now (plain-Expr c.args.home.now.tail.now)
