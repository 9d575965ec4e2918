use Rattle.std.proofs.Common.{map, ap, ◌∙◌}
use Rattle.rx_typed.specs.PlainTree.{plain-Expr}
use Rattle.rx_exits_plan.specs.PlainSyntax.{plain-Statement}
use Rattle.rx_exits_plan.proofs.StatementLemmas.{front_part}
use Rattle.rx_exits_plan.proofs.statements.in_front.Goals as goal

pub returns : goal.returns
returns c = ap (map plain-Statement) c.first.ensures ∙ front_part c.args.run.first c.args.home.now.stmts.now (plain-Expr c.args.home.now.tail.now)
