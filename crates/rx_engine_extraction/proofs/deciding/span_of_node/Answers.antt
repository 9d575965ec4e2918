use Rattle.std.proofs.Common.{Some, sym, ap, ◌∙◌}
use Rattle.rx_tree_operations.specs.declared.positions.Node.{Node}
use Rattle.rx_tree_operations.specs.NodeOf.{plain-Node}
use Rattle.rx_engine_extraction.specs.Failing.{span_if}
use Rattle.rx_engine_extraction.proofs.Spans.{expression_placed, statement_placed}
use Rattle.rx_engine_extraction.proofs.deciding.span_of_node.Goals as goal

pub returns-in-Stmt : goal.returns-in-Stmt
returns-in-Stmt c = sym (ap (λ (n : Node). span_if (Some (plain-Node n))) c.in-Stmt.is ∙ statement_placed c.in-Stmt.stmt.now)

pub returns-in-Expr : goal.returns-in-Expr
returns-in-Expr c = sym (ap (λ (n : Node). span_if (Some (plain-Node n))) c.in-Expr.is ∙ expression_placed c.in-Expr.expr.now)
