use Rattle.std.proofs.Common.{ap, ◌∙◌}
use Rattle.rx_typed.specs.declared.tree.Stmt.{Stmt}
use Rattle.rx_typed.specs.PlainTree.{plain-Expr, plain-Stmt, stmt_runs}
use Rattle.rx_machine_values.specs.PlainMemory.{plain-Memory}
use Rattle.rx_machine_direct.proofs.DirectLemmas.{runs_is}
use Rattle.rx_machine_direct.proofs.reaching.runs.Goals as goal

pub returns-in-Runs : goal.returns-in-Runs
returns-in-Runs c =
    runs_is c.args.slots.now (plain-Memory c.args.memory.now) (plain-Expr c.in-Runs.expr) (plain-Memory c.assigned.new.memory) c.assigned.result (plain-Stmt c.args.statement.now)
    (λ rest. ap (λ (s : Stmt). plain-Stmt s rest) c.in-Runs.is ∙ stmt_runs c.in-Runs.expr rest) c.assigned.ensures
