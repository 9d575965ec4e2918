use Rattle.std.proofs.Common.{map, ap}
use Rattle.rx_typed.specs.PlainTree.{plain-Expr}
use Rattle.rx_exits_plan.specs.Runs as runs
use Rattle.rx_exits_plan.specs.PlainPlan.{plain-Run}
use Rattle.rx_exits_plan.specs.PlainSyntax.{plain-Statement, plain-Home}
use Rattle.rx_exits_occurrences.specs.PlainOccurrence.{plain-Occurrence}
use Rattle.rx_exits_occurrences.proofs.OccurringLemmas.{behind_found}
use Rattle.rx_exits_occurrences.proofs.naming.found_behind.Goals as goal

pub returns : goal.returns
returns c =
    let r = plain-Run c.args.run in
    let b = (plain-Home c.args.home.now).body in
    behind_found (map plain-Occurrence c.push_tail.new.found) (map plain-Occurrence c.push_statements.new.found) (map plain-Occurrence c.new-found.result) (runs.behind r b)
    (map plain-Statement c.behind.result.now) c.args.run.tail c.args.home.now.stmts.now (plain-Expr c.args.home.now.tail.now) (ap (map plain-Occurrence) c.new-found.ensures) c.in_ok-push_statements.ensures
    c.behind.ensures c.in_ok-push_tail.ensures
