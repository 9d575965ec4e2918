use Rattle.std.proofs.Common.{map, ap}
use Rattle.rx_exits_plan.specs.Runs as runs
use Rattle.rx_exits_plan.specs.PlainPlan.{plain-Run}
use Rattle.rx_exits_plan.specs.PlainSyntax.{plain-Statement, plain-Home, plain-Value}
use Rattle.rx_exits_occurrences.specs.PlainOccurrence.{plain-Occurrence}
use Rattle.rx_exits_occurrences.proofs.OccurringLemmas.{run_found}
use Rattle.rx_exits_occurrences.proofs.naming.in_run.Goals as goal

pub returns : goal.returns
returns c =
    let r = plain-Run c.args.run in
    let b = (plain-Home c.args.home.now).body in
    run_found (map plain-Occurrence c.push_value.new.found) (map plain-Occurrence c.push_statements.new.found) (map plain-Occurrence c.new-found.result) (runs.inside r b)
    (map plain-Statement c.inside.result.now) (runs.last_value r b) (plain-Value c.last_value.result) (ap (map plain-Occurrence) c.new-found.ensures) c.in_ok-push_statements.ensures c.inside.ensures
    c.in_ok-push_value.ensures c.last_value.ensures
