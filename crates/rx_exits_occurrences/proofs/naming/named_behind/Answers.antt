use Rattle.std.proofs.Common.{true, ◌++◌, [], if◌then◌else◌, map, ap, ◌∙◌}
use Rattle.rx_exits_plan.specs.Blocks.{tail}
use Rattle.rx_exits_plan.specs.Runs as runs
use Rattle.rx_exits_plan.specs.Occurrences as occurrences
use Rattle.rx_exits_plan.specs.PlainPlan.{plain-Run}
use Rattle.rx_exits_plan.specs.PlainSyntax.{plain-Home}
use Rattle.rx_exits_occurrences.specs.PlainOccurrence.{plain-Occurrence}
use Rattle.rx_exits_occurrences.proofs.NamingLemmas.{chosen_as}
use Rattle.rx_exits_occurrences.proofs.naming.named_behind.Goals as goal

pub returns : goal.returns
returns c =
    let b = (plain-Home c.args.home.now).body in
    chosen_as c.chosen.result true c.as_slice-2.result.now
    (occurrences.variables_among (occurrences.in_statements (runs.behind (plain-Run c.args.run) b) ++ (if c.args.run.tail then [] else occurrences.occurrences (tail b)))) c.args.all.now
    (c.as_slice-2.ensures ∙ c.in_ok-named.ensures ∙ ap occurrences.variables_among (ap (map plain-Occurrence) c.as_slice.ensures ∙ c.in_ok-found.ensures))
    c.chosen.ensures
