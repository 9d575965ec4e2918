use Rattle.std.proofs.Common.{true, ◌++◌, map, ap, ◌∙◌}
use Rattle.rx_exits_plan.specs.Blocks.{declared_by_all}
use Rattle.rx_exits_plan.specs.Runs as runs
use Rattle.rx_exits_plan.specs.PlainPlan.{plain-Run}
use Rattle.rx_exits_plan.specs.PlainSyntax.{plain-Statement, plain-Home}
use Rattle.rx_exits_occurrences.proofs.NamingLemmas.{chosen_as}
use Rattle.rx_exits_occurrences.proofs.naming.direct.Goals as goal

pub returns : goal.returns
returns c =
    chosen_as c.chosen.result true c.as_slice.result.now (declared_by_all (runs.inside (plain-Run c.args.run) (plain-Home c.args.home.now).body)) c.args.all.now
    (c.as_slice.ensures ∙ c.in_ok-push_all_declared.ensures ∙ ap (λ l. l ++ declared_by_all (map plain-Statement c.inside.result.now)) c.new-declared.ensures ∙ ap declared_by_all c.inside.ensures)
    c.chosen.ensures
