use Rattle.std.proofs.Common.{ap, ◌∙◌}
use Rattle.rx_typed.specs.PlainTree.{plain-TypedTree}
use Rattle.rx_exits_plan.specs.PlainPlan.{plain-Run}
use Rattle.rx_exits_jumps.specs.Seen.{first_of_homes}
use Rattle.rx_exits_jumps.proofs.HomeLemmas.{sits_or_not}
use Rattle.rx_exits_jumps.proofs.finding.home_of.Goals as goal

pub returns-clause-sits : goal.returns-clause-sits
returns-clause-sits c =
    sits_or_not (plain-Run c.args.run) (plain-TypedTree c.args.tree.now) c.first_of.result (c.first_of.ensures ∙ ap first_of_homes c.in_ok-homes.ensures)
