use Rattle.std.proofs.Common.{arith}
use Rattle.rx_hoist_made.specs.PlainHanded.{plain-Handed}
use Rattle.rx_hoist.proofs.LevelLemmas.{few_together, many_together}
use Rattle.rx_hoist.proofs.levels.together_levels.Goals as goal

pub returns-then-count-lt2 : goal.returns-then-count-lt2
returns-then-count-lt2 c = few_together (plain-Handed c.args.handed) c.count.result c.most_handed-most.result c.count.ensures.count c.if-count-lt2.true c.most_handed-most.ensures

pub returns : goal.returns
returns c =
    many_together (plain-Handed c.args.handed) c.count.result _ c.count.ensures.count c.if-count-lt2.false (omega (arith, c.saturating_add.ensures, c.most_handed-most.ensures))
