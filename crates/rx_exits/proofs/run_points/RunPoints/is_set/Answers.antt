use Rattle.std.proofs.Common.{sym, ◌∙◌, true≢false}
use Rattle.rx_exits.proofs.Reading.{whole, never_whole}
use Rattle.rx_exits.proofs.run_points.RunPoints.is_set.Goals as goal

pub returns-then-comes : goal.returns-then-comes
returns-then-comes c A is unmixed = whole A c.args.variable c.is_param.result ((c.comes.ensures A is).0 c.if-comes.true) (c.is_param.ensures A is) unmixed

pub returns-else-comes : goal.returns-else-comes
returns-else-comes c A is unmixed = never_whole A c.args.variable (λ s. true≢false (sym ((c.comes.ensures A is).1 s) ∙ c.if-comes.false))
