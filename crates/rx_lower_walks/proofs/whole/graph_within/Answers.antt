use Rattle.rx_lower_walks.specs.PlainFlow.{plain-Flow}
use Rattle.rx_lower_walks.proofs.Graphs.{within_limit}
use Rattle.rx_lower_walks.proofs.whole.graph_within.Goals as goal

pub returns-in-Ok-whole : goal.returns-in-Ok-whole
returns-in-Ok-whole c =
    within_limit (plain-Flow c.args.flow.now) c.in-Ok.size c.args.limit c.in-Ok-whole.sites c.ranges.limit.fits c.in-Ok.ensures.size c.if-size-limit.false
    c.in-Ok-whole.ensures
