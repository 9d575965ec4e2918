use Rattle.std.proofs.Common.{refl}
use Rattle.rx_tree_operations.specs.NodeOf.{plain-Node}
use Rattle.rx_hoist.proofs.SiteLemmas.{reached_on}
use Rattle.rx_hoist.proofs.site.reached.Goals as goal

pub loop-number-preserved : goal.loop-number-preserved
loop-number-preserved c =
    reached_on (plain-Node c.loop-number.node) _ _ c.args.way.now c.loop-number.number-index _ c.loop-number-test.true refl c.in-Some.ensures c.loop-number.invariant

pub returns-in-None : goal.returns-in-None
returns-in-None c =
    reached_on (plain-Node c.loop-number.node) _ _ c.args.way.now c.loop-number.number-index _ c.loop-number-test.true refl c.in-None.ensures c.loop-number.invariant
