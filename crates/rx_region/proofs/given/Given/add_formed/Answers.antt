use Rattle.std.proofs.Common.{◌∙◌}
use Rattle.rx_region.specs.PlainContext.{plain-Given}
use Rattle.rx_region.proofs.Zips.{formed_more}
use Rattle.rx_region.proofs.given.Given.add_formed.Goals as goal

pub loop-number-preserved : goal.loop-number-preserved
loop-number-preserved c =
    formed_more (plain-Given c.args.self.now) c.args.types.now c.loop-number.number c.index-types-number.result c.loop-number.pairs c.add_formed_one.new.pairs
    c.loop-number-test.true c.index-types-number.is c.in_ok-add_formed_one.ensures ∙ c.loop-number.invariant
