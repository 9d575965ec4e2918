use Rattle.std.proofs.Common.{◌∙◌}
use Rattle.rx_region.specs.PlainContext.{plain-Given}
use Rattle.rx_region.proofs.Zips.{parameters_more}
use Rattle.rx_region.proofs.given.Given.add_parameters.Goals as goal

pub loop-ty-preserved : goal.loop-ty-preserved
loop-ty-preserved c =
    rw (c.others-left.ensures)
    (parameters_more (plain-Given c.args.self.now) c.args.params.now c.loop-ty.left.now c.loop-ty.ty-index c.ty-item.result c.loop-ty.pairs c.add_first.new.pairs
    c.loop-ty-test.true c.ty-item.is c.in_ok-add_first.ensures ∙ c.loop-ty.invariant)
