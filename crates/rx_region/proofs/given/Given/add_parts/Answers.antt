use Rattle.std.proofs.Common.{◌∙◌, get_or, refl}
use Rattle.rx_typed.specs.Renaming.{all_renamed, argument}
use Rattle.rx_region.specs.PlainContext.{plain-Given}
use Rattle.rx_region.specs.Steps.{regions_in}
use Rattle.rx_region.proofs.Zips.{parts_more, number_there}
use Rattle.rx_region.proofs.given.Given.add_parts.Goals as goal

pub loop-number-preserved : goal.loop-number-preserved
loop-number-preserved c =
    rw (c.others-left.ensures)
    (parts_more (plain-Given c.args.self.now) (all_renamed (argument c.args.arguments.now) (regions_in c.args.parts)) c.args.numbers.now c.loop-number.left.now c.loop-number.number-index
    (get_or c.args.numbers.now c.loop-number.number-index 0) c.loop-number.pairs c.add_first_part.new.pairs c.loop-number-test.true
    (number_there c.args.numbers.now c.loop-number.number-index (get_or c.args.numbers.now c.loop-number.number-index 0) c.loop-number-test.true refl)
    c.in_ok-add_first_part.ensures ∙ c.loop-number.invariant)
