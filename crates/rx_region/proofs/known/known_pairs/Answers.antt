use Rattle.rx_region.specs.PlainContext.{plain-Given}
use Rattle.rx_region.proofs.Wholes.{knows_so}
use Rattle.rx_region.proofs.known.known_pairs.Goals as goal

pub returns : goal.returns
returns c = knows_so (plain-Given c.args.given.now) c.in_ok-told.told c.as_slice.result.now c.as_slice-2.result.now c.in-Ok.size c.count.result c.in_ok-rows.rows.items
    c.from_vec.result c.as_slice-3.result.now c.in_ok-pairs.pairs c.in_ok-told.ensures c.as_slice.ensures c.as_slice-2.ensures c.count.ensures.within c.count.ensures.more
    c.in-Ok.ensures.1 c.in_ok-rows.ensures c.as_slice-3.ensures.value c.in_ok-pairs.ensures c.from_vec.ensures
