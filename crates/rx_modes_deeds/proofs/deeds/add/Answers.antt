use Rattle.rx_modes_deeds.proofs.Tables.{added}
use Rattle.rx_modes_deeds.proofs.deeds.add.Goals as goal

pub returns : goal.returns
returns c =
    added c.args.table.now.items c.grow.new.table.items c.args.variable c.args.done c.index.result.now c.both.result c.in_ok-grow.ensures.within c.in_ok-grow.ensures.same
    c.index.ensures c.both.ensures
