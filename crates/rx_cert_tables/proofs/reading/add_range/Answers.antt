-- One number more is added.
use Rattle.std.proofs.Common.{◌+◌, arith, refl}
use Rattle.rx_cert_tables.proofs.Filled.{ranged_none, ranged_more, ranged_all}
use Rattle.rx_cert_tables.proofs.reading.add_range.Goals as goal

pub loop-number-init : goal.loop-number-init
loop-number-init c = ranged_none c.args.row.now c.args.first

pub loop-number-preserved : goal.loop-number-preserved
loop-number-preserved c =
    ranged_more c.args.row.now c.loop-number.row c.insert.new.self c.args.first c.loop-number.number (c.loop-number.number + 1) (omega arith) refl c.loop-number.invariant
    c.insert.ensures.inserted

pub returns : goal.returns
returns c = ranged_all c.args.row.now c.loop-number.row c.args.first c.loop-number.number c.args.end (omega arith) c.loop-number.invariant
