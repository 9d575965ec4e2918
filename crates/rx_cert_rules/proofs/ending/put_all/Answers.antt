use Rattle.rx_cert_rules.proofs.Points.{none_put, one_put, all_put}
use Rattle.rx_cert_rules.proofs.ending.put_all.Goals as goal

pub pairs-init : goal.pairs-init
pairs-init c = none_put c.args.pairs.now c.args.own c.args.rows.now c.requires

pub pairs-preserved : goal.pairs-preserved
pairs-preserved c = one_put c.args.pairs.now c.args.own c.pairs.rows c.put.new.rows c.pairs.k _ c.pairs-test.true c.put.ensures c.pairs.invariant

pub returns : goal.returns
returns c = all_put c.args.pairs.now c.args.own c.pairs.rows c.pairs.k c.pairs-test.false c.pairs.invariant
