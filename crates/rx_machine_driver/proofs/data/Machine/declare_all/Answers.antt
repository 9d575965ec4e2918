use Rattle.std.proofs.Common.{◌+◌, drop, arith}
use Rattle.rx_machine_driver.proofs.BindLemmas.{declares_on, declares_end, drop_or, drop_end}
use Rattle.rx_machine_driver.proofs.data.Machine.declare_all.Goals as goal

pub loop-i-preserved : goal.loop-i-preserved
loop-i-preserved c =
    declares_on c.args.variables.now (drop c.loop-i.i c.args.variables.now) (drop (c.loop-i.i + 1) c.args.variables.now) _ c.args.self.now c.loop-i.self c.declare.new.self
    (drop_or c.args.variables.now c.loop-i.i _ (let e = c.loop-i-test.true in omega (arith, e))) c.loop-i.invariant c.in_ok-declare.ensures

pub returns : goal.returns
returns c =
    declares_end c.args.variables.now (drop c.loop-i.i c.args.variables.now) c.args.self.now c.loop-i.self
    (drop_end c.args.variables.now c.loop-i.i (let e = c.loop-i-test.false in omega (arith, e))) c.loop-i.invariant
