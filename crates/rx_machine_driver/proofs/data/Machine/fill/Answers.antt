use Rattle.std.proofs.Common.{◌+◌, map, reverse, drop, get_or, ap, arith}
use Rattle.rx_typed.specs.PlainTree.{plain-Param}
use Rattle.rx_machine_values.specs.PlainValues.{plain-Value}
use Rattle.rx_machine_frames.specs.Choosing.{fill_all}
use Rattle.rx_machine_driver.proofs.BindLemmas.{fills_on, fills_short, fills_by, last_of, none_last, drop_or, drop_end}
use Rattle.rx_machine_driver.proofs.data.Machine.fill.Goals as goal

pub loop-i-preserved : goal.loop-i-preserved
loop-i-preserved c =
    fills_on (λ s. fill_all (map plain-Param c.args.params.now) (reverse (map plain-Value c.args.arguments)) s) (map plain-Param (drop c.loop-i.i c.args.params.now)) (map plain-Param (drop (c.loop-i.i + 1) c.args.params.now))
    (reverse (map plain-Value c.loop-i.left)) (reverse (map plain-Value c.pop.new.self)) _ (plain-Value c.in-Some.value) c.args.self.now c.loop-i.self c.bind.new.self
    (ap (map plain-Param) (drop_or c.args.params.now c.loop-i.i _ (let e = c.loop-i-test.true in omega (arith, e))))
    (last_of c.loop-i.left c.pop.new.self c.in-Some.value c.in-Some.ensures) c.loop-i.invariant c.in_ok-bind-in-Some.ensures

pub returns-in-None : goal.returns-in-None
returns-in-None c =
    fills_short (λ s. fill_all (map plain-Param c.args.params.now) (reverse (map plain-Value c.args.arguments)) s) (map plain-Param (drop c.loop-i.i c.args.params.now)) (map plain-Param (drop (c.loop-i.i + 1) c.args.params.now))
    (reverse (map plain-Value c.loop-i.left)) (plain-Param (get_or c.args.params.now c.loop-i.i (record { node = 0; variable = 0 }))) c.args.self.now c.loop-i.self
    (ap (map plain-Param) (drop_or c.args.params.now c.loop-i.i (record { node = 0; variable = 0 }) (let e = c.loop-i-test.true in omega (arith, e))))
    (none_last c.loop-i.left c.in-None.ensures.0) c.loop-i.invariant

pub returns : goal.returns
returns c =
    fills_by (λ s. fill_all (map plain-Param c.args.params.now) (reverse (map plain-Value c.args.arguments)) s) (map plain-Param (drop c.loop-i.i c.args.params.now)) c.loop-i.left c.args.self.now c.loop-i.self c.none_left.result
    (ap (map plain-Param) (drop_end c.args.params.now c.loop-i.i (let e = c.loop-i-test.false in omega (arith, e)))) c.none_left.ensures c.loop-i.invariant
