use Rattle.std.proofs.Common.{◌≡◌, suc, ◌+◌, map, subst, arith}
use Rattle.rx_tree.specs.PlainOf.{plain-Item}
use Rattle.rx_typeck.specs.Checking.{given_of, Behind, ItemTyped}
use Rattle.rx_typeck.proofs.TypingLemmas.{goes_on, ends, stops, item_here, items_end, given, given_err}
use Rattle.rx_typeck.proofs.check.Check.functions.Goals as goal

pub returns-in-Err-clause-untyped : goal.returns-in-Err-clause-untyped
returns-in-Err-clause-untyped c told =
    stops (given_of c.args.self.now) c.args.self.now.names.now.items (map plain-Item c.args.items.now) c.loop-number.number (plain-Item c.index-items-number.result) c.loop-number.all c.in-Err.fault (item_here c.args.items.now c.loop-number.number c.index-items-number.result c.loop-number-test.true c.index-items-number.is) c.loop-number.invariant
    (given_err _ c.item.result c.in-Err.fault c.item.ensures.untyped c.in-Err.is told)

pub loop-number-preserved : goal.loop-number-preserved
loop-number-preserved c =
    let more : suc c.loop-number.number ≡ c.loop-number.number + 1 = omega arith in
    subst (λ n. Behind (given_of c.args.self.now) c.args.self.now.names.now.items (map plain-Item c.args.items.now) n c.in-Ok.more) more
    (goes_on (given_of c.args.self.now) c.args.self.now.names.now.items (map plain-Item c.args.items.now) c.loop-number.number (plain-Item c.index-items-number.result) c.loop-number.all c.in-Ok.more (item_here c.args.items.now c.loop-number.number c.index-items-number.result c.loop-number-test.true c.index-items-number.is) c.loop-number.invariant
    (given (ItemTyped (given_of c.args.self.now) c.args.self.now.names.now.items c.loop-number.number (plain-Item c.index-items-number.result) c.loop-number.all) c.item.result c.in-Ok.more c.item.ensures.typed c.in-Ok.is))

pub returns-clause-typed : goal.returns-clause-typed
returns-clause-typed c =
    ends (given_of c.args.self.now) c.args.self.now.names.now.items (map plain-Item c.args.items.now) c.loop-number.number c.loop-number.all
    (items_end c.args.items.now c.loop-number.number (omega (arith, c.loop-number-test.false, c.loop-number.auto.number-end))) c.loop-number.invariant
