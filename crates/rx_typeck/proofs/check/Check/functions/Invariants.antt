use Rattle.std.proofs.Common.{map}
use Rattle.rx_tree.specs.PlainOf.{plain-Item}
use Rattle.rx_typeck.specs.Checking.{given_of, Behind}
use Rattle.rx_typeck.proofs.check.Check.functions.Given as goal

abbrev pub invariant-loop-number : goal.invariant-loop-number
invariant-loop-number l = Behind (given_of l.self) l.self.names.now.items (map plain-Item l.items) l.number l.all
