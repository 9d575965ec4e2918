use Rattle.std.proofs.Common.{map, length}
use Rattle.rx_typed.specs.Tree.{Exp}
use Rattle.rx_typed.specs.PlainTree.{plain-Stmt, nested_of}
use Rattle.rx_machine_values.specs.PlainMemory.{plain-Memory}
use Rattle.rx_machine_direct.specs.Reaching.{ComesBody}
use Rattle.rx_machine_direct.proofs.reaching.front.Given as goal

abbrev pub invariant-loop-rest : goal.invariant-loop-rest
invariant-loop-rest l = (last : Exp) → ComesBody l.fn.slots (plain-Memory l.fn.memory) (nested_of (map plain-Stmt l.fn.statements) last) (plain-Memory l.memory) (nested_of (map plain-Stmt l.left) last)

abbrev pub decreases-loop-rest : goal.decreases-loop-rest
decreases-loop-rest l = length l.left
