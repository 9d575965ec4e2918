use Rattle.std.proofs.Common.{◌≡◌, ◌++◌, drop}
use Rattle.rx_hoist.proofs.parts.copied.Given as goal

abbrev pub invariant-loop-stmt : goal.invariant-loop-stmt
invariant-loop-stmt l = l.all ++ drop l.stmt-index l.stmts ≡ l.stmts
