use Rattle.std.proofs.Common.{◌≡◌, ◌++◌, map, drop}
use Rattle.rx_exits_plan.specs.Blocks.{declared_by_all}
use Rattle.rx_exits_plan.specs.PlainSyntax.{plain-Statement}
use Rattle.rx_exits_plan.proofs.statements.push_all_declared.Given as goal

abbrev pub invariant-loop-stmt : goal.invariant-loop-stmt
invariant-loop-stmt l = l.variables ++ declared_by_all (map plain-Statement (drop l.stmt-index l.stmts)) ≡ l.fn.variables ++ declared_by_all (map plain-Statement l.fn.stmts)
