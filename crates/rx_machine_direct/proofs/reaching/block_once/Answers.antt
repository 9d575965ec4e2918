use Rattle.std.proofs.Common.{map}
use Rattle.rx_typed.specs.PlainTree.{plain-Expr, plain-Stmt, nested_of}
use Rattle.rx_machine_values.specs.PlainMemory.{plain-Memory}
use Rattle.rx_machine_direct.proofs.DirectLemmas.{last_of, comes_statements}
use Rattle.rx_machine_direct.proofs.reaching.block_once.Goals as goal

pub returns-in-None : goal.returns-in-None
returns-in-None c = λ m.
    last_of c.args.slots.now (plain-Memory c.args.memory.now) m (nested_of (map plain-Stmt c.args.statements.now) (plain-Expr c.args.last.now)) (plain-Memory c.front-left.new.memory) c.front-left.result.now (plain-Expr c.args.last.now)
    c.in-None.ensures.cases (c.front-left.ensures (plain-Expr c.args.last.now))

pub returns-in-Some : goal.returns-in-Some
returns-in-Some c = λ m.
    comes_statements c.args.slots.now (plain-Memory c.args.memory.now) m (nested_of (map plain-Stmt c.args.statements.now) (plain-Expr c.args.last.now)) (plain-Memory c.front-left.new.memory)
    (nested_of (map plain-Stmt c.front-left.result.now) (plain-Expr c.args.last.now)) (c.front-left.ensures (plain-Expr c.args.last.now))
