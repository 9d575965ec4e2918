use Rattle.std.proofs.Common.{sym, subst}
use Rattle.rx_typed.specs.PlainTree.{plain-Expr}
use Rattle.rx_machine_values.specs.PlainMemory.{plain-Memory}
use Rattle.rx_machine_direct.specs.Reaching.{into, Comes}
use Rattle.rx_machine_direct.proofs.DirectLemmas.{comes_assigned, comes_self}
use Rattle.rx_machine_direct.proofs.reaching.assignment_once.Goals as goal

pub returns-then-assigned : goal.returns-then-assigned
returns-then-assigned c = comes_assigned c.args.slots.now (plain-Memory c.args.memory.now) (plain-Expr c.args.expr.now) (plain-Memory c.assigned.new.memory) c.if-assigned.ensures

pub returns-else-assigned : goal.returns-else-assigned
returns-else-assigned c =
    subst (λ L. Comes c.args.slots.now (plain-Memory c.args.memory.now) (plain-Expr c.args.expr.now) L (into (plain-Expr c.args.expr.now))) (sym c.if-assigned.ensures)
    (comes_self c.args.slots.now (plain-Memory c.args.memory.now) (plain-Expr c.args.expr.now))
