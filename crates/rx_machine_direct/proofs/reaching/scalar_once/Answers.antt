use Rattle.std.proofs.Common.{option_map, ap, sym, ◌∙◌}
use Rattle.rx_typed.specs.PlainTree.{plain-Expr}
use Rattle.rx_machine_values.specs.PlainMemory.{plain-Memory}
use Rattle.rx_machine_direct.specs.PlainScalar.{plain-Scalar}
use Rattle.rx_machine_direct.proofs.DirectLemmas.{comes_direct, comes_self}
use Rattle.rx_machine_direct.proofs.reaching.scalar_once.Goals as goal

pub returns-in-Some : goal.returns-in-Some
returns-in-Some c =
    comes_direct c.args.slots.now (plain-Memory c.args.memory.now) (plain-Expr c.args.expr.now) (plain-Scalar c.in-Some.scalar) (sym c.direct.ensures ∙ ap (option_map plain-Scalar) c.in-Some.is)

pub returns-in-None : goal.returns-in-None
returns-in-None c = comes_self c.args.slots.now (plain-Memory c.args.memory.now) (plain-Expr c.args.expr.now)
