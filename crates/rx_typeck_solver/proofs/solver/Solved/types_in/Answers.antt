use Rattle.std.proofs.Common.{drop, arith}
use Rattle.std.proofs.lemmas.List.{drop_all}
use Rattle.rx_typed.specs.PlainTypes.{declarations}
use Rattle.rx_typeck_solver.proofs.Exporting.{table_end}
use Rattle.rx_typeck_solver.proofs.solver.Solved.types_in.Goals as goal

pub returns : goal.returns
returns c = table_end c.args.self.now (declarations c.args.items.now) c.args.table.now (drop c.loop-entry.entry-index c.args.table.now) c.loop-entry.all
    (drop_all c.loop-entry.entry-index c.args.table.now (omega (arith, c.loop-entry-test.false, c.loop-entry.auto.entry-index-end))) c.loop-entry.invariant.1
