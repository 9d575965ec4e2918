use Rattle.rx_typeck_solver.proofs.Trimming.{trimmed_set}
use Rattle.rx_typeck_solver.proofs.tables.write.Goals as goal

pub returns-in-Ok-clause-trimmed : goal.returns-in-Ok-clause-trimmed
returns-in-Ok-clause-trimmed c = trimmed_set c.args.table.now.items c.lengthen.new.table.items c.args.at c.args.entry c.in-Ok.ensures.longer c.in-Ok.ensures.no_longer
