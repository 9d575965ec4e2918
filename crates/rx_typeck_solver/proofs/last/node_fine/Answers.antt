use Rattle.std.proofs.Common.{◌||◌, sym, ap}
use Rattle.rx_typeck_solver.proofs.Lasting.{node_open}
use Rattle.rx_typeck_solver.proofs.last.node_fine.Goals as goal

pub returns-else-alone : goal.returns-else-alone
returns-else-alone c = node_open c.args.arena.now.entries.items c.args.tables.now c.args.node c.parent_at-class.result c.set_at-kinds.result c.single-alone.result c.mark_at-marked.result _ c.args.marks.now c.requires.fits c.requires.flat (c.is_open.ensures.0 c.if-is_open.true) c.parent_at-class.ensures c.set_at-kinds.ensures c.single-alone.ensures c.mark_at-marked.ensures (sym (ap (λ x. x || c.mark_at-marked.result) c.if-alone.false))
