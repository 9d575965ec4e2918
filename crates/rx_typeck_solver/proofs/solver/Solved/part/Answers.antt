use Rattle.std.proofs.Common.{rules, ◌≡◌, ◌<◌, length, ℕ}
use Rattle.rx_typeck_solver.proofs.Viewing as viewing
use Rattle.rx_typeck_solver.proofs.solver.Solved.part.Goals as goal

pub returns : goal.returns
returns c = viewing.part_seen c.args.self.now c.args.entry c.args.number c.part_behind.result c.part_behind.ensures
