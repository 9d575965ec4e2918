use Rattle.std.proofs.Common.{rules, ◌≡◌, ◌<◌, length, ℕ}
use Rattle.rx_typeck_solver.proofs.Viewing as viewing
use Rattle.rx_typeck_solver.proofs.solver.Solved.entry.Goals as goal

pub returns-in-Some : goal.returns-in-Some
returns-in-Some c = viewing.entry_some c.args.self.now c.args.of c.shape.result c.in-Some.entry c.requires c.shape.ensures c.in-Some.is

pub returns-in-None : goal.returns-in-None
returns-in-None c = viewing.entry_none c.args.self.now c.args.of c.shape.result c.shape.ensures c.in-None.is
