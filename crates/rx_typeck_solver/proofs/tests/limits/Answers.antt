use Rattle.std.proofs.Common.{◌∙◌}
use Rattle.rx_typed.specs.Types.{keeps_limits}
use Rattle.rx_typeck_solver.specs.Cells.{sizes_of}
use Rattle.rx_typeck_solver.proofs.Looking.{limits_kept, test_one_entry}
use Rattle.rx_typeck_solver.proofs.tests.limits.Goals as goal

pub returns-in-Some : goal.returns-in-Some
returns-in-Some c = limits_kept c.args.sizes.now c.args.arena.now.entries.items c.in-Some.of c.in_limits.result c.requires.sized c.in-Some.ensures.term c.in_limits.ensures
    ∙ test_one_entry (keeps_limits (sizes_of c.args.sizes.now)) c.args.arena.now.entries.items c.args.ts.now c.only_term.result c.in-Some.of c.only_term.ensures.value c.in-Some.is
