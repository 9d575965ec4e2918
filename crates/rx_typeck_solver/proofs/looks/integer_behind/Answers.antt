use Rattle.rx_typeck_solver.specs.Cells.{term}
use Rattle.rx_typeck_solver.proofs.Looking as looking
use Rattle.rx_typeck_solver.proofs.looks.integer_behind.Goals as goal

pub returns : goal.returns
returns c = looking.integer_is c.args.arena.now.entries.items c.requires.formed c.peeled.result c.form.result c.peeled.ensures.term c.form.ensures _ (term c.args.arena.now.entries.items c.args.of) c.integer_form.ensures c.peeled.ensures.value
