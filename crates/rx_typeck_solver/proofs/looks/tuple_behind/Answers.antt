use Rattle.rx_typeck_solver.specs.Cells.{term}
use Rattle.rx_typeck_solver.proofs.Looking as looking
use Rattle.rx_typeck_solver.proofs.looks.tuple_behind.Goals as goal

pub returns-in-Tuple : goal.returns-in-Tuple
returns-in-Tuple c = looking.tuple_is c.args.arena.now.entries.items c.requires.formed c.peeled.result c.form.result c.peeled.ensures.term c.form.ensures _ c.args.count c.in-Tuple.list (term c.args.arena.now.entries.items c.args.of) c.in-Tuple.is c.is_as_long.ensures c.peeled.ensures.value

pub returns-in_default : goal.returns-in_default
returns-in_default c = looking.tuple_not c.args.arena.now.entries.items c.requires.formed c.peeled.result c.form.result c.peeled.ensures.term c.form.ensures c.args.count (term c.args.arena.now.entries.items c.args.of) (λ j. c.in_default.not-Tuple j) c.peeled.ensures.value
