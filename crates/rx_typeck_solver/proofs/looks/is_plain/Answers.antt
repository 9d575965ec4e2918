use Rattle.rx_typeck_solver.proofs.Looking as looking
use Rattle.rx_typeck_solver.proofs.looks.is_plain.Goals as goal

pub returns : goal.returns
returns c = looking.plain_is c.args.arena.now.entries.items c.requires.formed c.args.of c.form.result c.requires.term c.form.ensures _ c.plain_form.ensures
