use Rattle.rx_typeck_solver.proofs.Looking as looking
use Rattle.rx_typed.specs.PlainTypes.{declarations}
use Rattle.rx_typeck_solver.proofs.looks.is_copy.Goals as goal

pub returns : goal.returns
returns c = looking.copy_is (declarations c.args.items.now) c.args.arena.now.entries.items c.args.of _ c.requires.term c.copies.ensures
