use Rattle.std.proofs.Common.{None, map, ap, ◌∙◌}
use Rattle.rx_tree.specs.Plain as plain
use Rattle.rx_tree.specs.Erase.{nowhere}
use Rattle.rx_tree.specs.PlainOf.{plain-Stmt, statements_of, block_is}
use Rattle.rx_hoist.proofs.hoisting.no_block.Goals as goal

pub returns : goal.returns
returns c = block_is nowhere c.new.result None ∙ ap (λ l. plain.body nowhere (statements_of (map plain-Stmt l)) plain.absent) c.new.ensures
