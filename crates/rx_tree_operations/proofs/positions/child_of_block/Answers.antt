use Rattle.std.proofs.Common.{Some, None, option_map, refl}
use Rattle.rx_tree_operations.specs.NodeOf.{plain-Node}
use Rattle.rx_tree_operations.proofs.PositionsLemmas.{block_front, block_behind}
use Rattle.rx_tree_operations.proofs.positions.child_of_block.Goals as goal

pub returns-then-number-stmts : goal.returns-then-number-stmts
returns-then-number-stmts c = block_front c.args.block.now c.as_slice-stmts.result.now c.args.number (option_map plain-Node c.statement_in.result) c.as_slice-stmts.ensures c.if-number-stmts.true c.statement_in.ensures

pub returns-in-Some : goal.returns-in-Some
returns-in-Some c = block_behind c.args.block.now c.as_slice-stmts.result.now (Some c.in-Some.tail) c.args.number (option_map plain-Node c.one.result) c.as_slice-stmts.ensures c.in-Some.is c.if-number-stmts.false (cc (c.one.ensures, c.get.ensures))

pub returns-in-None : goal.returns-in-None
returns-in-None c = block_behind c.args.block.now c.as_slice-stmts.result.now None c.args.number None c.as_slice-stmts.ensures c.in-None.is c.if-number-stmts.false refl
