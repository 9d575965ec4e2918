use Rattle.rx_tree_operations.proofs.PositionsLemmas.{patterns_found, patterns_past}
use Rattle.rx_tree_operations.proofs.positions.pattern_in.Goals as goal

pub returns-then-number-patterns : goal.returns-then-number-patterns
returns-then-number-patterns c = patterns_found c.args.patterns.now c.args.number c.index-patterns-number.result c.if-number-patterns.true c.index-patterns-number.is

pub returns-else-number-patterns : goal.returns-else-number-patterns
returns-else-number-patterns c = patterns_past c.args.patterns.now c.args.number c.if-number-patterns.false
