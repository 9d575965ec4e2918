use Rattle.std.proofs.Common.{length}
use Rattle.rx_tree.specs.PlainOf.{plain-Program}
use Rattle.rx_tree.specs.Nodes.{below}
use Rattle.rx_tree_operations.specs.NodeOf.{plain-Node}
use Rattle.rx_lex.specs.Tok.{toks}
use Rattle.rx_select.specs.Descent.{Descent}
use Rattle.rx_select.proofs.selecting.select.Given as goal

abbrev pub invariant-down : goal.invariant-down
invariant-down l = Descent l.tokens.length (toks l.tokens.list) (plain-Program l.program) l.start l.end l.places l.function (plain-Node l.node) l.path

abbrev pub decreases-down : goal.decreases-down
decreases-down l = length (below (plain-Node l.node))
