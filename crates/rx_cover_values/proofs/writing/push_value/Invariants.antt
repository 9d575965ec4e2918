-- What is written and what is due make the whole.
use Rattle.std.proofs.Common.{◌+◌, ◌-◌, ◌*◌, length}
use Rattle.rx_tree.specs.PlainOf.{plain-Program}
use Rattle.rx_cover_values.proofs.WrittenLemmas.{Goes}
use Rattle.rx_cover_values.proofs.writing.push_value.Given as goal

abbrev pub invariant-loop-top : goal.invariant-loop-top
invariant-loop-top l = Goes (plain-Program l.fn.program) l.fn.nodes l.fn.text l.opened l.at l.text

abbrev pub decreases-loop-top : goal.decreases-loop-top
decreases-loop-top l = length l.opened + 2 * (length l.fn.nodes - l.at)
