use Rattle.std.proofs.Common.{map}
use Rattle.rx_cover.specs.PlainCells.{plain-Head}
use Rattle.rx_cover.proofs.LeastLemmas.{negative_found, no_integer}
use Rattle.rx_cover.proofs.least.negative_apart.Goals as goal

pub returns-in-Some : goal.returns-in-Some
returns-in-Some c = λ D. negative_found D c.args.kind (map plain-Head c.args.heads.now.keys) c.in-Some.magnitude (plain-Head c.whole.result) c.whole.ensures (rw c.below_zero.ensures at c.in-Some.ensures)

pub returns-in-None : goal.returns-in-None
returns-in-None c = λ D. no_integer D c.args.kind (map plain-Head c.args.heads.now.keys) c.requires (rw c.below_zero.ensures at c.in-None.ensures)
