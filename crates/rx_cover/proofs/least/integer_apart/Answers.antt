use Rattle.std.proofs.Common.{map}
use Rattle.rx_cover.specs.PlainCells.{plain-Head}
use Rattle.rx_cover.proofs.LeastLemmas.{positive_found}
use Rattle.rx_cover.proofs.least.integer_apart.Goals as goal

pub returns-in-Some : goal.returns-in-Some
returns-in-Some c = λ D. positive_found D c.args.kind (map plain-Head c.args.heads.now.keys) c.in-Some.magnitude (plain-Head c.whole.result) c.whole.ensures (rw c.greatest.ensures at c.in-Some.ensures)
