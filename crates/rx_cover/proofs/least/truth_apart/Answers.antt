use Rattle.std.proofs.Common.{map, false, true}
use Rattle.rx_cover.specs.PlainCells.{plain-Head}
use Rattle.rx_cover.proofs.LeastLemmas.{truth_found}
use Rattle.rx_cover.proofs.least.truth_apart.Goals as goal

pub returns-then-not-has : goal.returns-then-not-has
returns-then-not-has c = λ D. truth_found D (map plain-Head c.args.heads.now.keys) false (cc)

pub returns-then-not-has-2 : goal.returns-then-not-has-2
returns-then-not-has-2 c = λ D. truth_found D (map plain-Head c.args.heads.now.keys) true (cc)
