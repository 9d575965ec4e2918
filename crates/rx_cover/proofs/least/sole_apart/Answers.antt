use Rattle.std.proofs.Common.{◌∙◌, sym, map}
use Rattle.rx_cover.specs.PlainCells.{plain-Head}
use Rattle.rx_cover.proofs.LeastLemmas.{sole_found, no_sole}
use Rattle.rx_cover.proofs.least.sole_apart.Goals as goal

pub returns-then-has : goal.returns-then-has
returns-then-has c = λ D t s. no_sole D t (plain-Head c.args.head) (map plain-Head c.args.heads.now.keys) s (sym c.has.ensures ∙ c.if-has.true)

pub returns-else-has : goal.returns-else-has
returns-else-has c = λ D t s. sole_found D t (plain-Head c.args.head) (map plain-Head c.args.heads.now.keys) s (sym c.has.ensures ∙ c.if-has.false)
