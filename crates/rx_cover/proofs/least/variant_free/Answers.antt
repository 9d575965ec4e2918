use Rattle.std.proofs.Common.{◌∙◌, sym, map}
use Rattle.rx_typed.specs.PlainTypes.{plain-Ty}
use Rattle.rx_cover.specs.PlainCells.{plain-Head}
use Rattle.rx_cover.proofs.LeastLemmas.{free_by}
use Rattle.rx_cover.proofs.least.variant_free.Goals as goal

pub returns-then-not-has : goal.returns-then-not-has
returns-then-not-has c = λ D known. free_by D c.args.inhabited.now c.args.item c.args.variant (map plain-Ty c.args.parts.now) (map plain-Head c.args.heads.now.keys) c.all_valued.result known (sym c.has.ensures ∙ c.if-not-has.true) c.all_valued.ensures
