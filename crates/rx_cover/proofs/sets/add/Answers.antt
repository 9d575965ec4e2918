use Rattle.std.proofs.Common.{◌∙◌, ap, map}
use Rattle.rx_cover.specs.PlainCells.{plain-Head}
use Rattle.rx_cover.proofs.SetLemmas.{added_keys}
use Rattle.rx_cover.proofs.sets.add.Goals as goal

pub returns-in-Ok : goal.returns-in-Ok
returns-in-Ok c = ap (map plain-Head) c.in-Ok.ensures.keys ∙ added_keys c.args.heads.now.keys c.args.head
