use Rattle.std.proofs.Common.{◌∙◌}
use Rattle.rx_cover.proofs.SetLemmas.{has_keys}
use Rattle.rx_cover.proofs.sets.has.Goals as goal

pub returns : goal.returns
returns c = c.contains.ensures ∙ has_keys c.args.heads.now.keys c.args.head
