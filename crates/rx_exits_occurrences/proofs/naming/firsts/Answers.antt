use Rattle.std.proofs.Common.{◌∙◌}
use Rattle.rx_exits_occurrences.proofs.NamingLemmas.{list_as}
use Rattle.rx_exits_occurrences.proofs.naming.firsts.Goals as goal

pub returns : goal.returns
returns c = list_as c.from_slice.result _ _ (c.as_slice.ensures.keys ∙ c.in_ok-set.ensures) c.from_slice.ensures
