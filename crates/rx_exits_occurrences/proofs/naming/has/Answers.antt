use Rattle.std.proofs.Common.{◌∙◌}
use Rattle.rx_exits_occurrences.proofs.NamingLemmas.{has_keys}
use Rattle.rx_exits_occurrences.proofs.naming.has.Goals as goal

pub returns : goal.returns
returns c = c.contains.ensures ∙ has_keys c.args.numbers.now.keys c.args.number
