use Rattle.rx_exits_occurrences.proofs.NamingLemmas.{chosen_is}
use Rattle.rx_exits_occurrences.proofs.naming.chosen.Goals as goal

pub returns : goal.returns
returns c = chosen_is c.all_wanted.result c.args.wanted c.in_ok-set.set.keys c.args.others.now c.args.numbers.now c.in_ok-set.ensures c.all_wanted.ensures
