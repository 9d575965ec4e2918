use Rattle.rx_facts.proofs.finding.facts.Goals as goal

pub all_found-requires-clause-sized : goal.all_found-requires-clause-sized
all_found-requires-clause-sized c = c.typed_sizes_are_sized.ensures c.requires.typed.0 c.requires.typed.1 c.args.typed.now c.in-Ok.sizes c.requires.typed.3 c.in-Ok.ensures
