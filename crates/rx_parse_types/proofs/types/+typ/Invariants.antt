use Rattle.rx_parse_types.proofs.types.+typ.Given as goal

abbrev pub decreases-typ : goal.decreases-typ
decreases-typ l = l.depth
