-- The equation of a plain block that the goals need, by its parts.
use Rattle.rx_tree.specs.PlainOf.{block_is}

pub ruleset block_rules = (block_is)
