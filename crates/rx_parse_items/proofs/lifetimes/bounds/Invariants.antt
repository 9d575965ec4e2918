-- The parser at the entry is the parser of the turns that are left, behind the bounds that were found.
use Rattle.std.proofs.Common.{◌≡◌, ◌-◌}
use Rattle.rx_parse_grammar.specs.parser.Items.{bounds, bounds_from}
use Rattle.rx_parse_items.proofs.lifetimes.bounds.Given as goal

abbrev pub invariant-loop-turn : goal.invariant-loop-turn
invariant-loop-turn l = bounds l.fn.cursor ≡ bounds_from (l._turn-end - l._turn) l.found l.cursor
