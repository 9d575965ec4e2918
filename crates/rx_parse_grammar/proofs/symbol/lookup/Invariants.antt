use Rattle.std.proofs.Common.{◌≡◌, map, length}
use Rattle.rx_parse_grammar.specs.parser.Symbols.{lookup}
use Rattle.rx_parse_grammar.proofs.symbol.lookup.Given as goal

abbrev pub invariant-loop-table : goal.invariant-loop-table
invariant-loop-table l = lookup (map (λ k. (k.0.now, k.1)) l.fn.table) l.word ≡ lookup (map (λ k. (k.0.now, k.1)) l.table) l.word

abbrev pub decreases-loop-table : goal.decreases-loop-table
decreases-loop-table l = length l.table
