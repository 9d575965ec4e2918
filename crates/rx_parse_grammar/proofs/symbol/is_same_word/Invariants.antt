use Rattle.std.proofs.Common.{◌≡◌, length}
use Rattle.std.specs.Str.{bytes_eq}
use Rattle.rx_parse_grammar.proofs.symbol.is_same_word.Given as goal

abbrev pub invariant-loop-a : goal.invariant-loop-a
invariant-loop-a l = bytes_eq l.fn.a l.fn.b ≡ bytes_eq l.a l.b

abbrev pub decreases-loop-a : goal.decreases-loop-a
decreases-loop-a l = length l.a
