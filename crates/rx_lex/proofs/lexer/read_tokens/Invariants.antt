use Rattle.std.proofs.Common.{◌-◌, length}
use Rattle.rx_lex.specs.Tok.{toks}
use Rattle.rx_lex.proofs.Reading.{Reading}
use Rattle.rx_lex.proofs.lexer.read_tokens.Given as goal

abbrev pub invariant-loop-at : goal.invariant-loop-at
invariant-loop-at l = Reading l.text l.at (toks l.list)

abbrev pub decreases-loop-at : goal.decreases-loop-at
decreases-loop-at l = length l.text - l.at
