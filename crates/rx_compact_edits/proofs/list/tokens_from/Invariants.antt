-- The tokens from a place on of all are those of what is left.
use Rattle.std.proofs.Common.{◌≡◌, length}
use Rattle.rx_lex.specs.Tok.{toks}
use Rattle.rx_splice_laws.specs.Places.{tokens_from}
use Rattle.rx_compact_edits.proofs.list.tokens_from.Given as goal

abbrev pub invariant-loop-left : goal.invariant-loop-left
invariant-loop-left l = tokens_from l.at (toks l.left) ≡ tokens_from l.at (toks l.tokens)

abbrev pub decreases-loop-left : goal.decreases-loop-left
decreases-loop-left l = length l.left
