use Rattle.std.proofs.Common.{◌≡◌, drop}
use Rattle.rx_lex.specs.Tok.{toks}
use Rattle.rx_compact_text.specs.CompactedText.{closed_at}
use Rattle.rx_compact_edits.proofs.list.closed_at.Given as goal

abbrev pub invariant-loop-token : goal.invariant-loop-token
invariant-loop-token l = closed_at l.at (toks (drop l.token-index l.tokens)) ≡ closed_at l.at (toks l.tokens)
