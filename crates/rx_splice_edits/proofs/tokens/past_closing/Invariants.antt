-- The end of the closing tokens of all is that of those that are left.
use Rattle.std.proofs.Common.{◌≡◌, drop}
use Rattle.rx_lex.specs.Tok.{toks}
use Rattle.rx_splice_laws.specs.Places.{past_closing}
use Rattle.rx_splice_edits.proofs.tokens.past_closing.Given as goal

abbrev pub invariant-loop-token : goal.invariant-loop-token
invariant-loop-token l = past_closing l.past (toks (drop l.token-index l.tokens)) ≡ past_closing l.end (toks l.tokens)
