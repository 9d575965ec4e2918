-- All tokens are in order where those that are left are.
use Rattle.std.proofs.Common.{◌≡◌, drop}
use Rattle.rx_lex.specs.Tok.{toks}
use Rattle.rx_splice_edits.specs.InOrder.{in_order}
use Rattle.rx_splice_edits.proofs.tokens.are_in_order.Given as goal

abbrev pub invariant-loop-token : goal.invariant-loop-token
invariant-loop-token l = in_order l.from (toks (drop l.token-index l.tokens)) ≡ in_order 0 (toks l.tokens)
