use Rattle.std.proofs.Common.{◌≡◌, drop}
use Rattle.rx_lex.specs.Tok.{toks}
use Rattle.rx_select.specs.Search.{front}
use Rattle.rx_select.proofs.places.front_of.Given as goal

abbrev pub invariant-loop-t : goal.invariant-loop-t
invariant-loop-t l = front l.start l.before (toks (drop l.t-index l.tokens)) ≡ front l.start 0 (toks l.tokens)
