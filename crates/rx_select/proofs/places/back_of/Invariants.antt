use Rattle.std.proofs.Common.{◌≡◌, drop}
use Rattle.rx_lex.specs.Tok.{toks}
use Rattle.rx_select.specs.Search.{back}
use Rattle.rx_select.proofs.places.back_of.Given as goal

abbrev pub invariant-loop-t : goal.invariant-loop-t
invariant-loop-t l = back l.end l.last l.length (toks (drop l.t-index l.tokens)) ≡ back l.end 0 l.length (toks l.tokens)
