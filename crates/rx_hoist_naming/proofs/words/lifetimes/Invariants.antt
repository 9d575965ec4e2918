use Rattle.std.proofs.Common.{◌≡◌, ◌++◌, drop}
use Rattle.rx_lex.specs.Tok.{toks}
use Rattle.rx_hoist_naming.specs.NamesWords as spec
use Rattle.rx_hoist_naming.proofs.words.lifetimes.Given as goal

-- the names so far, and those of the tokens that are left
abbrev pub invariant-loop-token : goal.invariant-loop-token
invariant-loop-token l = l.names ++ spec.lifetimes (toks (drop l.token-index l.tokens)) ≡ spec.lifetimes (toks l.fn.tokens)
