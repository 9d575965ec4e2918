use Rattle.std.proofs.Common.{◌≡◌, drop}
use Rattle.std.specs.List.{list_any}
use Rattle.rx_lex.specs.Tok.{toks}
use Rattle.rx_hoist_naming.specs.NameTest.{is_identifier_of}
use Rattle.rx_hoist_naming.proofs.names.some_token.Given as goal

-- whether some token is the identifier is told by those that are left
abbrev pub invariant-loop-token : goal.invariant-loop-token
invariant-loop-token l = list_any (is_identifier_of l.name) (toks (drop l.token-index l.tokens)) ≡ list_any (is_identifier_of l.name) (toks l.tokens)
