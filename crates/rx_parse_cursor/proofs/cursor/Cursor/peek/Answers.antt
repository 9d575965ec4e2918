use Rattle.std.proofs.Common.{◌∙◌, ap, cond, drop, sym}
use Rattle.rx_lex.specs.Tok.{toks}
use Rattle.rx_parse_grammar.specs.parser.Symbols.{peek}
use Rattle.rx_parse_cursor.specs.Place.{halved}
use Rattle.rx_parse_cursor.proofs.CursorLemmas.{half_peeked}
use Rattle.rx_parse_cursor.proofs.cursor.Cursor.peek.Goals as goal

pub returns-then-self : goal.returns-then-self
returns-then-self c =
    let l = toks (drop c.self.inside.at c.self.inside.tokens.now) in
    half_peeked c.self.inside.tokens.now c.self.inside.at c.in-Some.token.now c.in-Some.ensures.lookup.3.0
    ∙ ap (λ b. peek (cond b (halved l) l)) (sym c.if-self.true) ∙ ap peek c.self.view_is
