use Rattle.std.proofs.Common.{◌∙◌, ◌∷◌, List, ap, drop}
use Rattle.rx_lex.specs.Tok.{Tok, toks}
use Rattle.rx_parse_grammar.specs.grammar.Words.{second_ampersand}
use Rattle.rx_parse_grammar.specs.parser.Symbols.{head, tail, peek}
use Rattle.rx_parse_cursor.proofs.CursorLemmas.{half_is}
use Rattle.rx_parse_cursor.proofs.cursor.Cursor.halve.Goals as goal

pub returns-clause-after : goal.returns-clause-after
returns-clause-after c =
    half_is c.self.inside.split (toks (drop c.self.inside.at c.self.inside.tokens.now)) (ap peek c.self.view_is ∙ c.requires)
    ∙ ap (λ (i : List Tok). second_ampersand (head i) ∷ tail i) c.self.view_is
