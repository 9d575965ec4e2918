-- A token as a contract sees it: its class, where it stands, and its bytes.
use Rattle.std.specs.Prelude.{ℕ, List, map}
use Rattle.rx_core.specs.declared.types.Span.{Span}
use Rattle.rx_lex.specs.declared.token.Class.{Class}
use Rattle.rx_lex.specs.declared.token.Token.{Token}

pub record Tok : Type 0 where
  pub class : Class
  pub span : Span
  pub text : List ℕ

abbrev pub tok : Token → Tok
tok t = record { class = t.class; span = t.span; text = t.text.now }

abbrev pub toks : List Token → List Tok
toks = map tok
