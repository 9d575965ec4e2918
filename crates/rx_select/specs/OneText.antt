-- Tokens and a program that belong to one text, of so many bytes.
use Rattle.std.specs.Prelude.{◌≡◌, ℕ, List, length}
use Rattle.rx_tree.specs.Plain.{ProgramTree}
use Rattle.rx_lex.specs.Tok.{Tok}
use Rattle.rx_lex.specs.Tokens.{Lexes}
use Rattle.rx_parse_grammar.specs.grammar.Items.{Parses}

pub record OneText (ts : List Tok) (bytes : ℕ) (p : ProgramTree) : Type 0 where
  pub text : List ℕ
  pub lexed : Lexes text ts
  pub parsed : Parses text p
  pub long : length text ≡ bytes
