-- What it is that a canonical text is read back as its tree: its tokens are derived as the tree apart from spans, with the levels of the text.
use Rattle.std.specs.Prelude.{List}
use Rattle.rx_tree.specs.Plain.{ProgramTree}
use Rattle.rx_tree.specs.Erase.{SameProgram}
use Rattle.rx_lex.specs.Tok.{Tok}
use Rattle.rx_lex.specs.Tokens.{Lexes}
use Rattle.rx_parse_grammar.specs.grammar.Items.{IsFile}
use Rattle.rx_print_spelling.specs.Items.{print_program}
use Rattle.rx_print_spelling.specs.Levels.{levels_of}

pub record ReadBack (p : ProgramTree) : Type 0 where
  pub tokens : List Tok
  pub lexed : Lexes (print_program p) tokens
  pub tree : ProgramTree
  pub derived : IsFile tokens tree (levels_of p)
  pub same : SameProgram tree p
