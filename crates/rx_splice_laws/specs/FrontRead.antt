-- What is told of a run that a tail follows.
use Rattle.std.specs.Prelude.{◌≡◌, ℕ, ◌+◌, ◌≤◌, List}
use Rattle.rx_tree.specs.Plain.{Statement}
use Rattle.rx_tree.specs.PlainOf.{statements_of}
use Rattle.rx_tree.specs.Erase.{erase_statements}
use Rattle.rx_lex.specs.Tok.{Tok}
use Rattle.rx_parse_laws.specs.Words.{words}
use Rattle.rx_hoist_extraction.specs.Run.{as_statements}
use Rattle.rx_splice_laws.specs.RunRead.{ReadLines}
use Rattle.rx_splice_laws.specs.Fronts.{Fronts}

-- tokens are these statements, in front of something
pub record FrontRun (want : List Statement) (h : ℕ) (us : List Tok) : Type 0 where
  pub statements : List Statement
  pub levels : ℕ
  pub in_front : Fronts us statements levels
  pub same : erase_statements (statements_of statements) ≡ erase_statements (as_statements want)
  pub low : levels ≤ 131 + (h + h + h)

-- at a place before the end of a line, the text has tokens with the words of such
pub record ReadFront (text : List ℕ) (want : List Statement) (h at : ℕ) : Type 0 where
  pub tokens : List Tok
  pub read : ReadLines at text tokens
  pub alike : List Tok
  pub same_words : words tokens ≡ words alike
  pub becomes : FrontRun want h alike
