-- Statements that something follows (Rust Reference, "Statements"): the last of them may be an expression that ends in a block, without `;`.
use Rattle.std.specs.Prelude.{◌≡◌, ℕ, max, false, List, [], ◌∷◌, ◌++◌}
use Rattle.rx_tree.specs.Plain as plain
use Rattle.rx_tree.specs.Plain.{Expression, Statement}
use Rattle.rx_lex.specs.Tok.{Tok}
use Rattle.rx_parse_grammar.specs.grammar.Words.{span_of}
use Rattle.rx_parse_grammar.specs.grammar.Expressions as g
use Rattle.rx_parse_grammar.specs.grammar.Expressions.{IsLike}
use Rattle.rx_splice_laws.specs.Edits.{Edit, put}
use Rattle.rx_splice_laws.specs.Moving.{Moving}
use Rattle.rx_splice_laws.specs.RunEnd.{with_semicolon}
use Rattle.rx_splice_laws.specs.SplicedRun.{edits_of_run}
use Rattle.rx_resolve_names.specs.Meant.{Around}

-- tokens are such statements
pub data Fronts : List Tok → List Statement → ℕ → Type 0 where
  none_in_front : Fronts [] [] 0
  statement_in_front : {ts : List Tok} (us vs : List Tok) (a : Statement) (ss : List Statement) (m n : ℕ) → g.IsStatement us a m → Fronts vs ss n → ts ≡ us ++ vs → Fronts ts (a ∷ ss) (max m n)
  like_in_front : {ts : List Tok} (us vs : List Tok) (x : Expression) (ss : List Statement) (m n : ℕ) → IsLike us x m → Fronts vs ss n → ts ≡ us ++ vs
      → Fronts ts (plain.expression_statement (span_of us) x false ∷ ss) (max m n)

-- the edits of such a run, and the `;` of its last statement
abbrev pub edits_of_open : Moving → List Tok → List Tok → List Around → List Statement → List Edit
edits_of_open M all ts ls ss = edits_of_run M all ls ss plain.absent ++ put (span_of ts).end (with_semicolon plain.absent).behind ∷ []
