-- The text of a run with its edits: pieces, of which the words are derived as what the extraction makes of the run (Rust Reference,
-- "Tokens", "Statements").
use Rattle.std.specs.Prelude.{◌≡◌, ℕ, ◌+◌, ◌-◌, ◌≤◌, List, [], ◌∷◌, ◌++◌, take, drop, map}
use Rattle.rx_tree.specs.Plain.{OptionalExpression, Statement, ProgramTree}
use Rattle.rx_tree.specs.PlainOf.{statements_of}
use Rattle.rx_tree.specs.Erase.{erase_statements, erase_optional}
use Rattle.rx_core.specs.declared.types.Span.{Span}
use Rattle.rx_lex.specs.declared.token.Class.{Class}
use Rattle.rx_lex.specs.Tok.{Tok}
use Rattle.rx_parse_grammar.specs.grammar.Words.{span_of}
use Rattle.rx_parse_grammar.specs.grammar.Expressions.{AreStatements}
use Rattle.rx_parse_laws.specs.Words.{words}
use Rattle.rx_print_spelling.specs.Pieces.{Piece, word, blanks, flat}
use Rattle.rx_resolve_names.specs.Meant.{Around}
use Rattle.rx_hoist_extraction.specs.Names.{behind_all}
use Rattle.rx_hoist_extraction.specs.Plan.{Plan}
use Rattle.rx_splice.specs.Edits.{AreEdits}
use Rattle.rx_splice_laws.specs.Edits.{Edit, written, spliced, Ordered}
use Rattle.rx_splice_laws.specs.EditsOf.{all_statement_edits, optional_edits}
use Rattle.rx_splice_laws.specs.Moving.{Moving, run_edits}
use Rattle.rx_splice_laws.specs.MovedBy.{moved_by, moved_statements, moved_tail}

-- tokens that stand among those of a text
pub record Part (all ts : List Tok) : Type 0 where
  pub pre : List Tok
  pub post : List Tok
  pub is : all ≡ pre ++ (ts ++ post)

-- the edits of a run's statements and tail, where these are all tokens of the text and `ls` stands round the run
abbrev pub edits_of_run : Moving → List Tok → List Around → List Statement → OptionalExpression → List Edit
edits_of_run M all ls ss y =
    all_statement_edits (run_edits M all) [] ls (statements_of ss)
    ++ optional_edits (run_edits M all) (behind_all [] (statements_of ss)) ls y

abbrev pub piece_words : List Piece → List (Class × List ℕ)
piece_words [] = []
piece_words (word c w ∷ ps) = (c, w) ∷ piece_words ps
piece_words (blanks b ∷ ps) = piece_words ps

-- the bytes of a text from one place to another
abbrev pub between : ℕ → ℕ → List ℕ → List ℕ
between from to text = take (to - from) (drop from text)

-- tokens are derived as what becomes of a run of these statements and this tail, which has so many levels
pub record MovedRun (P : ProgramTree) (pl : Plan) (r : Span) (ls : List Around) (ss : List Statement) (y : OptionalExpression) (h : ℕ) (us : List Tok) : Type 0 where
  pub statements : List Statement
  pub tail : OptionalExpression
  pub levels : ℕ
  pub derived : AreStatements us statements tail levels
  pub same_statements : erase_statements (statements_of statements) ≡ erase_statements (moved_statements P pl r ls (statements_of ss))
  pub same_tail : erase_optional tail ≡ erase_optional (moved_tail P pl r ls (statements_of ss) y)
  pub low : levels ≤ 130 + (h + h + h)

-- `ts` are the run's tokens among all of the text
pub record SplicedRun (P : ProgramTree) (pl : Plan) (r : Span) (text : List ℕ) (all ts : List Tok) (ls : List Around) (ss : List Statement) (y : OptionalExpression) (h : ℕ) : Type 0 where
  pub pieces : List Piece
  pub is_text : flat pieces ≡ spliced (span_of ts).start (between (span_of ts).start (span_of ts).end text) (edits_of_run (moved_by P pl r) all ls ss y)
  pub in_order : Ordered (span_of ts).start (edits_of_run (moved_by P pl r) all ls ss y) (span_of ts).end
  -- `splice` can make these edits of the text
  pub can_be_made : AreEdits text (map written (edits_of_run (moved_by P pl r) all ls ss y))
  -- tokens that have these words, wherever they stand
  pub read : (us : List Tok) → words us ≡ piece_words pieces → MovedRun P pl r ls ss y h us
