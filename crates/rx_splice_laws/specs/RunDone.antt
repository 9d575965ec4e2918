-- A run whose tail becomes a statement (Rust Reference, "Expression statements"): a `;` stands directly behind its last token.
use Rattle.std.specs.Prelude.{◌≡◌, ℕ, ◌+◌, ◌≤◌, List, [], ◌∷◌, ◌++◌}
use Rattle.rx_core.specs.declared.types.Span.{Span}
use Rattle.rx_tree.specs.Plain as plain
use Rattle.rx_tree.specs.Plain.{Expression, Statement, ProgramTree}
use Rattle.rx_tree.specs.PlainOf.{statements_of}
use Rattle.rx_tree.specs.Lists.{listed}
use Rattle.rx_tree.specs.Erase.{erase_statements}
use Rattle.rx_lex.specs.Tok.{Tok}
use Rattle.rx_parse_grammar.specs.grammar.Words.{span_of}
use Rattle.rx_parse_grammar.specs.grammar.Expressions.{AreStatements}
use Rattle.rx_resolve_names.specs.Meant.{Around}
use Rattle.rx_hoist_extraction.specs.Run.{as_statements}
use Rattle.rx_hoist_extraction.specs.Plan.{Plan}
use Rattle.rx_hoist_extraction.specs.NewBody.{tail_done}
use Rattle.rx_splice_laws.specs.Edits.{Edit, put, spliced}
use Rattle.rx_splice_laws.specs.Moving.{Moving}
use Rattle.rx_splice_laws.specs.MovedBy.{moved_by, moved_statements, moved_tail}
use Rattle.rx_splice_laws.specs.RunEnd.{with_semicolon}
use Rattle.rx_splice_laws.specs.SplicedRun.{edits_of_run, between}
use Rattle.rx_splice_laws.specs.RunRead.{ReadBefore}

-- the edits of a run with this tail, and the `;`
abbrev pub edits_of_done : Moving → List Tok → List Tok → List Around → List Statement → Expression → List Edit
edits_of_done M all ts ls ss x = edits_of_run M all ls ss (plain.present x) ++ put (span_of ts).end (with_semicolon plain.absent).behind ∷ []

-- tokens are derived as what becomes of the statements, and the tail behind them as a statement
pub record DoneRun (P : ProgramTree) (pl : Plan) (r : Span) (ls : List Around) (ss : List Statement) (x : Expression) (h : ℕ) (us : List Tok) : Type 0 where
  pub statements : List Statement
  pub levels : ℕ
  pub derived : AreStatements us statements plain.absent levels
  pub same : erase_statements (statements_of statements)
      ≡ erase_statements (as_statements (listed (moved_statements P pl r ls (statements_of ss)) ++ tail_done r (moved_tail P pl r ls (statements_of ss) (plain.present x))))
  pub low : levels ≤ 130 + (h + h + h)

-- the tokens of the run's bytes with these edits
pub record ReadDoneRun (P : ProgramTree) (pl : Plan) (r : Span) (text : List ℕ) (all ts : List Tok) (ls : List Around) (ss : List Statement) (x : Expression) (h at : ℕ) : Type 0 where
  pub tokens : List Tok
  pub read : ReadBefore at (spliced (span_of ts).start (between (span_of ts).start (span_of ts).end text) (edits_of_done (moved_by P pl r) all ts ls ss x)) tokens
  pub becomes : DoneRun P pl r ls ss x h tokens
