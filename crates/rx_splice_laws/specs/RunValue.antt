-- A run with a value: what stands round its tail (Rust Reference, "Enumerated type variants", "let statements"), and what its tokens are derived as.
use Rattle.std.specs.Prelude.{◌≡◌, ℕ, ◌+◌, ◌≤◌, false, List, [], ◌∷◌, ◌++◌}
use Rattle.rx_core.specs.declared.types.Span.{Span}
use Rattle.rx_tree.specs.Plain as plain
use Rattle.rx_tree.specs.Plain.{Expression, OptionalExpression, Statement, Statements, ProgramTree}
use Rattle.rx_tree.specs.PlainOf.{statements_of}
use Rattle.rx_tree.specs.Lists.{listed}
use Rattle.rx_tree.specs.Erase.{erase_statements, erase_optional}
use Rattle.rx_lex.specs.Tok.{Tok}
use Rattle.rx_typed.specs.Types.{Typ}
use Rattle.rx_parse_grammar.specs.grammar.Words.{span_of}
use Rattle.rx_parse_grammar.specs.grammar.Expressions.{AreStatements}
use Rattle.rx_resolve_names.specs.Meant.{Around}
use Rattle.rx_hoist_extraction.specs.Names.{behind_all}
use Rattle.rx_hoist_extraction.specs.Run.{Parts, as_statements}
use Rattle.rx_hoist_extraction.specs.Plan.{to_next, Plan, enum_name, exit_name}
use Rattle.rx_hoist_extraction.specs.Fresh.{fresh_variable}
use Rattle.rx_hoist_extraction.specs.Made.{variant, let_typed}
use Rattle.rx_hoist_extraction.specs.WrittenTypes.{elided}
use Rattle.rx_hoist_extraction.specs.NewBody.{next_outs}
use Rattle.rx_hoist_extraction.specs.Changed.{changed}
use Rattle.rx_hoist_extraction.specs.Moved.{moving}
use Rattle.rx_splice_laws.specs.Edits.{Edit, put, spliced}
use Rattle.rx_splice_laws.specs.EditsOf.{all_statement_edits, edits}
use Rattle.rx_splice_laws.specs.Moving.{Moving, run_edits}
use Rattle.rx_splice_laws.specs.MovedBy.{pins_of, moved_statements}
use Rattle.rx_splice_laws.specs.RunEnd.{RunEnd}
use Rattle.rx_splice_laws.specs.SplicedRun.{between}
use Rattle.rx_splice_laws.specs.SplicedText.{tail_start}
use Rattle.rx_splice_laws.specs.RunRead.{ReadBefore}

-- the edits of a run whose tail is x, with text directly before the tail's first token and behind the run's last
abbrev pub edits_of_value : Moving → List Tok → List Tok → List Around → List Statement → Expression → RunEnd → List Edit
edits_of_value M all ts ls ss x e =
    all_statement_edits (run_edits M all) [] ls (statements_of ss)
    ++ (put (tail_start all (span_of ts).start ss) e.before ∷ (edits (run_edits M all) (behind_all [] (statements_of ss)) ls false x ++ put (span_of ts).end e.behind ∷ []))

-- the tail, pinned, then moved
abbrev pub moved_value : ProgramTree → Plan → Span → List Around → Statements → Expression → Expression
moved_value P pl r ls ss x = changed (moving pl r) (behind_all [] ss) ls (changed (pins_of P r pl.pins) (behind_all [] ss) ls x)

-- `E::Next(x, outs)` behind the statements
abbrev pub in_variant_parts : ProgramTree → Plan → Span → List Around → List Statement → Expression → Parts
in_variant_parts P pl r ls ss x = record {
  statements = listed (moved_statements P pl r ls (statements_of ss));
  tail = plain.present (variant r (enum_name pl) (exit_name to_next) (moved_value P pl r ls (statements_of ss) x ∷ next_outs pl r));
}

-- `let out_0: T = x;` behind the statements
abbrev pub in_let_parts : ProgramTree → Plan → Span → Typ → List Around → List Statement → Expression → Parts
in_let_parts P pl r t ls ss x = record {
  statements = listed (moved_statements P pl r ls (statements_of ss)) ++ let_typed r (fresh_variable pl.identifiers 0) (elided P r t) (moved_value P pl r ls (statements_of ss) x) ∷ [];
  tail = plain.absent;
}

-- tokens are derived as these parts
pub record EndedRun (want : Parts) (h : ℕ) (us : List Tok) : Type 0 where
  pub statements : List Statement
  pub tail : OptionalExpression
  pub levels : ℕ
  pub derived : AreStatements us statements tail levels
  pub same_statements : erase_statements (statements_of statements) ≡ erase_statements (as_statements want.statements)
  pub same_tail : erase_optional tail ≡ erase_optional want.tail
  pub low : levels ≤ 131 + (h + h + h)

-- the tokens of a run's bytes with these edits, at a place
pub record ReadEndedRun (text : List ℕ) (ts : List Tok) (es : List Edit) (want : Parts) (h at : ℕ) : Type 0 where
  pub tokens : List Tok
  pub read : ReadBefore at (spliced (span_of ts).start (between (span_of ts).start (span_of ts).end text) es) tokens
  pub becomes : EndedRun want h tokens
