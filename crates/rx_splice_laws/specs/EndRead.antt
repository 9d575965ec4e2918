-- The body of the new function by the end of its run: the edits of the run, and what its text is derived as.
use Rattle.std.specs.Prelude.{◌≡◌, ℕ, ◌+◌, ◌≤◌, List, [], ◌++◌, Option, Some, None, ⊤}
use Rattle.rx_core.specs.declared.types.Span.{Span}
use Rattle.rx_tree.specs.Plain as plain
use Rattle.rx_tree.specs.Plain.{OptionalExpression, Body, Statement}
use Rattle.rx_tree.specs.PlainOf.{statements_of}
use Rattle.rx_tree.specs.Erase.{erase_body}
use Rattle.rx_lex.specs.Tok.{Tok}
use Rattle.rx_parse_grammar.specs.grammar.Words.{span_of}
use Rattle.rx_parse_grammar.specs.grammar.Expressions.{AreStatements, IsBlock}
use Rattle.rx_typed.specs.Types.{Typ, levels}
use Rattle.rx_resolve_names.specs.Meant.{Around}
use Rattle.rx_hoist_extraction.specs.Names.{behind_all}
use Rattle.rx_hoist_extraction.specs.Run.{Parts, block_of}
use Rattle.rx_hoist_extraction.specs.NewBody.{behind_locals}
use Rattle.rx_splice_laws.specs.Edits.{Edit, spliced}
use Rattle.rx_splice_laws.specs.EditsOf.{all_statement_edits, optional_edits}
use Rattle.rx_splice_laws.specs.Indent.{reindented}
use Rattle.rx_splice_laws.specs.Moving.{Moving, run_edits}
use Rattle.rx_splice_laws.specs.RunEnd.{RunEnd}
use Rattle.rx_splice_laws.specs.RunRead.{ReadLines}
use Rattle.rx_splice_laws.specs.SplicedRun.{between}
use Rattle.rx_splice_laws.specs.SplicedText.{tail_start, put_if_any}
use Rattle.rx_splice_laws.specs.Fronts.{Fronts}
use Rattle.rx_splice_laws.specs.BodyRead.{body_text}

-- a run's tokens: derived with its tail, and without one as statements that something may follow
abbrev pub RunTokens : List Tok → List Statement → OptionalExpression → ℕ → Type 0
RunTokens ts ss plain.absent h = Fronts ts ss h
RunTokens ts ss (plain.present x) h = AreStatements ts ss (plain.present x) h

abbrev pub edits_by_end : Moving → List Tok → List Tok → List Around → List Statement → OptionalExpression → RunEnd → List Edit
edits_by_end M all ts ls ss o e =
    all_statement_edits (run_edits M all) [] ls (statements_of ss)
    ++ (put_if_any (tail_start all (span_of ts).start ss) e.before
    ++ (optional_edits (run_edits M all) (behind_all [] (statements_of ss)) ls o ++ put_if_any (span_of ts).end e.behind))

-- the bytes of the run with edits, on lines that begin otherwise
abbrev pub run_on_lines : List ℕ → List ℕ → List Tok → List Edit → List ℕ
run_on_lines ind text ts es = reindented ind (spliced (span_of ts).start (between (span_of ts).start (span_of ts).end text) es)

abbrev pub ValueLow : Option Typ → Type 0
ValueLow None = ⊤
ValueLow (Some t) = levels t ≤ 130

pub record ReadWholeBody (r : Span) (locals : List Statement) (run : List ℕ) (o : OptionalExpression) (want : Parts) (h at : ℕ) : Type 0 where
  pub tokens : List Tok
  pub read : ReadLines at (body_text locals run o) tokens
  pub tree : Body
  pub levels : ℕ
  pub derived : IsBlock tokens tree levels
  pub same : erase_body tree ≡ erase_body (block_of r (behind_locals locals want))
  pub low : levels ≤ 132 + (h + h + h)
