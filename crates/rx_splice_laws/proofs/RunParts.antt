-- What a run's text becomes, on lines that begin otherwise, as parts of a body: as it is, with its tail as a statement, and with a value.
use Rattle.std.proofs.Common.{◌≡◌, ℕ, true, List, refl, sym, ap, ◌∙◌, arith}
use Rattle.std.specs.List.{list_all}
use Rattle.rx_core.specs.declared.types.Span.{Span}
use Rattle.rx_tree.specs.Plain as plain
use Rattle.rx_tree.specs.Plain.{Expression, OptionalExpression, Statement, ProgramTree}
use Rattle.rx_tree.specs.PlainOf.{statements_of}
use Rattle.rx_tree.specs.Erase.{erase_statements}
use Rattle.rx_lex.specs.Tok.{Tok}
use Rattle.rx_parse_grammar.specs.grammar.Words.{span_of}
use Rattle.rx_resolve_names.specs.Meant.{Around}
use Rattle.rx_hoist_extraction.specs.Run.{Parts}
use Rattle.rx_hoist_extraction.specs.Plan.{Plan}
use Rattle.rx_splice_laws.specs.Edits.{Edit, spliced}
use Rattle.rx_splice_laws.specs.Indent.{is_level, reindented}
use Rattle.rx_splice_laws.specs.MovedBy.{moved_by, moved_statements}
use Rattle.rx_splice_laws.specs.SplicedRun.{between, MovedRun}
use Rattle.rx_splice_laws.specs.RunDone.{edits_of_done, DoneRun, ReadDoneRun}
use Rattle.rx_splice_laws.specs.RunRead.{ReadBefore, ReadRun, run_bytes}
use Rattle.rx_splice_laws.specs.RunValue.{EndedRun, ReadEndedRun}
use Rattle.rx_splice_laws.specs.BodyRead.{kept_parts, done_parts, ReadParts}
use Rattle.rx_splice_laws.proofs.RunLines.{alone, read_lines}
use Rattle.rx_splice_laws.proofs.RunValue.{as_listed, again_ended}

parts_on_lines : (ind t : List ℕ) (us : List Tok) (want : Parts) (h : ℕ) → list_all is_level ind ≡ true → ReadBefore 0 t us → EndedRun want h us → (at : ℕ) → ReadParts (reindented ind t) want h at
parts_on_lines ind t us want h l a e at =
    let b = read_lines ind t 0 us l (alone 0 t us a) at in
    record { tokens = b.0; read = b.2; becomes = again_ended want h us b.0 e b.1 }

pub ended_on_lines : (text : List ℕ) (ts : List Tok) (es : List Edit) (want : Parts) (h : ℕ) (ind : List ℕ) → list_all is_level ind ≡ true → ReadEndedRun text ts es want h 0
    → (at : ℕ) → ReadParts (reindented ind (spliced (span_of ts).start (between (span_of ts).start (span_of ts).end text) es)) want h at
ended_on_lines text ts es want h ind l a at = parts_on_lines ind (spliced (span_of ts).start (between (span_of ts).start (span_of ts).end text) es) a.tokens want h l a.read a.becomes at

module _ (P : ProgramTree) (pl : Plan) (r : Span) where
  kept_ended : (ls : List Around) (ss : List Statement) (y : OptionalExpression) (h : ℕ) (us : List Tok) → MovedRun P pl r ls ss y h us → EndedRun (kept_parts P pl r ls ss y) h us
  kept_ended ls ss y h us m = record {
    statements = m.statements;
    tail = m.tail;
    levels = m.levels;
    derived = m.derived;
    same_statements = m.same_statements ∙ ap erase_statements (sym (as_listed (moved_statements P pl r ls (statements_of ss))));
    same_tail = m.same_tail;
    low = let k = m.low in omega (arith, k);
  }

  done_ended : (ls : List Around) (ss : List Statement) (x : Expression) (h : ℕ) (us : List Tok) → DoneRun P pl r ls ss x h us → EndedRun (done_parts P pl r ls ss x) h us
  done_ended ls ss x h us m = record {
    statements = m.statements;
    tail = plain.absent;
    levels = m.levels;
    derived = m.derived;
    same_statements = m.same;
    same_tail = refl;
    low = let k = m.low in omega (arith, k);
  }

  pub kept_on_lines : (text : List ℕ) (all ts : List Tok) (ls : List Around) (ss : List Statement) (y : OptionalExpression) (h : ℕ) (ind : List ℕ) → list_all is_level ind ≡ true → ReadRun P pl r text all ts ls ss y h 0
      → (at : ℕ) → ReadParts (reindented ind (run_bytes P pl r text all ts ls ss y)) (kept_parts P pl r ls ss y) h at
  kept_on_lines text all ts ls ss y h ind l a at =
      parts_on_lines ind (run_bytes P pl r text all ts ls ss y) a.tokens (kept_parts P pl r ls ss y) h l a.read (kept_ended ls ss y h a.tokens a.becomes) at

  pub done_on_lines : (text : List ℕ) (all ts : List Tok) (ls : List Around) (ss : List Statement) (x : Expression) (h : ℕ) (ind : List ℕ) → list_all is_level ind ≡ true → ReadDoneRun P pl r text all ts ls ss x h 0
      → (at : ℕ) → ReadParts (reindented ind (spliced (span_of ts).start (between (span_of ts).start (span_of ts).end text) (edits_of_done (moved_by P pl r) all ts ls ss x))) (done_parts P pl r ls ss x) h at
  done_on_lines text all ts ls ss x h ind l a at =
      parts_on_lines ind (spliced (span_of ts).start (between (span_of ts).start (span_of ts).end text) (edits_of_done (moved_by P pl r) all ts ls ss x)) a.tokens (done_parts P pl r ls ss x) h l a.read (done_ended ls ss x h a.tokens a.becomes) at
