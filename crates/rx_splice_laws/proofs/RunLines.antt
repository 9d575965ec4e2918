-- A run's text with its edits on lines that begin otherwise: tokens of the same words, so they are derived as what becomes of the run.
use Rattle.std.proofs.Common.{◌≡◌, ℕ, ◌+◌, true, List, [], ◌++◌, length, refl, sym, ap, subst, ◌∙◌, append-nil}
use Rattle.std.specs.Prelude.{◌≢◌}
use Rattle.std.specs.List.{list_all}
use Rattle.rx_core.specs.declared.types.Span.{Span}
use Rattle.rx_tree.specs.Plain as plain
use Rattle.rx_tree.specs.Plain.{OptionalExpression, Statement, ProgramTree}
use Rattle.rx_tree.specs.PlainOf.{statements_of}
use Rattle.rx_tree.specs.Erase.{erase_statements, erase_optional}
use Rattle.rx_lex.specs.Tok.{Tok}
use Rattle.rx_lex.specs.Tokens.{Tokens, none, Lexes, at_line_end}
use Rattle.rx_parse_grammar.specs.grammar.Expressions.{AreStatements}
use Rattle.rx_parse_laws.specs.Words.{words}
use Rattle.rx_parse_laws.specs.Parts.{Within, erased_within}
use Rattle.rx_parse_laws.proofs.SameWords.{Again}
use Rattle.rx_parse_laws.proofs.ExpressionsAgain.{statements_again}
use Rattle.rx_resolve_names.specs.Meant.{Around}
use Rattle.rx_hoist_extraction.specs.Plan.{Plan}
use Rattle.rx_hoist_extraction.specs.FormedPlan.{FormedPlan}
use Rattle.rx_splice_laws.specs.Indent.{is_level, reindented}
use Rattle.rx_splice_laws.specs.MovedBy.{PinsLow, moved_statements, moved_tail}
use Rattle.rx_splice_laws.specs.SplicedRun.{Part, MovedRun}
use Rattle.rx_splice_laws.specs.RunRead.{ReadBefore, ReadAs, ReadRun, ReadLines, ReadRunLines, run_bytes}
use Rattle.rx_splice_laws.proofs.RunSpliced.{run_read}
use Rattle.rx_splice_laws.proofs.Reindented.{reindented_again}
use Rattle.rx_splice_laws.proofs.GoesOn.{goes_on_read}

-- the tokens of the text alone
pub alone : (at : ℕ) (t : List ℕ) (ts : List Tok) → ReadBefore at t ts → Tokens at t ts
alone at t ts r = subst (λ x. Tokens at x ts) (append-nil t) (subst (λ x. Tokens at (t ++ []) x) (append-nil ts) (r.read [] [] refl none))

-- with lines that begin otherwise
pub read_lines : (ind t : List ℕ) (k : ℕ) (ts : List Tok) → list_all is_level ind ≡ true → Tokens k t ts → (at : ℕ) → (us : List Tok) × (words us ≡ words ts) × ReadLines at (reindented ind t) us
read_lines ind t k ts l d at =
    let a = reindented_again ind t k ts l d at in
    (a.tokens, a.same, record { read = λ rest more e f. goes_on_read at (reindented ind t) rest a.tokens more a.read e f })

module _ (P : ProgramTree) (pl : Plan) (r : Span) where
  -- tokens of the same words
  pub moved_again : (ls : List Around) (ss : List Statement) (y : OptionalExpression) (h : ℕ) (us vs : List Tok) → MovedRun P pl r ls ss y h us → words vs ≡ words us → MovedRun P pl r ls ss y h vs
  moved_again ls ss y h us vs m e =
      let a : Again (λ ws (w : Within). AreStatements ws w.0 w.1 m.levels) erased_within vs (erase_statements (statements_of m.statements), erase_optional m.tail) = statements_again m.derived vs e in record {
        statements = a.tree.0;
        tail = a.tree.1;
        levels = m.levels;
        derived = a.derived;
        same_statements = ap (λ (z : plain.Statements × OptionalExpression). z.0) a.same ∙ m.same_statements;
        same_tail = ap (λ (z : plain.Statements × OptionalExpression). z.1) a.same ∙ m.same_tail;
        low = m.low;
      }

  pub run_lines : FormedPlan P pl → PinsLow pl.pins → (text : List ℕ) (all ts : List Tok) (ls : List Around) (ss : List Statement) (y : OptionalExpression) (h : ℕ) → Lexes text all → Part all ts → ts ≢ []
      → AreStatements ts ss y h → (ind : List ℕ) → list_all is_level ind ≡ true → (at : ℕ) → ReadRunLines P pl r text all ts ls ss y h at ind
  run_lines F L text all ts ls ss y h d p n g ind l at =
      let a = run_read P pl r F L text all ts ls ss y h d p n g 0 in
      let b = read_lines ind (run_bytes P pl r text all ts ls ss y) 0 a.tokens l (alone 0 (run_bytes P pl r text all ts ls ss y) a.tokens a.read) at in record {
        tokens = b.0;
        read = b.2;
        becomes = moved_again ls ss y h a.tokens b.0 a.becomes b.1;
      }
