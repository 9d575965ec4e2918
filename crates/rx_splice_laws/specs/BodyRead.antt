-- The body of the new function as text (Rust Reference, "Block expressions"): the locals, the run, and the tail behind it, each on lines of
-- its own.
use Rattle.std.specs.Prelude.{◌≡◌, ℕ, ◌+◌, ◌≤◌, List, ◌∷◌, ◌++◌, codes, ⊤}
use Rattle.rx_core.specs.declared.types.Span.{Span}
use Rattle.rx_tree.specs.Plain as plain
use Rattle.rx_tree.specs.Plain.{Expression, OptionalExpression, Body, Statement, ProgramTree}
use Rattle.rx_tree.specs.PlainOf.{statements_of}
use Rattle.rx_tree.specs.Lists.{listed}
use Rattle.rx_tree.specs.Erase.{erase_body}
use Rattle.rx_lex.specs.Tok.{Tok}
use Rattle.rx_parse_grammar.specs.grammar.Expressions.{IsBlock}
use Rattle.rx_print_spelling.specs.Pieces.{flat}
use Rattle.rx_resolve_names.specs.Meant.{Around}
use Rattle.rx_hoist_extraction.specs.Run.{Parts, block_of}
use Rattle.rx_hoist_extraction.specs.Plan.{Plan}
use Rattle.rx_hoist_extraction.specs.NewBody.{tail_done}
use Rattle.rx_splice_laws.specs.Indent.{four}
use Rattle.rx_splice_laws.specs.MovedBy.{moved_statements, moved_tail}
use Rattle.rx_splice_laws.specs.SplicedText.{lines, tail_line}
use Rattle.rx_splice_laws.specs.RunRead.{ReadLines}
use Rattle.rx_splice_laws.specs.RunValue.{EndedRun}

-- at a place before the end of a line, the text has tokens that are derived as these parts
pub record ReadParts (text : List ℕ) (want : Parts) (h at : ℕ) : Type 0 where
  pub tokens : List Tok
  pub read : ReadLines at text tokens
  pub becomes : EndedRun want h tokens

-- the run as it is, and with its tail as a statement
abbrev pub kept_parts : ProgramTree → Plan → Span → List Around → List Statement → OptionalExpression → Parts
kept_parts P pl r ls ss y = record { statements = listed (moved_statements P pl r ls (statements_of ss)); tail = moved_tail P pl r ls (statements_of ss) y }

abbrev pub done_parts : ProgramTree → Plan → Span → List Around → List Statement → Expression → Parts
done_parts P pl r ls ss x = record {
  statements = listed (moved_statements P pl r ls (statements_of ss)) ++ tail_done r (moved_tail P pl r ls (statements_of ss) (plain.present x));
  tail = plain.absent;
}

-- statements alone
abbrev pub front_parts : List Statement → Parts
front_parts ss = record { statements = ss; tail = plain.absent }

abbrev pub body_text : List Statement → List ℕ → OptionalExpression → List ℕ
body_text locals run o = codes "{" ++ (flat (lines locals) ++ (10 ∷ (four ++ (run ++ (flat (tail_line o) ++ (10 ∷ codes "}"))))))

-- there are not two tails
abbrev pub OneTail : OptionalExpression → OptionalExpression → Type 0
OneTail plain.absent o = ⊤
OneTail (plain.present e) plain.absent = ⊤
OneTail (plain.present e) (plain.present x) = ⊥

abbrev pub tail_or : OptionalExpression → OptionalExpression → OptionalExpression
tail_or plain.absent o = o
tail_or (plain.present e) o = plain.present e

abbrev pub body_parts : List Statement → Parts → OptionalExpression → Parts
body_parts locals p o = record { statements = locals ++ p.statements; tail = tail_or p.tail o }

pub record ReadNewBody (r : Span) (locals : List Statement) (text : List ℕ) (want : Parts) (o : OptionalExpression) (h at : ℕ) : Type 0 where
  pub tokens : List Tok
  pub read : ReadLines at (body_text locals text o) tokens
  pub tree : Body
  pub levels : ℕ
  pub derived : IsBlock tokens tree levels
  pub same : erase_body tree ≡ erase_body (block_of r (body_parts locals want o))
  pub low : levels ≤ 132 + (h + h + h)
