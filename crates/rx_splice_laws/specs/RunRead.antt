-- The tokens of a run's text with its edits (Rust Reference, "Tokens", "Whitespace", "Comments"): each word ends before what follows it.
use Rattle.std.specs.Prelude.{◌≡◌, ℕ, ◌+◌, Bool, true, List, [], ◌∷◌, ◌++◌, length}
use Rattle.rx_core.specs.declared.types.Span.{Span}
use Rattle.rx_tree.specs.Plain.{OptionalExpression, Body, Statement, ProgramTree}
use Rattle.rx_lex.specs.Tok.{Tok}
use Rattle.rx_lex.specs.Tokens.{Tokens, is_blank, at_line_end}
use Rattle.rx_parse_grammar.specs.grammar.Words.{span_of}
use Rattle.rx_parse_laws.specs.Words.{words}
use Rattle.rx_resolve_names.specs.Meant.{Around}
use Rattle.rx_hoist_extraction.specs.Plan.{Plan}
use Rattle.rx_splice_laws.specs.Edits.{spliced}
use Rattle.rx_splice_laws.specs.Indent.{reindented}
use Rattle.rx_splice_laws.specs.MovedBy.{moved_by}
use Rattle.rx_splice_laws.specs.PinnedBody.{edits_of_pins, PinnedBody}
use Rattle.rx_splice_laws.specs.SplicedRun.{edits_of_run, between, MovedRun}

-- nothing is there, or a blank is first
abbrev pub begins_blank : List ℕ → Bool
begins_blank [] = true
begins_blank (c ∷ cs) = is_blank c

-- the tokens are those of the text, at a place, before what begins with a blank
pub record ReadBefore (at : ℕ) (text : List ℕ) (ts : List Tok) : Type 0 where
  pub read : (rest : List ℕ) (more : List Tok) → begins_blank rest ≡ true → Tokens (at + length text) rest more → Tokens at (text ++ rest) (ts ++ more)

-- at a place, the text has tokens with the words of these
pub record ReadAs (at : ℕ) (text : List ℕ) (ts : List Tok) : Type 0 where
  pub tokens : List Tok
  pub read : Tokens at text tokens
  pub same : words tokens ≡ words ts

-- the bytes of a run with its edits
abbrev pub run_bytes : ProgramTree → Plan → Span → List ℕ → List Tok → List Tok → List Around → List Statement → OptionalExpression → List ℕ
run_bytes P pl r text all ts ls ss y = spliced (span_of ts).start (between (span_of ts).start (span_of ts).end text) (edits_of_run (moved_by P pl r) all ls ss y)

-- and their tokens, where they stand at a place
pub record ReadRun (P : ProgramTree) (pl : Plan) (r : Span) (text : List ℕ) (all ts : List Tok) (ls : List Around) (ss : List Statement) (y : OptionalExpression) (h at : ℕ) : Type 0 where
  pub tokens : List Tok
  pub read : ReadBefore at (run_bytes P pl r text all ts ls ss y) tokens
  pub becomes : MovedRun P pl r ls ss y h tokens

-- the bytes of a body with its kinds and types written out
abbrev pub body_bytes : ProgramTree → Plan → Span → List ℕ → List Tok → List Tok → Body → List ℕ
body_bytes P pl r text all ts b = spliced (span_of ts).start (between (span_of ts).start (span_of ts).end text) (edits_of_pins P pl r all b)

pub record ReadBody (P : ProgramTree) (pl : Plan) (r : Span) (text : List ℕ) (all ts : List Tok) (b : Body) (h at : ℕ) : Type 0 where
  pub tokens : List Tok
  pub read : ReadBefore at (body_bytes P pl r text all ts b) tokens
  pub becomes : PinnedBody P pl r b h tokens

-- the tokens are those of the text, at a place, before the end of a line
pub record ReadLines (at : ℕ) (text : List ℕ) (ts : List Tok) : Type 0 where
  pub read : (rest : List ℕ) (more : List Tok) → at_line_end rest ≡ true → Tokens (at + length text) rest more → Tokens at (text ++ rest) (ts ++ more)

-- the bytes of a run with its edits, on lines that begin otherwise, and their tokens
pub record ReadRunLines (P : ProgramTree) (pl : Plan) (r : Span) (text : List ℕ) (all ts : List Tok) (ls : List Around) (ss : List Statement) (y : OptionalExpression) (h at : ℕ) (indent : List ℕ) : Type 0 where
  pub tokens : List Tok
  pub read : ReadLines at (reindented indent (run_bytes P pl r text all ts ls ss y)) tokens
  pub becomes : MovedRun P pl r ls ss y h tokens
