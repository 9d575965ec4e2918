-- The text of a function's body with its kinds and types written out: pieces, of which the words are derived as the body with what the
-- plan pins (Rust Reference, "Integer literal expressions", "let statements").
use Rattle.std.specs.Prelude.{◌≡◌, ℕ, ◌+◌, ◌≤◌, List, [], map}
use Rattle.rx_core.specs.declared.types.Span.{Span}
use Rattle.rx_tree.specs.Plain.{Body, ProgramTree}
use Rattle.rx_tree.specs.Erase.{erase_body}
use Rattle.rx_lex.specs.Tok.{Tok}
use Rattle.rx_parse_grammar.specs.grammar.Words.{span_of}
use Rattle.rx_parse_grammar.specs.grammar.Expressions.{IsBlock}
use Rattle.rx_parse_laws.specs.Words.{words}
use Rattle.rx_print_spelling.specs.Pieces.{Piece, flat}
use Rattle.rx_hoist_extraction.specs.Plan.{Plan}
use Rattle.rx_hoist_extraction.specs.Pinned.{pinned}
use Rattle.rx_splice.specs.Edits.{AreEdits}
use Rattle.rx_splice_laws.specs.Edits.{Edit, written, spliced}
use Rattle.rx_splice_laws.specs.EditsOf.{body_edits}
use Rattle.rx_splice_laws.specs.Moving.{pin_edits}
use Rattle.rx_splice_laws.specs.MovedBy.{moved_by}
use Rattle.rx_splice_laws.specs.SplicedRun.{piece_words, between}

abbrev pub edits_of_pins : ProgramTree → Plan → Span → List Tok → Body → List Edit
edits_of_pins P pl r all b = body_edits (pin_edits (moved_by P pl r) all) [] [] b

-- tokens are derived as what becomes of a body with so many levels
pub record PinnedBody (P : ProgramTree) (pl : Plan) (r : Span) (b : Body) (h : ℕ) (us : List Tok) : Type 0 where
  pub body : Body
  pub levels : ℕ
  pub derived : IsBlock us body levels
  pub same : erase_body body ≡ erase_body (pinned P r pl.pins b)
  pub low : levels ≤ 130 + (h + h + h)

-- `ts` are the body's tokens among all of the text
pub record SplicedBody (P : ProgramTree) (pl : Plan) (r : Span) (text : List ℕ) (all ts : List Tok) (b : Body) (h : ℕ) : Type 0 where
  pub pieces : List Piece
  pub is_text : flat pieces ≡ spliced (span_of ts).start (between (span_of ts).start (span_of ts).end text) (edits_of_pins P pl r all b)
  -- `splice` can make these edits of the text
  pub can_be_made : AreEdits text (map written (edits_of_pins P pl r all b))
  -- tokens that have these words, wherever they stand
  pub read : (us : List Tok) → words us ≡ piece_words pieces → PinnedBody P pl r b h us
