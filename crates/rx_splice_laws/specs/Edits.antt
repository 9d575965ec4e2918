-- Edits whose texts are written in pieces: words, blanks and comments. They stand in the order of the text.
use Rattle.std.specs.Prelude.{ℕ, ◌≤◌, List, [], ◌∷◌, map}
use Rattle.rx_core.specs.declared.types.Span.{Span}
use Rattle.rx_core.specs.declared.types.Edit as text
use Rattle.rx_print_spelling.specs.Pieces.{Piece, flat}
use Rattle.rx_splice.specs.Edits as whole

pub record Edit : Type 0 where
  pub from : ℕ
  pub to : ℕ
  pub by : List Piece

-- in place of what stands there
abbrev pub replaced : Span → List Piece → Edit
replaced s ps = record { from = s.start; to = s.end; by = ps }

-- between two bytes
abbrev pub put : ℕ → List Piece → Edit
put at ps = record { from = at; to = at; by = ps }

-- its text
abbrev pub written : Edit → text.Edit
written e = record { span = record { start = e.from; end = e.to }; text = flat e.by }

-- a part of a text, whose first byte stands at a place, with edits
abbrev pub spliced : ℕ → List ℕ → List Edit → List ℕ
spliced at t es = whole.spliced at t (map written es)

-- the edits stand in order, from a place to a place
pub data Ordered : ℕ → List Edit → ℕ → Type 0 where
  no_edit : {from to : ℕ} → from ≤ to → Ordered from [] to
  edit_and : {from to : ℕ} {e : Edit} {es : List Edit} → from ≤ e.from → e.from ≤ e.to → Ordered e.to es to → Ordered from (e ∷ es) to
