-- The edits that stand in a part of a text, and whether the text may be cut there (Rust Reference, "Input format": a text is UTF-8, and is
-- cut where characters begin).
use Rattle.std.specs.Prelude.{ℕ, ◌-◌, ◌≤◌, Bool, nat_le, ◌&&◌, if◌then◌else◌, List, [], ◌∷◌, ◌++◌, take, drop, IsCharBoundary}
use Rattle.rx_core.specs.declared.types.Span.{Span}
use Rattle.rx_core.specs.declared.types.Edit.{Edit}
use Rattle.rx_splice.specs.Edits.{InOrder, OnBoundaries}

-- those of the edits that stand between two places
abbrev pub stands : ℕ → ℕ → Edit → Bool
stands from to e = nat_le from e.span.start && nat_le e.span.end to

abbrev pub within : ℕ → ℕ → List Edit → List Edit
within from to [] = []
within from to (e ∷ es) = if stands from to e then e ∷ within from to es else within from to es

-- they are in order in a part of a text, which may be cut where they stand, and at its ends
pub record AreWithin (bytes : List ℕ) (from to : ℕ) (es : List Edit) : Type 0 where
  pub in_order : InOrder from es to
  pub on_boundaries : OnBoundaries bytes es
  pub begins : IsCharBoundary bytes from
  pub ends : IsCharBoundary bytes to

-- a span begins at a place or later, and the text may be cut at both its ends
pub record IsCut (bytes : List ℕ) (at : ℕ) (s : Span) : Type 0 where
  pub low : at ≤ s.start
  pub up : s.start ≤ s.end
  pub starts : IsCharBoundary bytes s.start
  pub ends : IsCharBoundary bytes s.end

-- what is written of a text from a place to an edit, with the edit, and the place behind it; nothing, where the edit stands elsewhere
abbrev pub up_to : List ℕ → ℕ → Edit → List ℕ
up_to bytes at e = take (e.span.start - at) (drop at bytes) ++ e.text

abbrev pub done_of : Bool → List ℕ → ℕ → Edit → List ℕ
done_of here bytes at e = if here then up_to bytes at e else []

abbrev pub done_at : Bool → ℕ → Edit → ℕ
done_at here at e = if here then e.span.end else at
