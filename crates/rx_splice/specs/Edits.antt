-- A text with edits: each edit's text stands in place of its span, and all other bytes stay (Rust Reference, "Input format": a text
-- is UTF-8). The edits are sorted, do not overlap, and begin and end where characters do.
use Rattle.std.specs.Prelude.{ℕ, ◌-◌, ◌≤◌, List, [], ◌∷◌, ◌++◌, length, take, drop, IsCharBoundary}
use Rattle.rx_core.specs.declared.types.Edit.{Edit}

-- the first byte of t stands at a place of the text
abbrev pub spliced : ℕ → List ℕ → List Edit → List ℕ
spliced at t [] = t
spliced at t (e ∷ es) =
    take (e.span.start - at) t ++ (e.text ++ spliced e.span.end (drop (e.span.end - at) t) es)

-- the edits stand in order and apart, from a place to a place
abbrev pub InOrder : ℕ → List Edit → ℕ → Type 0
InOrder from [] to = from ≤ to
InOrder from (e ∷ es) to = (from ≤ e.span.start) × (e.span.start ≤ e.span.end) × InOrder e.span.end es to

abbrev pub OnBoundaries : List ℕ → List Edit → Type 0
OnBoundaries text [] = Unit {0}
OnBoundaries text (e ∷ es) =
    IsCharBoundary text e.span.start × IsCharBoundary text e.span.end × OnBoundaries text es

-- edits of a whole text
pub record AreEdits (text : List ℕ) (es : List Edit) : Type 0 where
  pub in_order : InOrder 0 es (length text)
  pub on_boundaries : OnBoundaries text es
