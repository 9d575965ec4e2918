-- A literal that is given its kind as suffix: what it asks, in the text and in the answer.
use Rattle.std.specs.Prelude.{◌≡◌, ℕ, Bool, true, false, List, [], ◌∷◌}
use Rattle.rx_core.specs.declared.types.Kind.{Kind}
use Rattle.rx_core.specs.declared.types.Span.{Span}
use Rattle.rx_typed.specs.Types.{integer}
use Rattle.rx_typeck_solver.specs.declared.facts.Rule.{Rule}
use Rattle.rx_typeck_solver.specs.declared.facts.Broken.TheVariants as broken
use Rattle.rx_typeck_solver.specs.declared.facts.Kinds.{Kinds}
use Rattle.rx_typeck_solver.specs.declared.facts.Subject.TheVariants as subject
use Rattle.rx_typeck_solver.specs.declared.facts.Fact.TheVariants as fact
use Rattle.rx_typeck_solver.specs.declared.facts.Demand.{Demand}
use Rattle.rx_typeck_solver.specs.Facts.{Assignment}
use Rattle.rx_typeck_typed.specs.Asking.{all, just}
use Rattle.rx_engine_blocks.specs.Renumbering.{Renumbering}

-- what a literal asks of its kind: those that its suffix lets it have
abbrev pub of_suffix : ℕ → Span → Kinds → List Demand
of_suffix n s u = record { node = n; span = s; broken = broken.Mismatch Rule.Equal; unsuffixed = false; facts = fact.Integer n u ∷ [] } ∷ []

-- and behind what its place asks: those that hold it; whether it has no suffix
abbrev pub of_range : ℕ → Span → Kinds → Bool → List Demand
of_range n s v o = record { node = n; span = s; broken = broken.Literal; unsuffixed = o; facts = fact.Integer n v ∷ [] } ∷ []

pub data PinnedDemands (r : Renumbering) (A : Assignment) : List Demand → List Demand → Type 0 where
  -- the kind is any in the text, and that of the text in the answer
  suffixed : (n : ℕ) {s s' : Span} {l : Kind} → A (subject.Node n) ≡ integer l → PinnedDemands r A (of_suffix n s all) (of_suffix (r.nodes n) s' (just l))
  -- it holds the literal in both
  in_range : (n : ℕ) {s s' : Span} {v : Kinds} → PinnedDemands r A (of_range n s v true) (of_range (r.nodes n) s' v false)
