-- Entries of types of what a part of a text makes: their subjects are nodes and variables between two spots, and each has one entry. And what is asked of a
-- numbering where such a part is new: no node of it comes from the text, and a variable that does has its type there.
use Rattle.std.specs.Prelude.{◌≡◌, ◌≤◌, ◌<◌, ◌⊎◌, ℕ, [], ◌∷◌, Some, None}
use Rattle.rx_typed.specs.Types.{Typ}
use Rattle.rx_typeck_solver.specs.declared.facts.Subject.{Subject}
use Rattle.rx_typeck_solver.specs.declared.facts.Subject.TheVariants as subject
use Rattle.rx_typeck_solver.specs.Facts.{Assignment}
use Rattle.rx_engine_blocks.specs.Renumbering.{Renumbering}
use Rattle.rx_engine_blocks.specs.Along.{PartialInverse}
use Rattle.rx_engine_holes.specs.Entries.{of_text, Entries, Without}
use Rattle.rx_engine_changed.specs.Spots.{Spot}

-- the second comes later, or is the first
pub record Reaches (p q : Spot) : Type 0 where
  pub nodes : p.number ≤ q.number
  pub variables : p.declared ≤ q.declared

abbrev pub Between : Spot → Spot → Subject → Type 0
Between p q (subject.Variable x) = (p.declared ≤ x) × (x < q.declared)
Between p q (subject.Node n) = (p.number ≤ n) × (n < q.number)
Between p q (subject.Expected n) = (p.number ≤ n) × (n < q.number)

abbrev pub Inside : Spot → Spot → Entries → Type 0
Inside p q [] = Unit {0}
Inside p q (e ∷ es) = Between p q e.0 × Without e.0 es × Inside p q es

-- no node between comes from the text
abbrev pub NewNodes : (q : Renumbering) → PartialInverse q → Spot → Spot → Type 0
NewNodes q w a b = (n : ℕ) → a.number ≤ n → n < b.number → w.node n ≡ None

-- a variable is new, or comes from the text with this type
abbrev pub StandsThere : (q : Renumbering) → PartialInverse q → Assignment → Subject → Typ → Type 0
StandsThere q w A (subject.Variable x) t = (w.variable x ≡ None) ⊎ (of_text q w A (subject.Variable x) ≡ Some t)
StandsThere q w A _ t = Unit {0}

abbrev pub VariablesStand : (q : Renumbering) → PartialInverse q → Assignment → Entries → Type 0
VariablesStand q w A [] = Unit {0}
VariablesStand q w A (e ∷ es) = StandsThere q w A e.0 e.1 × VariablesStand q w A es
