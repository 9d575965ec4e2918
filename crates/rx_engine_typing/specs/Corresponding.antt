-- What two functions that are one by other numbers are told for their typed trees (Rust Reference, "Types", "Coercions"): what is declared,
-- and the types of nodes and of what their places expect, correspond; different numbers stay different.
use Rattle.std.specs.Prelude.{◌≡◌, ℕ, Some, option_map, slice_get}
use Rattle.rx_typed.specs.Types.{FieldDeclared, Declarations, field_number, fields_declared}
use Rattle.rx_typed.specs.Elaborated.{Assigned}
use Rattle.rx_typeck_solver.specs.declared.facts.Subject.TheVariants as subject
use Rattle.rx_typeck_solver.specs.Facts.{Assignment, KnownItems}
use Rattle.rx_engine_blocks.specs.Renumbering.{Renumbering, shape_at, declared_at}

-- an assignment as the typed tree takes it
abbrev pub given_types : KnownItems → Assignment → Assigned
given_types D A = record { items = D.items; typ = λ n. A (subject.Node n); expected = λ n. A (subject.Expected n) }

pub record Corresponding (r : Renumbering) (T T' : Assigned) : Type 0 where
  pub items : (i : ℕ) → slice_get T'.items (r.items i) ≡ option_map (declared_at r) (slice_get T.items i)
  pub typ : (n : ℕ) → T'.typ (r.nodes n) ≡ shape_at r (T.typ n)
  pub expected : (n : ℕ) → T'.expected (r.nodes n) ≡ shape_at r (T.expected n)

abbrev pub StayApart : (ℕ → ℕ) → Type 0
StayApart f = (m n : ℕ) → f m ≡ f n → m ≡ n

-- each declared field is found by its name
abbrev pub FieldsApart : Declarations → Type 0
FieldsApart D = (i k : ℕ) (f : FieldDeclared) → slice_get (fields_declared (slice_get D i)) k ≡ Some f → field_number (fields_declared (slice_get D i)) f.name ≡ k
