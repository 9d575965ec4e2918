-- The limits that structs and enums keep: 4,096 parts, and 128 levels of the type of each field.
use Rattle.std.specs.Prelude.{◌≡◌, ◌≢◌, ℕ, suc, nat_le, Bool, true, false, ◌&&◌, ◌<◌, List, [], ◌∷◌, length, Option}
use Rattle.std.specs.Prelude.{Some, None, Ok, Err, slice_get}
use Rattle.rx_core.specs.declared.types.Span.{Span}
use Rattle.rx_tree.specs.Plain.{ItemTree, ProgramTree}
use Rattle.rx_resolve_names.specs.Holding.{name_span}
use Rattle.rx_graph_cycles.specs.Reaches.{NoCycle, FirstOnCycle}
use Rattle.rx_typed.specs.Types.{Typ, FieldDeclared, VariantDeclared, Declared, struct_declared, enum_declared}
use Rattle.rx_typed.specs.Types.{Declarations, levels}
use Rattle.rx_typed_declarations.specs.Held.{held_by_each}
use Rattle.rx_typed_declarations.specs.Sizes.{Sized}
use Rattle.rx_typeck_solver.specs.declared.facts.Rule.{Rule}
use Rattle.rx_typeck_typed.specs.declared.fault.DeclareFault.TheVariants as fault
use Rattle.rx_typeck_typed.specs.Steps.{Outcome, on_ok}

abbrev pub parts_fit : List Typ → Bool
parts_fit [] = true
parts_fit (t ∷ ts) = nat_le (levels t) 128 && parts_fit ts

abbrev pub fields_fit : List FieldDeclared → Bool
fields_fit [] = true
fields_fit (f ∷ fs) = nat_le (levels f.typ) 128 && fields_fit fs

abbrev pub variants_fit : List VariantDeclared → Bool
variants_fit [] = true
variants_fit (v ∷ vs) = parts_fit v.parts && variants_fit vs

-- the levels of all that an item holds
abbrev pub levels_fit : Declared → Bool
levels_fit (struct_declared c l fs) = fields_fit fs
levels_fit (enum_declared c l vs) = variants_fit vs
levels_fit _ = true

-- an item, which has so many parts
abbrev pub item_fits : ℕ → Option Declared → Bool
item_fits n None = true
item_fits n (Some d) = nat_le n 4096 && levels_fit d

abbrev pub fits_at : Span → Bool → Outcome (Unit {0})
fits_at s true = Ok tt
fits_at s false = Err (fault.Mismatch s Rule.Parts)

-- each item, by the parts of all; the first has number n
abbrev pub all_fit : (ℕ → ℕ) → Declarations → ℕ → ProgramTree → Outcome (Unit {0})
all_fit P D n [] = Ok tt
all_fit P D n (i ∷ is) = on_ok (fits_at (name_span i) (item_fits (P n) (slice_get D n))) (λ _. all_fit P D (suc n) is)

-- the name of an item
abbrev pub place_of : Option ItemTree → Span
place_of None = record { start = 0; end = 0 }
place_of (Some i) = name_span i

-- whether the limits are kept, and what is wrong where they are not: the first struct or enum that reaches itself,
-- since it has no number of parts; where there is none, the first that passes a limit
pub record Limited (p : ProgramTree) (D : Declarations) (o : Outcome (Unit {0})) : Type 0 where
  pub endless : (n : ℕ) → FirstOnCycle (held_by_each D) (Some n) → o ≡ fits_at (place_of (slice_get p n)) false
  pub each : NoCycle (held_by_each D) → (P : ℕ → ℕ) → Sized D P → o ≡ all_fit P D 0 p

-- what a function that asks for the limits ensures: items have numbers of 32 bits too
abbrev pub Limits : ProgramTree → Declarations → Outcome (Unit {0}) → Type 0
Limits p D (Ok u) = (length D < 4294967296) × Limited p D (Ok tt)
Limits p D (Err e) = e ≢ fault.OutOfMemory → Limited p D (Err e)
