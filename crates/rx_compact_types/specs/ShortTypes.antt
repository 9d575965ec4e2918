-- What a program declares in which one function has a short signature: the same, but for the function's lifetimes (Rust Reference,
-- "Lifetime elision in functions").
use Rattle.std.specs.Prelude.{◌≡◌, ℕ, List, Some, slice_get}
use Rattle.rx_core.specs.declared.types.Bound.{Bound}
use Rattle.rx_core.specs.declared.types.Ty.{Ty}
use Rattle.rx_tree.specs.Plain.{ProgramTree}
use Rattle.rx_resolve_names.specs.declared.resolved.ItemNames.{ItemNames}
use Rattle.rx_typed.specs.declared.declarations.Decl.{Decl}
use Rattle.rx_typed.specs.declared.declarations.Decl.TheVariants as decl
use Rattle.rx_typed.specs.PlainTypes.{declarations}
use Rattle.rx_typeck_typed.specs.Programs.{Declares}
use Rattle.rx_compact_laws.specs.MergedSignatures.{IsUnder}
use Rattle.rx_compact_types.specs.KnownNumbers.{AreKnownNumbers}

-- the second program declares what the first does, and the function of item i by other numbers, which are one only where it is known
pub record DeclaresAlike (q : ProgramTree) (i : ℕ) (news : List ItemNames) (old : List Decl) : Type 0 where
  pub new : List Decl
  pub declares : Declares q news new
  pub same : declarations new ≡ declarations old
  pub others : (k : ℕ) → (k ≡ i → ⊥) → slice_get new k ≡ slice_get old k
  pub function : (n : ℕ) (ps : List Ty) (t : Ty) (bs : List Bound) → slice_get old i ≡ Some (decl.Func n ps t bs)
      → (f : ℕ → ℕ) × IsUnder f (slice_get old i) (slice_get new i) × AreKnownNumbers old (slice_get old i) (slice_get new i) f
