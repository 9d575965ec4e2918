-- What two typed programs declare, of which the second has a short signature of the function of one item, with the polarities of lifetimes
-- recorded (Rust Reference, "Lifetime elision in functions").
use Rattle.std.specs.Prelude.{◌≡◌, ℕ, List, option_map, slice_get}
use Rattle.rx_typed.specs.declared.declarations.Decl.{Decl}
use Rattle.rx_typed.specs.PlainTypes.{declarations}
use Rattle.rx_typed.specs.Regions.{regions}
use Rattle.rx_typed_declarations.specs.Variance.{unrecorded, Recorded}
use Rattle.rx_compact_laws.specs.MergedSignatures.{IsUnder}
use Rattle.rx_compact_types.specs.KnownNumbers.{AreKnownNumbers}

-- all but that function is the same, apart from what is recorded
pub record IsShort (i : ℕ) (f : ℕ → ℕ) (D E : List Decl) : Type 0 where
  pub others : (k : ℕ) → (k ≡ i → ⊥) → option_map unrecorded (slice_get E k) ≡ option_map unrecorded (slice_get D k)
  pub under : IsUnder f (slice_get D i) (slice_get E i)

pub record AreShort (i : ℕ) (f : ℕ → ℕ) (D E : List Decl) : Type 0 where
  pub like : IsShort i f D E
  pub numbers : AreKnownNumbers D (slice_get D i) (slice_get E i) f
  pub held : regions E ≡ regions D
  pub plain : declarations E ≡ declarations D
  pub recorded : Recorded D
  pub new_recorded : Recorded E
