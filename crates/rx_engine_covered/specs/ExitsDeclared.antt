-- The enum of exits, as the program with the new items declares it (REM, "Extract function", control flow; Rust Reference, "Enumerations"): each of its variants is
-- that of an exit, and there are few.
use Rattle.std.specs.Prelude.{◌≡◌, ◌<◌, ◌⊎◌, ℕ, false, List, [], ◌∷◌, length, slice_get}
use Rattle.rx_typed.specs.Types.{variants_declared, Declarations}
use Rattle.rx_hoist_extraction.specs.Plan.{Leaving}
use Rattle.rx_cover.specs.Values.{is_struct}
use Rattle.rx_cover.specs.Width.{limit}
use Rattle.rx_engine_names.specs.HandedOut.{Handing}

-- the variant with this number is that of one of these
abbrev pub IsOfExit : Handing → ℕ → List Leaving → Type 0
IsOfExit G v [] = ⊥
IsOfExit G v (x ∷ xs) = (G.variant x.exit ≡ v) ⊎ IsOfExit G v xs

pub record ExitsDeclared (D : Declarations) (G : Handing) : Type 0 where
  pub enum : is_struct (slice_get D G.enum) ≡ false
  pub each : (v : ℕ) → v < length (variants_declared (slice_get D G.enum)) → IsOfExit G v G.call.plan.exits
  pub few : length G.call.plan.exits < limit
