-- What corresponds in front of a call: nodes that were made side by side there do by these numbers.
use Rattle.std.specs.Prelude.{◌≡◌, ◌<◌, ℕ, List}
use Rattle.rx_typed.specs.Naming.{Cursor}
use Rattle.rx_engine_changed.specs.Beside.{paired, IsPiece, Numbers, Piece}

abbrev pub InFront : Numbers → List Piece → Cursor → Type 0
InFront N made c = (n m : ℕ) → IsPiece (paired n m) made → (N.by.nodes n ≡ m) × (m < c.number)
