-- What is known of the variables and loops of two functions that are numbered side by side, where both have come to (Rust Reference, "Type
-- inference", "let statements", "Loop expressions"): variables that correspond are known alike, others of the second
-- don't wait for their types, and the same loops are left.
use Rattle.std.specs.Prelude.{◌≡◌, ℕ, Bool, true, false, List, length, Option, Some, None, slice_get}
use Rattle.rx_core.specs.declared.types.Span.{Span}
use Rattle.rx_typed.specs.declared.nodes.Stage.{Stage}
use Rattle.rx_typed.specs.declared.nodes.Declaration.{Declaration}
use Rattle.rx_typed.specs.Naming.{Cursor}
use Rattle.rx_engine_names.specs.Renaming.{Renaming}
use Rattle.rx_engine_changed.specs.Beside.{IsPiece, Piece, paired}

-- whether each of two variables that correspond may be mutable
abbrev pub Mutability : Type 1
Mutability = ℕ → ℕ → Bool → Bool → Type 0

abbrev pub as_declared : Bool → Stage → Option Declaration
as_declared m s = Some (record { mutable = m; stage = s })

-- of nodes that correspond so far
pub data LikeDeclared (made : List Piece) (W : Bool → Bool → Type 0) : Option Declaration → Option Declaration → Type 0 where
  not_yet : LikeDeclared made W None None
  known : {m m' : Bool} → W m m' → LikeDeclared made W (as_declared m Stage.Known) (as_declared m' Stage.Known)
  given : {m m' : Bool} → W m m' → LikeDeclared made W (as_declared m Stage.Given) (as_declared m' Stage.Given)
  waits : {m m' : Bool} {p p' : ℕ} {s s' : Span} → W m m' → IsPiece (paired p p') made → LikeDeclared made W (as_declared m (Stage.Waits p s)) (as_declared m' (Stage.Waits p' s'))

abbrev pub is_waiting : Stage → Bool
is_waiting (Stage.Waits p s) = true
is_waiting _ = false

abbrev pub waits_there : Option Declaration → Bool
waits_there None = false
waits_there (Some d) = is_waiting d.stage

pub record Alike (R : Renaming) (W : Mutability) (made : List Piece) (vs : List Declaration) (ls : List Bool) (d : ℕ) (vs' : List Declaration) (ls' : List Bool) (d' : ℕ) : Type 0 where
  pub variables : (n m : ℕ) → R.variable n m ≡ true → LikeDeclared made (W n m) (slice_get vs n) (slice_get vs' m)
  -- a variable of the second to which none corresponds doesn't wait for its type
  pub alone : (m : ℕ) → ((n : ℕ) → R.variable n m ≡ true → ⊥) → waits_there (slice_get vs' m) ≡ false
  pub loops : (n m : ℕ) → R.loop n m ≡ true → slice_get ls n ≡ slice_get ls' m
  -- so many were declared
  pub counted : length vs ≡ d
  pub counted' : length vs' ≡ d'

abbrev pub InStep : Renaming → Mutability → List Piece → Cursor → Cursor → Type 0
InStep R W made c c' = Alike R W made c.variables c.loops c.declared c'.variables c'.loops c'.declared
