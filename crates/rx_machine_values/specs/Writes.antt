-- What a write to memory does.
use Rattle.std.specs.Prelude.{◌≡◌, ℕ, Bool, true, false, List, take, slice_get, Option, Some, None}
use Rattle.rx_core.specs.declared.types.Step.{Step}
use Rattle.rx_meaning.specs.Values.{Value, and_then, part, with_part, get}
use Rattle.rx_meaning.specs.Places.{in_slot, after_write}

-- where the path leads somewhere the value is written there, else nothing changes
abbrev pub Wrote : List Value → ℕ → List Step → Value → List Value → Bool → Type 0
Wrote M i p w N true = after_write w M (in_slot i p true) ≡ Some N
Wrote M i p w N false = (after_write w M (in_slot i p true) ≡ None) × (N ≡ M)

-- a value with another in the place of a part that it has
abbrev pub with_this : Value → Step → Value → Option Value
with_this v s w = and_then (part v s) (λ u. with_part v s w)

-- what stands before the step at a number of a path, with another value behind that step
abbrev pub with_step : Value → List Step → Step → Value → Option Value
with_step v p s w = and_then (get p v) (λ u. with_this u s w)

abbrev pub changed_at : Value → List Step → ℕ → Value → Option Value
changed_at v p i w = and_then (slice_get p i) (λ s. with_step v (take i p) s w)
