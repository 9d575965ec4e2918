-- What stands where the steps of a place lead, told without the way there; and where the meaning's spots lead.
use Rattle.std.specs.Prelude.{◌≡◌, ℕ, List, [], ◌∷◌, Option, Some, None}
use Rattle.rx_core.specs.declared.types.Step.{Step}
use Rattle.rx_meaning.specs.Values.{Value, pointer, and_then, part, get, element}
use Rattle.rx_meaning.specs.Places.{Spot, content, follow}

abbrev pub content_at : List Value → ℕ → List Step → Option Value
content_at M i p = and_then (element M i) (λ v. get p v)

-- what a reference leads to
abbrev pub behind : List Value → Value → Option Value
behind M (pointer i p m) = content_at M i p
behind M _ = None

abbrev pub stepped : List Value → Step → Value → Option Value
stepped M (Step.Deref m) v = behind M v
stepped M s v = part v s

abbrev pub reached : List Value → List Step → Value → Option Value
reached M [] v = Some v
reached M (s ∷ ss) v = and_then (stepped M s v) (λ u. reached M ss u)

-- from each spot where this stands, the steps lead to one where that does
abbrev pub Leads : List Value → List Step → Value → Option Value → Type 0
Leads M ss v o = (at : Spot) → content M at ≡ Some v → o ≡ and_then (follow M ss at) (λ to. content M to)
