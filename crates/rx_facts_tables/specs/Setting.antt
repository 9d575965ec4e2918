-- Which parts of variables are set, on a list of actions. (Rust Reference, "Variables"; "Moved and copied types".)
use Rattle.std.specs.Prelude.{◌≡◌, ℕ, Bool, true, false, not, ◌&&◌, List, [], ◌∷◌, Option, Some, None}
use Rattle.rx_core.specs.declared.types.Step.{Step}
use Rattle.rx_core.specs.declared.types.Step.TheVariants as step
use Rattle.rx_typed.specs.Tree.{Place, own}
use Rattle.rx_lower_walks.specs.Actions.{Act, Declare, Dead, Read, Write, Borrow, Test, Action}
use Rattle.rx_facts_tables.specs.Along.{Switch, after}
use Rattle.rx_facts_tables.specs.Places.{Frame, is_part}

-- whether a place is behind a dereference
abbrev pub is_behind : List Step → Bool
is_behind [] = false
is_behind (step.Field i ∷ ss) = is_behind ss
is_behind (step.Variant v ∷ ss) = is_behind ss
is_behind (step.Deref m ∷ ss) = true

-- a write of a place sets its parts; one through a dereference sets nothing of a variable
abbrev pub sets : Frame → ℕ → Act → Bool
sets F n (Write p t ss) = not (is_behind p.steps) && is_part F p n
sets F n _ = false

-- a variable's begin and end unset all of it, a move what it moves
abbrev pub unsets : Frame → ℕ → Act → Bool
unsets F n (Declare x) = is_part F (own x) n
unsets F n (Dead x) = is_part F (own x) n
unsets F n (Read true p d) = is_part F p n
unsets F n _ = false

abbrev pub setting : Frame → ℕ → Switch
setting F n = record { gives = λ a. sets F n a.act; kills = λ a. unsets F n a.act }

-- at first nothing is set
abbrev pub is_set : Frame → List Action → ℕ → Bool
is_set F w n = after (setting F n) w false

abbrev pub AllSet : Frame → List Action → Place → Type 0
AllSet F w p = (n : ℕ) → is_part F p n ≡ true → is_set F w n ≡ true

abbrev pub SomeSet : Frame → List Action → Place → Type 0
SomeSet F w p = (n : ℕ) × (is_part F p n ≡ true) × (is_set F w n ≡ true)

abbrev pub SomeUnset : Frame → List Action → Place → Type 0
SomeUnset F w p = (n : ℕ) × (is_part F p n ≡ true) × (is_set F w n ≡ false)

-- the place that an action reads, borrows or tests; a test of a tag is one of the whole enum
abbrev pub looked_at : Act → Option Place
looked_at (Read m p d) = Some p
looked_at (Borrow k p d) = Some p
looked_at (Test p c) = Some p
looked_at _ = None
