-- What private functions tell of one variable.
use Rattle.std.specs.Prelude.{◌≡◌, ◌≢◌, ◌⊎◌, ℕ, true, List, Some}
use Rattle.rx_lower_walks.specs.Walks.{Among}
use Rattle.rx_exits_plan.specs.Points.{Exit, next, enters, leaves}
use Rattle.rx_exits_plan.specs.Asked.{Asked}
use Rattle.rx_exits_plan.specs.Occurrences.{has_number}
use Rattle.rx_exits_plan.specs.Exits.{Jump}
use Rattle.rx_exits_plan.specs.Shadowed.{meant}
use Rattle.rx_exits_plan.specs.declared.plan.ExitOuts.{ExitOuts}
use Rattle.rx_exits_plan.specs.PlainPlan.{plain-Exit, outs_in}
use Rattle.rx_exits.specs.Points as points
use Rattle.rx_exits.specs.Points.{IsPoints, IsReady, MayBeUnset, MayStand}
use Rattle.rx_exits_plan.specs.PlainSyntax.{plain-Jump}
use Rattle.rx_exits.specs.Refusing.{same_name}
use Rattle.rx_exits.specs.declared.refusing.Refusal.{Refusal}
use Rattle.std.specs.Prelude.{map}

-- one of a list
abbrev pub SomeOf : {X : Type 0} → (X → Type 0) → List X → Type 0
SomeOf {X = X} Q l = (a : X) × Among a l × Q a

abbrev pub NoneOf : {X : Type 0} → (X → Type 0) → List X → Type 0
NoneOf {X = X} Q l = (a : X) → Among a l → ¬ (Q a)

abbrev pub OutAt : Asked → ExitOuts → ℕ → Type 0
OutAt A e x = (has_number x e.outs ≡ true) × MayBeUnset A (leaves (plain-Exit e.exit)) x

abbrev pub OutInPart : Asked → List ExitOuts → ℕ → Type 0
OutInPart A es x = SomeOf (λ (e : ExitOuts). OutAt A e x) es

abbrev pub ThereInPart : Asked → List ℕ → ℕ → Type 0
ThereInPart A foreign x = (has_number x foreign ≡ true) × MayBeUnset A enters x × MayStand A x

abbrev pub IsPartly : Asked → List ℕ → List ExitOuts → ℕ → Type 0
IsPartly A foreign es x = ThereInPart A foreign x ⊎ OutInPart A es x

abbrev pub IsMixed : Asked → List ℕ → ℕ → Type 0
IsMixed A foreign x = (has_number x foreign ≡ true) × points.IsMixed A x

abbrev pub ShadowedAt : List (List ℕ) → List ExitOuts → Exit → List ℕ → ℕ → Type 0
ShadowedAt names es e scope x = (has_number x (outs_in es e) ≡ true) × (meant (same_name names) x scope ≢ Some x)

abbrev pub ShadowedAtJump : List (List ℕ) → List ExitOuts → List Jump → ℕ → Type 0
ShadowedAtJump names es js x = SomeOf (λ (j : Jump). ShadowedAt names es j.exit j.scope x) js

abbrev pub IsShadowed : List (List ℕ) → List ExitOuts → List Jump → List ℕ → ℕ → Type 0
IsShadowed names es js end x = ShadowedAt names es next end x ⊎ ShadowedAtJump names es js x

-- ---- refusals

abbrev pub IsReadyFor : Refusal → Type 0
IsReadyFor (Refusal.Mixed p foreign) = IsReady p.now
IsReadyFor (Refusal.Partly p foreign es) = IsReady p.now
IsReadyFor (Refusal.Shadowed names es js end) = Unit {0}

abbrev pub IsOf : Asked → Refusal → Type 0
IsOf A (Refusal.Mixed p foreign) = IsPoints A p.now
IsOf A (Refusal.Partly p foreign es) = IsPoints A p.now
IsOf A (Refusal.Shadowed names es js end) = Unit {0}

abbrev pub Refused : Asked → Refusal → ℕ → Type 0
Refused A (Refusal.Mixed p foreign) x = IsMixed A foreign.now x
Refused A (Refusal.Partly p foreign es) x = IsPartly A foreign.now es.now x
Refused A (Refusal.Shadowed names es js end) x = IsShadowed names.now es.now (map plain-Jump js.now) end.now x

abbrev pub NoneRefused : Asked → Refusal → List ℕ → Type 0
NoneRefused A r l = (x : ℕ) → Among x l → ¬ (Refused A r x)
