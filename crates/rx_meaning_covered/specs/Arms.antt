-- The tests and the bindings of an arm: each test leads to what it tests where those in front of it hold, and so do the bindings where
-- all hold (Rust Reference, "Match expressions"; "Patterns").
use Rattle.std.specs.Prelude.{◌≡◌, ℕ, true, ◌⊎◌, List, [], ◌∷◌}
use Rattle.rx_typed.specs.Tree.{variable, own, Pattern, Arms, no_arm, arm_and}
use Rattle.rx_lower_walks.specs.Matching.{PartTest, Binding}
use Rattle.rx_lower_walks.specs.Actions.{Act, Declare, Read, Write, Borrow, Subject, in_place, in_temporary, part, test_of}
use Rattle.rx_meaning.specs.Values.{Value, truth, State}
use Rattle.rx_meaning.specs.Results.{gives}
use Rattle.rx_meaning.specs.Acting.{Acting}
use Rattle.rx_meaning_covered.specs.Ways.{Leads}

-- a test holds, in this state
abbrev pub Holds : {E : Type 0} → Acting E → Subject → List Value → State → PartTest → Type 0
Holds {E = E} A S vs s t = (u : List E) × (A.perform (test_of S t) vs s ≡ gives u (truth true) s)

-- each test, and what is so behind all
abbrev pub InTurn : {E : Type 0} → Acting E → Subject → List Value → State → List PartTest → Type 0 → Type 0
InTurn A S vs s [] Q = Q
InTurn A S vs s (t ∷ ts) Q = Leads (part S t.steps) vs s × (Holds A S vs s t → InTurn A S vs s ts Q)

-- the variable is not the one that is matched
abbrev pub IsOther : Subject → ℕ → Type 0
IsOther (in_place p) x = p.root ≡ variable x → ⊥
IsOther (in_temporary t) x = Unit {0}

abbrev pub AllOther : Subject → List Binding → Type 0
AllOther S [] = Unit {0}
AllOther S (b ∷ bs) = IsOther S b.variable × AllOther S bs

abbrev pub AllLead : Subject → List Value → State → List Binding → Type 0
AllLead S vs s [] = Unit {0}
AllLead S vs s (b ∷ bs) = (Leads (part S b.steps) vs s × IsOther S b.variable) × AllLead S vs s bs

-- an action of a binding, which leaves what is matched as it is, but for what it moves
abbrev pub IsOfBinding : Subject → Act → Type 0
IsOfBinding S (Read m p d) = Unit {0}
IsOfBinding S (Borrow k p d) = Unit {0}
IsOfBinding S (Declare x) = IsOther S x
IsOfBinding S (Write p t ss) = (x : ℕ) × (p ≡ own x) × IsOther S x
IsOfBinding S _ = ⊥

abbrev pub HasArm : Pattern → Arms → Type 0
HasArm p no_arm = ⊥
HasArm p (arm_and q e l) = (p ≡ q) ⊎ HasArm p l
