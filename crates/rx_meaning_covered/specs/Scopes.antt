-- Typed trees in which names mean something: each variable is in scope, each jump is in its loop; and bodies that give a value (Rust
-- Reference, "Scopes"; "Loop expressions"; "return expressions").
use Rattle.std.specs.Prelude.{◌≡◌, ℕ, List, [], ◌∷◌, ◌++◌, map}
use Rattle.rx_typed.specs.Tree.{variable, Place, Pattern, Exp, read, borrow, share, build, unit, lazily, assign, update, call, input, print, block, choose, loop, jump, give, Operands, no_operand, operand_and, Scrutinee, at_place, of_value, Arms, no_arm, arm_and, Body, ends, runs, lets, Parameter, Function}
use Rattle.rx_typed.specs.Tree as tree
use Rattle.rx_lower_walks.specs.Matching.{Binding, bindings}
use Rattle.rx_lower_walks.specs.Walks.{Among}

-- the variable of a place is among these
abbrev pub PlaceIn : List ℕ → Place → Type 0
PlaceIn xs p = (x : ℕ) → p.root ≡ variable x → Among x xs

abbrev pub variables_of : List Binding → List ℕ
variables_of bs = map (λ b. b.variable) bs

-- with these variables in scope, and these loops round it
abbrev mutual
  pub Scoped : List ℕ → List ℕ → Exp → Type 0
  Scoped xs ls (read m v p) = PlaceIn xs p
  Scoped xs ls (borrow m k p) = PlaceIn xs p
  Scoped xs ls (share m e) = Scoped xs ls e
  Scoped xs ls (build m w es) = ScopedAll xs ls es
  Scoped xs ls (unit m) = Unit {0}
  Scoped xs ls (lazily m b e f) = Scoped xs ls e × Scoped xs ls f
  Scoped xs ls (assign m p e) = PlaceIn xs p × Scoped xs ls e
  Scoped xs ls (update m o p e) = PlaceIn xs p × Scoped xs ls e
  Scoped xs ls (call m f es) = ScopedAll xs ls es
  Scoped xs ls (input m) = Unit {0}
  Scoped xs ls (print m e) = Scoped xs ls e
  Scoped xs ls (block m b) = ScopedBody xs ls b
  Scoped xs ls (choose m c l) = ScopedScrutinee xs ls c × ScopedArms xs ls l
  Scoped xs ls (loop m l e) = Scoped xs (l ∷ ls) e
  Scoped xs ls (jump m l k) = Among l ls
  Scoped xs ls (give m e) = Scoped xs ls e

  pub ScopedAll : List ℕ → List ℕ → Operands → Type 0
  ScopedAll xs ls no_operand = Unit {0}
  ScopedAll xs ls (operand_and i e es) = Scoped xs ls e × ScopedAll xs ls es

  pub ScopedScrutinee : List ℕ → List ℕ → Scrutinee → Type 0
  ScopedScrutinee xs ls (at_place m p) = PlaceIn xs p
  ScopedScrutinee xs ls (of_value e) = Scoped xs ls e

  -- what a pattern binds is in scope in its arm
  pub ScopedArms : List ℕ → List ℕ → Arms → Type 0
  ScopedArms xs ls no_arm = Unit {0}
  ScopedArms xs ls (arm_and p e rest) = Scoped (variables_of (bindings [] p) ++ xs) ls e × ScopedArms xs ls rest

  -- and in the rest of the block
  pub ScopedBody : List ℕ → List ℕ → Body → Type 0
  ScopedBody xs ls (ends e) = Scoped xs ls e
  ScopedBody xs ls (runs e rest) = Scoped xs ls e × ScopedBody xs ls rest
  ScopedBody xs ls (tree.declares i ys rest) = ScopedBody (ys ++ xs) ls rest
  ScopedBody xs ls (lets i p c rest) = ScopedScrutinee xs ls c × ScopedBody (variables_of (bindings [] p) ++ xs) ls rest

abbrev pub ScopedFunction : Function → Type 0
ScopedFunction F = Scoped (map (λ p. p.variable) F.params) [] F.body

-- ---- a body that ends by giving

abbrev pub IsGiving : Exp → Type 0
IsGiving (give m e) = Unit {0}
IsGiving _ = ⊥

abbrev pub BodyGives : Body → Type 0
BodyGives (ends e) = IsGiving e
BodyGives (runs e rest) = BodyGives rest
BodyGives (tree.declares i xs rest) = BodyGives rest
BodyGives (lets i p c rest) = BodyGives rest

abbrev pub Gives : Exp → Type 0
Gives (block m b) = BodyGives b
Gives _ = ⊥
