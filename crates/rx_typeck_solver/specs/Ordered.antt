-- Demands in an order that the solver can follow: what a fact reads was told before it.
use Rattle.std.specs.Prelude.{◌≡◌, ◌⊎◌, ℕ, nat_eq, Bool, true, false, ◌&&◌, ◌||◌, IsTrue, List, [], ◌∷◌}
use Rattle.rx_typeck_solver.specs.declared.facts.Subject.{Subject}
use Rattle.rx_typeck_solver.specs.declared.facts.Subject.TheVariants as subject
use Rattle.rx_typeck_solver.specs.declared.facts.Passing.{Passing}
use Rattle.rx_typeck_solver.specs.declared.facts.Fact.{Fact}
use Rattle.rx_typeck_solver.specs.declared.facts.Fact.TheVariants as fact
use Rattle.rx_typeck_solver.specs.declared.facts.Demand.{Demand}
use Rattle.rx_typeck_solver.specs.Valid.{Task, IsIn}
use Rattle.rx_typeck_solver.specs.Solver.{same_subject}

-- the subjects that were told
abbrev pub Knowing : Type 0
Knowing = Subject → Bool

abbrev pub nothing : Knowing
nothing x = false

abbrev pub anything : Knowing
anything x = true

abbrev pub more : Subject → Knowing → Knowing
more x K z = same_subject z x || K z

abbrev pub all_known : Knowing → List Subject → Bool
all_known K [] = true
all_known K (x ∷ xs) = K x && all_known K xs

abbrev pub all_passed : Knowing → List Passing → Bool
all_passed K [] = true
all_passed K (p ∷ ps) = K (subject.Node p.node) && all_passed K ps

-- a fact of a demand at a node can be read; an integer that wasn't told is that node's own
abbrev pub ready : ℕ → Knowing → Fact → Bool
ready n K (fact.Equals x o xs ps) = all_known K xs && all_passed K ps
ready n K (fact.Integer m s) = nat_eq m n || K (subject.Node m)
ready n K (fact.IntegerBehind m s) = K (subject.Node m)
ready n K (fact.Passes t xs ps qs) = all_known K xs && all_passed K ps && all_passed K qs
ready n K fact.Never = true

abbrev pub learns : Knowing → Fact → Knowing
learns K (fact.Equals x o xs ps) = more x K
learns K (fact.Integer m s) = more (subject.Node m) K
learns K (fact.IntegerBehind m s) = K
learns K (fact.Passes t xs ps qs) = K
learns K fact.Never = anything

abbrev pub learns_all : Knowing → List Fact → Knowing
learns_all K [] = K
learns_all K (f ∷ fs) = learns_all (learns K f) fs

abbrev pub Ready : ℕ → Knowing → List Fact → Type 0
Ready n K [] = Unit {0}
Ready n K (f ∷ fs) = IsTrue (ready n K f) × Ready n (learns K f) fs

abbrev pub knows : Knowing → List Demand → Knowing
knows K [] = K
knows K (d ∷ ds) = knows (learns_all K d.facts) ds

abbrev pub Ordered : Knowing → List Demand → Type 0
Ordered K [] = Unit {0}
Ordered K (d ∷ ds) = Ready d.node K d.facts × Ordered (learns_all K d.facts) ds

-- a demand at the node asks that it has an integer type, behind references if any
abbrev pub asks_integer : ℕ → List Fact → Bool
asks_integer n [] = false
asks_integer n (fact.Integer m s ∷ fs) = nat_eq m n || asks_integer n fs
asks_integer n (fact.IntegerBehind m s ∷ fs) = nat_eq m n || asks_integer n fs
asks_integer n (_ ∷ fs) = asks_integer n fs

abbrev pub AsksInteger : List Demand → ℕ → Type 0
AsksInteger [] n = ⊥
AsksInteger (d ∷ ds) n = ((d.node ≡ n) × IsTrue (asks_integer n d.facts)) ⊎ AsksInteger ds n

-- all that the solver needs of a task
pub record Orderly (task : Task) : Type 0 where
  pub ordered : Ordered nothing task.demands
  pub literals : (n : ℕ) → IsIn n task.literals → AsksInteger task.demands n
