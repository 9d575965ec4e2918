-- All that demands name.
use Rattle.std.specs.Prelude.{◌≡◌, ◌⊎◌, List, [], ◌∷◌}
use Rattle.rx_typeck_solver.specs.declared.facts.Demand.{Demand}
use Rattle.rx_typeck_solver.specs.declared.facts.Fact.{Fact}
use Rattle.rx_typeck_solver.specs.declared.facts.Fact.TheVariants as fact
use Rattle.rx_typeck_solver.specs.declared.facts.Passing.{Passing}
use Rattle.rx_typeck_solver.specs.declared.facts.Subject.{Subject}
use Rattle.rx_typeck_solver.specs.declared.facts.Subject.TheVariants as subject

abbrev pub IsAmong : List Subject → Subject → Type 0
IsAmong [] x = ⊥
IsAmong (y ∷ ys) x = (x ≡ y) ⊎ IsAmong ys x

abbrev pub IsPassed : List Passing → Subject → Type 0
IsPassed [] x = ⊥
IsPassed (p ∷ ps) x = (x ≡ subject.Node p.node) ⊎ IsPassed ps x

abbrev pub NamedBy : Fact → Subject → Type 0
NamedBy (fact.Equals y o xs ps) x = (x ≡ y) ⊎ (IsAmong xs x ⊎ IsPassed ps x)
NamedBy (fact.Integer n s) x = x ≡ subject.Node n
NamedBy (fact.IntegerBehind n s) x = x ≡ subject.Node n
NamedBy (fact.Passes t xs ps qs) x = IsAmong xs x ⊎ (IsPassed ps x ⊎ IsPassed qs x)
NamedBy fact.Never x = ⊥

abbrev pub NamedByAny : List Fact → Subject → Type 0
NamedByAny [] x = ⊥
NamedByAny (f ∷ fs) x = NamedBy f x ⊎ NamedByAny fs x

abbrev pub NamedIn : List Demand → Subject → Type 0
NamedIn [] x = ⊥
NamedIn (d ∷ ds) x = NamedByAny d.facts x ⊎ NamedIn ds x
