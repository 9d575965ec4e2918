-- Demands that speak of structs and enums alone, where they ask for one.
use Rattle.std.proofs.Common.{◌≡◌, ℕ, Bool, true, false, if◌then◌else◌, List, [], ◌∷◌, ◌++◌, refl}
use Rattle.rx_tree.specs.Lists.{Every}
use Rattle.rx_typeck_solver.specs.declared.facts.Op.{Op}
use Rattle.rx_typeck_solver.specs.declared.facts.Op.TheVariants as op
use Rattle.rx_typeck_solver.specs.declared.facts.Test.{Test}
use Rattle.rx_typeck_solver.specs.declared.facts.Test.TheVariants as test
use Rattle.rx_typeck_solver.specs.declared.facts.Fact.{Fact}
use Rattle.rx_typeck_solver.specs.declared.facts.Fact.TheVariants as fact
use Rattle.rx_typeck_solver.specs.declared.facts.Demand.{Demand}

abbrev pub GoodOp : (ℕ → Type 0) → Op → Type 0
GoodOp Q (op.Item i) = Q i
GoodOp Q _ = Unit {0}

abbrev pub GoodTest : (ℕ → Type 0) → Test → Type 0
GoodTest Q (test.ItemBehind i) = Q i
GoodTest Q _ = Unit {0}

abbrev pub GoodFact : (ℕ → Type 0) → Fact → Type 0
GoodFact Q (fact.Equals x o xs ps) = GoodOp Q o
GoodFact Q (fact.Passes t xs ps qs) = GoodTest Q t
GoodFact Q _ = Unit {0}

abbrev pub GoodDemand : (ℕ → Type 0) → Demand → Type 0
GoodDemand Q d = Every (GoodFact Q) d.facts

abbrev pub GoodDemands : (ℕ → Type 0) → List Demand → Type 0
GoodDemands Q ds = Every (GoodDemand Q) ds

pub every_append : {A : Type 0} (P : A → Type 0) (a b : List A) → Every P a → Every P b → Every P (a ++ b)
every_append P [] b h k = k
every_append P (x ∷ a) b h k = (h.0, every_append P a b h.1 k)

pub every_front : {A : Type 0} (P : A → Type 0) (a b : List A) → Every P (a ++ b) → Every P a
every_front P [] b h = tt
every_front P (x ∷ a) b h = (h.0, every_front P a b h.1)

pub every_behind : {A : Type 0} (P : A → Type 0) (a b : List A) → Every P (a ++ b) → Every P b
every_behind P [] b h = h
every_behind P (x ∷ a) b h = every_behind P a b h.1

-- what holds of both holds of the one that is taken
pub if_holds : {A : Type 0} (P : A → Type 0) (b : Bool) (x y : A) → (b ≡ true → P x) → (b ≡ false → P y) → P (if b then x else y)
if_holds P true x y f g = f refl
if_holds P false x y f g = g refl
