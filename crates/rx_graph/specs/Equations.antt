-- Facts as values with an order, the equations that they meet at the sites of a graph, and the least table that meets them.
use Rattle.std.specs.Prelude.{◌≡◌, ℕ, ◌≤◌, true, List, length, Some, slice_get}
use Rattle.rx_graph.specs.Facts.{has, targets}

-- which values there are, their order and how they are joined, what a site begins with, and what it makes of the value at it;
-- a height, and what none is above
pub record Rules (I : Type 0) : Type 1 where
  pub Fits : I → Type 0
  pub Below : I → I → Type 0
  pub Joins : I → I → I → Type 0
  pub Begins : ℕ → I → Type 0
  pub Steps : ℕ → I → I → Type 0
  pub height : I → ℕ
  pub most : ℕ

-- a value is the least that two are below
pub record IsLeastAbove {I : Type 0} (R : Rules I) (a b c : I) : Type 0 where
  pub left : R.Below a c
  pub right : R.Below b c
  pub least : (d : I) → R.Below a d → R.Below b d → R.Below c d

-- what holds of each such rules: the order is one and has joins, each step keeps it, and heights are bounded
pub record Lawful {I : Type 0} (R : Rules I) : Type 0 where
  pub reflexive : (a : I) → R.Fits a → R.Below a a
  pub transitive : (a b c : I) → R.Below a b → R.Below b c → R.Below a c
  pub joins : (a b c : I) → R.Joins a b c → IsLeastAbove R a b c
  pub one_beginning : (p : ℕ) (a b : I) → R.Begins p a → R.Begins p b → R.Below a b
  pub monotone : (q : ℕ) (a b c d : I) → R.Below a b → R.Steps q a c → R.Steps q b d → R.Below c d
  pub bounded : (a : I) → R.Fits a → R.height a ≤ R.most

-- the equations: what a site begins with is below its value, and so is what the sites that lead to it make of theirs
pub record MeetsEquations {I : Type 0} (R : Rules I) (edges : List (List ℕ)) (T : List I) : Type 0 where
  pub count : length T ≡ length edges
  pub begins : (p : ℕ) (a : I) → slice_get T p ≡ Some a → (b : I) × R.Begins p b × R.Below b a
  pub follows : (q p : ℕ) (a c : I) → has (targets edges q) p ≡ true → slice_get T q ≡ Some a → slice_get T p ≡ Some c → (b : I) × R.Steps q a b × R.Below b c

-- a value that comes to a site: it begins with it; or what a site that leads there makes of such a value is joined to one
pub data Derived {I : Type 0} (R : Rules I) (edges : List (List ℕ)) : ℕ → I → Type 0 where
  begins : {p : ℕ} {a : I} → R.Begins p a → Derived R edges p a
  comes : {p : ℕ} {d : I} (q : ℕ) (a b c : I) → has (targets edges q) p ≡ true → Derived R edges q a → R.Steps q a b → Derived R edges p c → R.Joins c b d
      → Derived R edges p d

-- the table is the least that meets the equations, and each of its values comes to its site
pub record Solves {I : Type 0} (R : Rules I) (edges : List (List ℕ)) (T : List I) : Type 0 where
  pub meets : MeetsEquations R edges T
  pub least : (U : List I) → MeetsEquations R edges U → (p : ℕ) (a b : I) → slice_get T p ≡ Some a → slice_get U p ≡ Some b → R.Below a b
  pub fits : (p : ℕ) (a : I) → slice_get T p ≡ Some a → R.Fits a
  pub derived : (p : ℕ) (a : I) → slice_get T p ≡ Some a → Derived R edges p a
