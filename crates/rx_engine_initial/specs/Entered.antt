-- How the variables begin that a new function has from where its run is entered: a param is declared and written, and so is one that holds
-- a reference to what the text's variable has; a local is declared. (REM: "Adventures in refactoring Rust: extract function", OOPSLA 2023.)
use Rattle.std.specs.Prelude.{◌≡◌, ℕ, true, false, List, [], ◌∷◌}
use Rattle.rx_typed.specs.Tree.{Temporary, Parameter, own}
use Rattle.rx_lower_walks.specs.Actions.{Declare, Write, Action, does}
use Rattle.rx_lower_walks.specs.Orders.{Order, beginning, declaring}
use Rattle.rx_lower_walks.specs.Walks.{Among}
use Rattle.rx_facts_tables.specs.Wholes.{stands, was_assigned}
use Rattle.rx_engine_initial.specs.Matching.{Reach}
use Rattle.rx_engine_initial.specs.Variables.{Kept, as_itself, by_reference, Sides, KnownVariables}
use Rattle.rx_engine_initial.specs.Copies.{world}

-- what holds of each walk of the text that comes to a part
abbrev pub OnEach : Sides → Order → (List Action → Type 0) → Type 0
OnEach S q P = (w : List Action) → Reach (world S) q w → P w

-- the new function's variable is none of these
pub record IsNewHere (vs : List Kept) (x : ℕ) : Type 0 where
  pub itself : (y : ℕ) → Among (as_itself x y) vs → ⊥
  pub reference : Among (by_reference x) vs → ⊥

-- the scope with one variable more
pub record OneMore (S : Sides) (R T : KnownVariables S) (k : Kept) : Type 0 where
  pub variables : T.variables ≡ k ∷ R.variables
  pub loops : T.loops ≡ R.loops

-- From one scope to another. A param that the run is given by value was assigned wherever the run is entered.
pub data Given (S : Sides) (q : Order) : KnownVariables S → List Parameter → KnownVariables S → Type 0 where
  given_none : {R : KnownVariables S} → Given S q R [] R
  by_value : {R T U : KnownVariables S} {p : Parameter} {ps : List Parameter} (y : ℕ) → IsNewHere R.variables p.variable → OneMore S R T (as_itself p.variable y)
      → OnEach S q (λ w. was_assigned w y ≡ true) → Given S q T ps U → Given S q R (p ∷ ps) U
  by_borrow : {R T U : KnownVariables S} {p : Parameter} {ps : List Parameter} → IsNewHere R.variables p.variable → OneMore S R T (by_reference p.variable)
      → Given S q T ps U → Given S q R (p ∷ ps) U

-- a local stands nowhere where the run is entered
pub data LocalsDeclared (S : Sides) (q : Order) : KnownVariables S → List ℕ → KnownVariables S → Type 0 where
  declared_none : {R : KnownVariables S} → LocalsDeclared S q R [] R
  declared_and : {R T U : KnownVariables S} {x : ℕ} {xs : List ℕ} (y : ℕ) → IsNewHere R.variables x → OneMore S R T (as_itself x y)
      → OnEach S q (λ w. stands w y [] ≡ false) → LocalsDeclared S q T xs U → LocalsDeclared S q R (x ∷ xs) U
