-- Patterns, params and declared variables of the new function that are those of the text: each test and each binding is a copy, and each
-- variable begins for the text's. (Rust Reference, "Patterns", "let statements", "Function parameters".)
use Rattle.std.specs.Prelude.{ℕ, List, [], ◌∷◌, Option, Some, None}
use Rattle.rx_typed.specs.Tree.{Parameter}
use Rattle.rx_lower_walks.specs.Matching.{PartTest, Binding}
use Rattle.rx_lower_walks.specs.Actions.{Act, Test, Subject, part, taken}
use Rattle.rx_engine_initial.specs.Variables.{Kept, as_itself, Sides, KnownVariables}
use Rattle.rx_engine_initial.specs.Copies.{IsCopy}
use Rattle.rx_engine_initial.specs.Entered.{OneMore}

-- from one scope to another
pub data AlikeDeclared (S : Sides) : KnownVariables S → List ℕ → List ℕ → KnownVariables S → Type 0 where
  none_declared : {R : KnownVariables S} → AlikeDeclared S R [] [] R
  declares_one : {R T U : KnownVariables S} {x y : ℕ} {xs ys : List ℕ} → OneMore S R T (as_itself x y) → AlikeDeclared S T xs ys U → AlikeDeclared S R (x ∷ xs) (y ∷ ys) U

pub data AlikeParams (S : Sides) : KnownVariables S → List Parameter → List Parameter → KnownVariables S → Type 0 where
  no_param : {R : KnownVariables S} → AlikeParams S R [] [] R
  param_and : {R T U : KnownVariables S} {p q : Parameter} {ps qs : List Parameter} → OneMore S R T (as_itself p.variable q.variable) → AlikeParams S T ps qs U
      → AlikeParams S R (p ∷ ps) (q ∷ qs) U

-- what a binding reads or borrows
pub data AlikeTaken (vs : List Kept) : Option Act → Option Act → Type 0 where
  takes_none : AlikeTaken vs None None
  takes_both : {a b : Act} → IsCopy vs a b → AlikeTaken vs (Some a) (Some b)

-- `X` and `Y`: what the patterns are matched against
pub data AlikeBindings (S : Sides) (X Y : Subject) : KnownVariables S → List Binding → List Binding → KnownVariables S → Type 0 where
  no_binding : {R : KnownVariables S} → AlikeBindings S X Y R [] [] R
  binding_and : {R T U : KnownVariables S} {b c : Binding} {bs cs : List Binding} → AlikeTaken R.variables (taken X b) (taken Y c) → OneMore S R T (as_itself b.variable c.variable)
      → AlikeBindings S X Y T bs cs U → AlikeBindings S X Y R (b ∷ bs) (c ∷ cs) U

pub data AlikeTests (vs : List Kept) (X Y : Subject) : List PartTest → List PartTest → Type 0 where
  no_test : AlikeTests vs X Y [] []
  test_and : {t u : PartTest} {ts us : List PartTest} → IsCopy vs (Test (part X t.steps) t.check) (Test (part Y u.steps) u.check) → AlikeTests vs X Y ts us
      → AlikeTests vs X Y (t ∷ ts) (u ∷ us)
