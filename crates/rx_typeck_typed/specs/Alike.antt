-- Typed programs that are alike: in what they declare, but for what is recorded, and in the places and typed trees of their
-- functions.
use Rattle.std.specs.Prelude.{◌≡◌, List, [], ◌∷◌}
use Rattle.rx_typed.specs.PlainTypes.{declarations}
use Rattle.rx_typed.specs.PlainTree.{plain-TypedTree}
use Rattle.rx_typeck_typed.specs.declared.typed.Typed.{Typed}
use Rattle.rx_typeck_typed.specs.declared.typed.TypedFn.{TypedFn}

abbrev pub FunctionsAlike : List TypedFn → List TypedFn → Type 0
FunctionsAlike [] [] = Unit {0}
FunctionsAlike (f ∷ fs) (g ∷ gs) =
    (f.item ≡ g.item) × (f.spans ≡ g.spans) × (plain-TypedTree f.tree ≡ plain-TypedTree g.tree) × FunctionsAlike fs gs
FunctionsAlike _ _ = ⊥

pub record AreAlike (t u : Typed) : Type 0 where
  pub declared : declarations t.decls.items ≡ declarations u.decls.items
  pub functions : FunctionsAlike t.functions u.functions
