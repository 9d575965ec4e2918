-- Typed programs that are the same apart from the places of names and nodes in the text.
use Rattle.std.specs.Prelude.{◌≡◌, List, [], ◌∷◌}
use Rattle.rx_typeck_typed.specs.declared.typed.Typed.{Typed}
use Rattle.rx_typeck_typed.specs.declared.typed.TypedFn.{TypedFn}

-- but for where its variables are declared and where its nodes stand
abbrev pub SameFunction : TypedFn → TypedFn → Type 0
SameFunction f g = g ≡ record f { names = g.names; spans = g.spans }

abbrev pub SameFunctions : List TypedFn → List TypedFn → Type 0
SameFunctions [] [] = Unit {0}
SameFunctions (f ∷ fs) (g ∷ gs) = SameFunction f g × SameFunctions fs gs
SameFunctions _ _ = ⊥

pub record SameTyped (t u : Typed) : Type 0 where
  pub declared : u.decls ≡ t.decls
  pub functions : SameFunctions t.functions u.functions
