-- Typed programs with the same tables, to the last entry: of each function where its variables and nodes stand, which
-- variables are `mut`, the types of variables, of nodes and of what their places expect, and those that `let`s write;
-- and the declarations with the polarities that they have recorded.
use Rattle.std.specs.Prelude.{◌≡◌, List, [], ◌∷◌}
use Rattle.rx_typeck_typed.specs.declared.typed.Typed.{Typed}
use Rattle.rx_typeck_typed.specs.declared.typed.TypedFn.{TypedFn}

pub record SameTables (f g : TypedFn) : Type 0 where
  pub item : f.item ≡ g.item
  pub names : f.names ≡ g.names
  pub mutable : f.mutable ≡ g.mutable
  pub spans : f.spans ≡ g.spans
  pub variables : f.variables ≡ g.variables
  pub nodes : f.types.nodes ≡ g.types.nodes
  pub expected : f.types.expected ≡ g.types.expected
  pub annotations : f.annotations ≡ g.annotations

-- as many functions, in order
abbrev pub EachSame : List TypedFn → List TypedFn → Type 0
EachSame [] [] = Unit {0}
EachSame (f ∷ fs) (g ∷ gs) = SameTables f g × EachSame fs gs
EachSame _ _ = ⊥

pub record HaveSameTables (t u : Typed) : Type 0 where
  pub items : t.decls.items ≡ u.decls.items
  pub functions : EachSame t.functions u.functions
