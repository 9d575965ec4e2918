-- The body of a function as that of its tree with numbers, where its parameters are in scope (Rust Reference, "Functions"): the item is node
-- 0, and the types of the parameters and of the result stand in front of the body.
use Rattle.std.specs.Prelude.{◌≡◌, ℕ, suc, List, [], ◌++◌, length, map, reverse, Some}
use Rattle.rx_core.specs.declared.types.Span.{Span}
use Rattle.rx_tree.specs.Plain as plain
use Rattle.rx_tree.specs.Positions.{optional_type_nodes, parameter_nodes}
use Rattle.rx_resolve_names.specs.Steps.{Inside}
use Rattle.rx_typed.specs.Named as named
use Rattle.rx_hoist_nodes.specs.Nodes.{within_all}
use Rattle.rx_hoist_naming.specs.DeclaredNames.{declared_names}
use Rattle.rx_hoist_meant.specs.Stands.{StandsBody}

abbrev pub in_scope_of : named.Function → List ℕ
in_scope_of F = reverse (map (λ (p : named.Parameter). p.variable) F.params) ++ []

pub record FunctionStands (I : Inside) (s : Span) (f : plain.Function) (F : named.Function) : Type 0 where
  pub first : ℕ
  pub behind : ℕ
  pub size : first ≡ suc (length (within_all (parameter_nodes f.params ++ optional_type_nodes f.result)))
  pub body : StandsBody I (declared_names (Some (plain.function_item s f))) (in_scope_of F) [] first behind f.body F.body
