-- The names that a function declares: those of its parameters, then those that patterns bind, in the order of the text, which is that
-- of the numbers of its variables (Rust Reference, "Function parameters", "Identifier patterns").
use Rattle.std.specs.Prelude.{List, [], ◌∷◌, ◌++◌, map, Option, Some}
use Rattle.rx_tree.specs.Plain as plain
use Rattle.rx_tree.specs.Plain.{ItemTree, Parameter}
use Rattle.rx_tree.specs.Positions.{NodeTree, a_pattern}
use Rattle.rx_hoist_extraction.specs.Names.{Names}
use Rattle.rx_hoist_nodes.specs.Nodes.{nodes_of}

abbrev pub name_bound : NodeTree → Names
name_bound (a_pattern (plain.bind s x m)) = x.name ∷ []
name_bound _ = []

abbrev pub names_bound : List NodeTree → Names
names_bound [] = []
names_bound (n ∷ ns) = name_bound n ++ names_bound ns

abbrev pub parameter_names : Option ItemTree → Names
parameter_names (Some (plain.function_item s f)) = map (λ (x : Parameter). x.name.name) f.params
parameter_names _ = []

abbrev pub declared_names : Option ItemTree → Names
declared_names i = parameter_names i ++ names_bound (nodes_of i)
