-- The names of a function's parameters (Rust Reference, "Functions").
use Rattle.std.specs.Prelude.{List, [], ◌∷◌}
use Rattle.rx_tree.specs.Plain.{Parameter}
use Rattle.rx_hoist_extraction.specs.Names.{Names}

abbrev pub parameter_names : List Parameter → Names
parameter_names [] = []
parameter_names (x ∷ xs) = x.name.name ∷ parameter_names xs
