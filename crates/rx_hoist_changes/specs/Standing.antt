-- What stands round the part where a walk is, as the code keeps it: the patterns whose names are bound there, and the loops
-- (Rust Reference, "Identifier patterns", "Loop labels").
use Rattle.std.specs.Prelude.{List, [], ◌∷◌, ◌++◌, option_map}
use Rattle.rx_tree.specs.declared.tree.Pattern.{Pattern}
use Rattle.rx_tree.specs.PlainOf.{plain-Pattern}
use Rattle.rx_resolve_names.specs.Meant.{Around, a_loop, a_test}
use Rattle.rx_hoist_extraction.specs.Names.{Names, bound}
use Rattle.rx_hoist_changes.specs.declared.jumps.Around as code
use Rattle.rx_hoist_changes.specs.declared.jumps.Around.TheVariants as around

-- the names of patterns in the order of the text, in front of others
abbrev pub bound_behind : Names → List Pattern → Names
bound_behind own [] = own
bound_behind own (p ∷ ps) = bound_behind (bound (plain-Pattern p) ++ own) ps

abbrev pub around_of : code.Around → Around
around_of (around.Loop l n) = a_loop (option_map (λ i. i.now) l) n
around_of around.Test = a_test

-- the nearest last, in front of others
abbrev pub around_behind : List Around → List code.Around → List Around
around_behind done [] = done
around_behind done (x ∷ xs) = around_behind (around_of x ∷ done) xs
