-- The parts of a body and of a signature, as the code has them.
use Rattle.std.specs.Prelude.{◌≡◌, List, map, Option}
use Rattle.rx_tree.specs.declared.tree.BoundLifetime.{BoundLifetime}
use Rattle.rx_tree.specs.Lists.{statements, tail}
use Rattle.rx_tree.specs.Plain.{TypeTree, Parameter, Body, Function}
use Rattle.rx_hoist_extraction.specs.Run.{Parts}
use Rattle.rx_compact_lifetimes.specs.declared.rewriting.Rewriting.{Rewriting}
use Rattle.rx_compact_lifetimes.specs.Merged.{joined_list}
use Rattle.rx_compact_lifetimes.specs.Rewritten.{renamed_bound, rewritten_optional, rewritten_parameter}

-- all of a body
abbrev pub parts_in : Body → Parts
parts_in b = record { statements = statements b; tail = tail b }

-- the parts of a signature by other names of its lifetimes
pub record IsMerged (rs : List Rewriting) (f : Function) (ls : List BoundLifetime) (ps : List Parameter) (result : Option TypeTree) : Type 0 where
  pub lifetimes : ls ≡ joined_list (map (renamed_bound rs) f.lifetimes)
  pub params : ps ≡ map (rewritten_parameter rs) f.params
  pub answer : result ≡ rewritten_optional rs f.result
