-- Where a block of a function, and a run in it, is come to when its names get their meanings (Rust Reference, "Scopes", "Loop labels"): a
-- scope, and the loops round it.
use Rattle.std.specs.Prelude.{◌≡◌, ℕ, List, Option, Ok}
use Rattle.rx_tree.specs.declared.tree.Ident.{Ident}
use Rattle.rx_tree.specs.Lists.{statements}
use Rattle.rx_tree.specs.Plain.{Body}
use Rattle.rx_resolve_names.specs.Scopes.{Variables}
use Rattle.rx_resolve_names.specs.declared.resolved.ItemNames.{ItemNames}
use Rattle.rx_resolve_names.specs.Meant.{Around}
use Rattle.rx_resolve_names.specs.Steps.{Inside}
use Rattle.rx_resolve_names.specs.Names.{in_block, in_optional, in_statements, Scoped}
use Rattle.rx_hoist_extraction.specs.Run.{as_statements, chosen_parts, in_front, Run}
use Rattle.rx_engine_names.specs.Moves.{labels_of}

pub record BlockReached (I : Inside) (labels : List (Option Ident)) (b : Body) : Type 0 where
  pub scope : Variables
  pub around : List Around
  pub at : List ℕ
  pub before : ItemNames
  pub end : ItemNames
  pub resolves : in_block I scope around at b before ≡ Ok end
  pub labels_are : labels_of around ≡ labels

-- the statements in front of the run, then its own, then its tail
pub record RunReached (I : Inside) (labels : List (Option Ident)) (r : Run) (b : Body) : Type 0 where
  pub scope : Variables
  pub around : List Around
  pub at : List ℕ
  pub before : ItemNames
  pub middle : Scoped
  pub front : in_statements I scope around at 0 (as_statements (in_front r (statements b))) before ≡ Ok middle
  pub from : ℕ
  pub end : Scoped
  pub resolves : in_statements I middle.scope around at from (as_statements (chosen_parts r b).statements) middle.tables ≡ Ok end
  pub tail_at : List ℕ
  pub after : ItemNames
  pub ends : in_optional I end.scope around tail_at (chosen_parts r b).tail end.tables ≡ Ok after
  pub labels_are : labels_of around ≡ labels
