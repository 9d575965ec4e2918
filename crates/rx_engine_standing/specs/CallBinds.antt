-- What is asked of the variables that a call binds, where it is told that it stands for a run: what comes back from a number corresponds,
-- and a text's variable that such a name means behind the run has the type that the plan tells (REM, "Extract function"; Rust Reference, "Scopes").
use Rattle.std.specs.Prelude.{◌≡◌, ◌≤◌, ◌<◌, ℕ, true, List, Some}
use Rattle.rx_tree.specs.Plain.{Statement}
use Rattle.rx_resolve_names.specs.Steps.{Inside}
use Rattle.rx_typed.specs.Named.{Statements}
use Rattle.rx_typed.specs.Naming.{Cursor}
use Rattle.rx_typeck_solver.specs.Facts.{Assignment}
use Rattle.rx_hoist_extraction.specs.Plan.{names_of}
use Rattle.rx_hoist_extraction.specs.Values.{next_values}
use Rattle.rx_engine_names.specs.Renaming.{Renaming}
use Rattle.rx_engine_names.specs.HandedOut.{Handing}
use Rattle.rx_engine_names.specs.HandsOver.{handed_names, told_handed}
use Rattle.rx_engine_names.specs.Placed.{Place, StandFor}
use Rattle.rx_engine_changed.specs.Beside.{Numbers}
use Rattle.rx_engine_standing.specs.Bound.{bound_types, variable_types, TypedBehind}

-- a variable that has a number in the text corresponds, in front of this one
abbrev pub ComesBack : Numbers → Renaming → ℕ → Type 0
ComesBack N R many = (x y : ℕ) → N.back.variable y ≡ Some x → y < many → R.variable x y ≡ true

-- up to this cursor, behind the call
pub record CallBinds (N : Numbers) (R : Renaming) (A : Assignment) (G : Handing) (I I' : Inside) (front run call : List Statement) (p : Place) (x y : Statements) (s : StandFor (told_handed G) I I' front run call p R x y) (last : Cursor) : Type 0 where
  pub few : last.declared ≤ 4294967296
  pub back : ComesBack N R last.declared
  pub handed : TypedBehind A s.text.end.scope (handed_names G.call.plan G.own (next_values G.call.plan)) (bound_types G.own (next_values G.call.plan))
  pub redeclared : TypedBehind A s.text.end.scope (names_of G.call.plan.redeclared) (variable_types G.call.plan.redeclared)
