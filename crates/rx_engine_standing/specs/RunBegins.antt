-- What is known in a text of its variables where a run begins, by the plan of the run: each param's variable has its type, which is known; one that a jump
-- out of the run or its end hands out has its type, which is known or waited for (REM, "Extract function"; Rust Reference, "Type inference").
use Rattle.std.specs.Prelude.{◌≡◌, ◌<◌, ℕ, true, false, List, length, Some}
use Rattle.rx_tree.specs.Lists.{Every}
use Rattle.rx_resolve_names.specs.Scopes.{variable_named}
use Rattle.rx_typed.specs.declared.nodes.Stage.{Stage}
use Rattle.rx_typed.specs.Naming.{declaration, Cursor}
use Rattle.rx_typed.specs.Types.{Typ}
use Rattle.rx_hoist_extraction.specs.Plan.{by_mut, to_break, to_continue, Exit, Leaving, Param, Variable}
use Rattle.rx_hoist_extraction.specs.Values.{held_by, next_values, result_of, Value}
use Rattle.rx_hoist_extraction.specs.Call.{is_own}
use Rattle.rx_typeck_solver.specs.declared.facts.Subject.TheVariants as subject
use Rattle.rx_typeck_solver.specs.Facts.{Assignment}
use Rattle.rx_engine_names.specs.Calls.{Calls}
use Rattle.rx_engine_names.specs.HandedOut.{Handing}

-- its type is known, or it waits for it at a node that has it
abbrev pub StagedAt : Assignment → Typ → Stage → Type 0
StagedAt A t Stage.Known = Unit {0}
StagedAt A t (Stage.Waits n s) = A (subject.Node n) ≡ t
StagedAt A t Stage.Given = ⊥

-- a variable that was declared in front, of this type
pub record VariableBegins (A : Assignment) (c : Cursor) (j : ℕ) (t : Typ) : Type 0 where
  pub earlier : j < length c.variables
  pub typed : A (subject.Variable j) ≡ t
  pub staged : StagedAt A t (declaration c j).stage

-- the one that has a name is such
abbrev pub NameBegins : Calls → Assignment → Cursor → Variable → Type 0
NameBegins C A c v = (j : ℕ) → variable_named C.scope v.name ≡ Some j → VariableBegins A c j v.typ

-- it is `mut` where it is borrowed mutably
abbrev pub ParamBegins : Calls → Assignment → Cursor → Param → Type 0
ParamBegins C A c x = (j : ℕ) → variable_named C.scope x.variable.name ≡ Some j
    → VariableBegins A c j x.variable.typ × ((declaration c j).stage ≡ Stage.Known) × (x.mode ≡ by_mut → (declaration c j).mutable ≡ true)

-- what the end hands out, where the run doesn't declare it
abbrev pub ValueBegins : Handing → Assignment → Cursor → Value → Type 0
ValueBegins G A c (result_of t) = Unit {0}
ValueBegins G A c (held_by v) = is_own G.own v ≡ false → NameBegins G.call A c v

-- what a jump out of the run hands out
abbrev pub OutsBegin : Handing → Assignment → Cursor → Exit → List Variable → Type 0
OutsBegin G A c (to_break k) vs = Every (NameBegins G.call A c) vs
OutsBegin G A c (to_continue k) vs = Every (NameBegins G.call A c) vs
OutsBegin G A c _ vs = Unit {0}

pub record RunBegins (G : Handing) (A : Assignment) (c : Cursor) : Type 0 where
  pub params : Every (ParamBegins G.call A c) G.call.plan.params
  pub values : Every (ValueBegins G A c) (next_values G.call.plan)
  pub exits : Every (λ (x : Leaving). OutsBegin G A c x.exit x.outs) G.call.plan.exits
