-- The types of the variables that a call binds behind the run, by its plan, beside their names; and that a text has them too (REM, "Extract function", outputs and
-- control flow).
use Rattle.std.specs.Prelude.{◌≡◌, ℕ, if◌then◌else◌, List, [], ◌∷◌, map, Some}
use Rattle.rx_resolve_names.specs.Scopes.{variable_named, Variables}
use Rattle.rx_typed.specs.Types.{Typ}
use Rattle.rx_typeck_solver.specs.declared.facts.Subject.TheVariants as subject
use Rattle.rx_typeck_solver.specs.Facts.{Assignment}
use Rattle.rx_hoist_extraction.specs.Call.{is_own}
use Rattle.rx_hoist_extraction.specs.Names.{Names}
use Rattle.rx_hoist_extraction.specs.Plan.{names_of, Variable}
use Rattle.rx_hoist_extraction.specs.Values.{held_by, next_values, result_of, types_of, Value}
use Rattle.rx_engine_names.specs.HandedOut.{Handing}
use Rattle.rx_engine_names.specs.HandsOver.{handed_names}

-- those that are bound where the values are handed out (`handed_names` of rx_engine_names), and those that are redeclared
abbrev pub one_bound : Names → Value → List Typ
one_bound own (result_of t) = []
one_bound own (held_by v) = if is_own own v then v.typ ∷ [] else []

abbrev pub bound_types : Names → List Value → List Typ
bound_types own [] = []
bound_types own (h ∷ []) = one_bound own h
bound_types own (h ∷ i ∷ hs) = types_of (h ∷ i ∷ hs)

abbrev pub variable_types : List Variable → List Typ
variable_types vs = map (λ (v : Variable). v.typ) vs

-- in this scope of the text a variable with such a name has the type
abbrev pub TypedBehind : Assignment → Variables → Names → List Typ → Type 0
TypedBehind A sc (x ∷ xs) (t ∷ ts) = ((j : ℕ) → variable_named sc x ≡ Some j → A (subject.Variable j) ≡ t) × TypedBehind A sc xs ts
TypedBehind A sc _ _ = Unit {0}

-- so have those that a plan hands out and redeclares
pub record BehindAsPlanned (A : Assignment) (G : Handing) (sc : Variables) : Type 0 where
  pub handed : TypedBehind A sc (handed_names G.call.plan G.own (next_values G.call.plan)) (bound_types G.own (next_values G.call.plan))
  pub redeclared : TypedBehind A sc (names_of G.call.plan.redeclared) (variable_types G.call.plan.redeclared)
