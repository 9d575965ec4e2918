-- The values that each exit of a run hands out, in order (REM, "Extract function", outputs and control flow).
use Rattle.std.specs.Prelude.{if◌then◌else◌, List, [], ◌∷◌, ◌++◌, map, Option, Some, None}
use Rattle.rx_typed.specs.Types.{Typ}
use Rattle.rx_hoist_extraction.specs.Plan.{Exit, to_next, to_break, to_continue, to_return, Variable, Leaving, Plan, has_exit, outs_of, is_unit}

pub data Value : Type 0 where
  -- the value of the run, or the operand of a return, of this type
  result_of : Typ → Value
  -- what a variable holds
  held_by : Variable → Value

abbrev pub value_type : Value → Typ
value_type (result_of t) = t
value_type (held_by v) = v.typ

abbrev pub result_if_any : Option Typ → List Value
result_if_any None = []
result_if_any (Some t) = result_of t ∷ []

-- the unit is not handed out
abbrev pub unless_unit : Typ → List Value
unless_unit t = if is_unit t then [] else result_of t ∷ []

abbrev pub variables_held : List Variable → List Value
variables_held vs = map (λ v. held_by v) vs

-- the run's value comes before the outs of Next; a return hands out its operand alone
abbrev pub values_at : Plan → Exit → List Variable → List Value
values_at pl to_next vs = result_if_any pl.value ++ variables_held vs
values_at pl (to_break k) vs = variables_held vs
values_at pl (to_continue k) vs = variables_held vs
values_at pl to_return vs = unless_unit pl.result

abbrev pub values_of : Plan → Leaving → List Value
values_of pl x = values_at pl x.exit x.outs

-- what the end of the run hands out, if it is reached
abbrev pub next_values : Plan → List Value
next_values pl = if has_exit to_next pl.exits then values_at pl to_next (outs_of to_next pl.exits) else []

abbrev pub types_of : List Value → List Typ
types_of vs = map value_type vs
