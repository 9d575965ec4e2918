-- What a run's own text, and the text behind it, tell of its plan by names (REM, "Extract function"): the run names the params, the outs of
-- jumps, and what is handed out behind it that it doesn't declare itself; it has the jumps of the exits, and declares what is redeclared. What
-- the run declares and is named behind it is handed out or redeclared.
use Rattle.std.specs.Prelude.{◌≡◌, true, false, List, [], ◌∷◌, ◌++◌, Option}
use Rattle.rx_tree.specs.declared.tree.Ident.{Ident}
use Rattle.rx_tree.specs.Lists.{Every, statements, tail}
use Rattle.rx_tree.specs.Plain.{Function}
use Rattle.rx_lower_walks.specs.Walks.{Among}
use Rattle.rx_hoist_extraction.specs.Names.{behind_all, declared_by, is_among, Names}
use Rattle.rx_hoist_extraction.specs.Run.{as_statements, behind, Run, run_block, run_parts}
use Rattle.rx_hoist_extraction.specs.Plan.{Exit, Leaving, names_of, Param, Plan, to_break, to_continue, to_next, to_return, Variable}
use Rattle.rx_hoist_extraction.specs.Values.{held_by, next_values, result_of, Value}
use Rattle.rx_hoist_extraction.specs.Call.{is_own}
use Rattle.rx_engine_names.specs.Within.{Claims, OptionalWithin, StatementsWithin}
use Rattle.rx_engine_called.specs.Outside.{a_break, a_continue, a_name, Outer}

-- ---- the run

abbrev pub NamesIt : List Outer → Variable → Type 0
NamesIt os v = Among (a_name v.name) os

abbrev pub ExitTells : List Outer → Exit → List Variable → Type 0
ExitTells os to_next vs = Unit {0}
ExitTells os (to_break k) vs = ((l : Option Ident) × Among (a_break l k) os) × Every (NamesIt os) vs
ExitTells os (to_continue k) vs = ((l : Option Ident) × Among (a_continue l k) os) × Every (NamesIt os) vs
ExitTells os to_return vs = Unit {0}

-- `own` are the names that direct statements of the run declare
abbrev pub ValueTells : Names → List Outer → Value → Type 0
ValueTells own os (result_of t) = Unit {0}
ValueTells own os (held_by v) = is_own own v ≡ false → NamesIt os v

pub record RunTells (pl : Plan) (own : Names) (os : List Outer) : Type 0 where
  pub params : Every (λ (x : Param). NamesIt os x.variable) pl.params
  pub exits : Every (λ (x : Leaving). ExitTells os x.exit x.outs) pl.exits
  pub values : Every (ValueTells own os) (next_values pl)
  pub redeclared : Every (λ (v : Variable). is_own own v ≡ true) pl.redeclared

-- ---- behind it, in its block

-- the names of the variables among values
abbrev pub held_names : List Value → Names
held_names [] = []
held_names (result_of t ∷ hs) = held_names hs
held_names (held_by v ∷ hs) = v.name ∷ held_names hs

-- a name that was not bound since is a word of the text; where the run declares it, it is handed out or redeclared. The run declares no callee
abbrev pub told_behind : Plan → Names → Claims
told_behind pl own = record {
  name = λ x. (is_among x pl.identifiers ≡ true) × (is_among x own ≡ false);
  variable = λ since x. is_among x since ≡ false → (is_among x pl.identifiers ≡ true) × (is_among x own ≡ true → is_among x (names_of pl.redeclared ++ held_names (next_values pl)) ≡ true);
  broken = λ since ls l. Unit {0};
  continued = λ since ls l. Unit {0};
  returned = Unit {0};
  annotation = λ y. Unit {0};
  block = λ since ls b. Unit {0};
}

abbrev pub BehindTells : Run → Plan → Function → Type 0
BehindTells r pl g = StatementsWithin (told_behind pl (declared_by (run_parts r g).statements)) [] [] (as_statements (behind r (statements (run_block r g))))
    × OptionalWithin (told_behind pl (declared_by (run_parts r g).statements)) (behind_all [] (as_statements (behind r (statements (run_block r g))))) [] (tail (run_block r g))
