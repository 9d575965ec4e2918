-- What is asked of the names in a plan and in its run, so that the new items have meanings (Rust Reference, "Names", "Lifetimes"): what
-- a plan of an accepted program gives.
use Rattle.std.specs.Prelude.{◌≡◌, ℕ, ◌+◌, ◌≤◌, ◌^◌, true, false, not, ◌&&◌, ◌||◌, List, [], ◌++◌, length, map, Option, Some, None}
use Rattle.rx_tree.specs.Lists.{Every}
use Rattle.rx_tree.specs.Plain as plain
use Rattle.rx_tree.specs.Plain.{ProgramTree}
use Rattle.rx_resolve_names.specs.Scopes.{variable_named}
use Rattle.rx_resolve_names.specs.Meant.{type_name, item_named}
use Rattle.rx_typed.specs.Types.{Typ}
use Rattle.rx_hoist_extraction.specs.Names.{Names, Distinct, is_among, behind_all}
use Rattle.rx_hoist_extraction.specs.Run.{Parts, as_statements}
use Rattle.rx_hoist_extraction.specs.Plan.{Variable, Param, Leaving, Plan, to_next, to_break, to_continue, to_return, has_exit, has_enum, outs_of, names_of, enum_name, exit_name}
use Rattle.rx_hoist_extraction.specs.Moved.{referred, leaves}
use Rattle.rx_hoist_extraction.specs.NewEnum.{new_enum}
use Rattle.rx_hoist_extraction.specs.NewFunction.{copied_lifetimes, signature_positions}
use Rattle.rx_hoist_extraction.specs.OwnLifetimes.{idents}
use Rattle.rx_hoist_naming.specs.Words.{NamesTypes}
use Rattle.rx_engine_names.specs.Within.{Claims}
use Rattle.rx_engine_names.specs.Moves.{Moves, HandsOut}
use Rattle.rx_engine_names.specs.NewFunction.{param_names}

-- ---- types name structs and enums of the program alone

abbrev pub MaybeNames : ProgramTree → Option Typ → Type 0
MaybeNames P None = Unit {0}
MaybeNames P (Some t) = NamesTypes P t

pub record TypesNamed (P : ProgramTree) (pl : Plan) : Type 0 where
  pub params : Every (λ (x : Param). NamesTypes P x.variable.typ) pl.params
  pub locals : Every (λ (v : Variable). NamesTypes P v.typ) pl.locals
  pub outs : Every (λ (x : Leaving). Every (λ (v : Variable). NamesTypes P v.typ) x.outs) pl.exits
  pub value : MaybeNames P pl.value
  pub result : NamesTypes P pl.result

-- ---- exits

abbrev pub exit_names : List Leaving → Names
exit_names xs = map (λ (x : Leaving). exit_name x.exit) xs

-- where there is an enum of exits, its name means it in the other program
abbrev pub EnumStands : ProgramTree → ProgramTree → Moves → Type 0
EnumStands P Q V = has_enum V.plan.exits ≡ true → item_named type_name 0 Q (enum_name V.plan) ≡ Some (V.enum, plain.enum_item V.place (new_enum P V.plan V.place))

-- a variable that the end hands out is one that the run declares, or a param or local by value
abbrev pub HandedAtEnd : Moves → Names → List ℕ → Type 0
HandedAtEnd V own y = ((is_among y own || is_among y V.known) ≡ true) × ((not (is_among y own) && is_among y (referred V.plan.params)) ≡ false) × (is_among y V.plan.identifiers ≡ true)

-- ---- of a plan with the parts of its run

pub record PlanNames (P : ProgramTree) (V : Moves) (run : Parts) : Type 0 where
  pub types : TypesNamed P V.plan
  -- params and locals have names of their own, which mean variables where the run begins
  pub apart : Distinct (param_names V.plan.params ++ names_of V.plan.locals)
  pub meant : Every (λ (x : List ℕ). (n : ℕ) × (variable_named V.scope x ≡ Some n)) (param_names V.plan.params ++ names_of V.plan.locals)
  pub exits_apart : Distinct (exit_names V.plan.exits)
  -- a value is handed out where the end is reached
  pub reached : (t : Typ) → V.plan.value ≡ Some t → has_exit to_next V.plan.exits ≡ true
  pub handed : Every (HandedAtEnd V (behind_all [] (as_statements run.statements))) (names_of (outs_of to_next V.plan.exits))
  -- the lifetimes that the run names are those of the text, and fresh names are found
  pub lifetimes : Every (λ (x : List ℕ). is_among x V.plan.lifetimes ≡ true) (idents (copied_lifetimes run))
  pub fresh_lifetimes : length V.plan.lifetimes + signature_positions P V.plan ≤ 2 ^ 64
  pub fresh_variable : length V.plan.identifiers + 1 ≤ 2 ^ 64

-- the names in the run: its own, and those of params and locals; a callee that is neither is no variable. What jumps hand out is hidden by
-- nothing
abbrev pub run_claims : Moves → Claims
run_claims V = record {
  name = λ x. is_among x V.known ≡ false → variable_named V.scope x ≡ None;
  variable = λ own x. (is_among x own || is_among x V.known) ≡ true;
  broken = λ own ls l. (k : ℕ) → leaves l ls ≡ Some k → HandsOut V own (to_break k);
  continued = λ own ls l. (k : ℕ) → leaves l ls ≡ Some k → HandsOut V own (to_continue k);
  returned = has_exit to_return V.plan.exits ≡ true;
  annotation = λ y. Unit {0};
  block = λ own ls b. Unit {0};
}
