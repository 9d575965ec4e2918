-- The types in a plan by names, and those that are written out, name structs and enums of the program, since the tables of its functions
-- do.
use Rattle.std.proofs.Common.{◌≡◌, ℕ, suc, Bool, true, false, List, [], ◌∷◌, ◌++◌, map, Option, Some, None, refl}
use Rattle.rx_core.specs.declared.types.Span.{Span}
use Rattle.rx_tree.specs.Lists.{Every}
use Rattle.rx_tree.specs.Plain.{ProgramTree}
use Rattle.rx_tree.specs.Positions.{NodeTree}
use Rattle.rx_tree.proofs.NodesLaws.{every_both}
use Rattle.rx_typed.specs.Types.{Typ, integer, boolean, tuple_of, reference, named}
use Rattle.rx_typed.specs.Elaborated.{Coercion, plain, reborrow, share, as_shared}
use Rattle.rx_typeck_solver.specs.declared.facts.Subject.{Subject}
use Rattle.rx_typeck_solver.specs.declared.facts.Subject.TheVariants as subject
use Rattle.rx_typeck_elaborate_parts.specs.Assigning.{shape_of}
use Rattle.rx_typeck_typed.specs.declared.typed.TypedFn.{TypedFn}
use Rattle.rx_typeck_typed.specs.Typing.{type_at, coercion_at}
use Rattle.rx_modes_policy.specs.declared.uses.Mode.{Mode}
use Rattle.rx_exits_plan.specs.declared.plan.ExitOuts.{ExitOuts}
use Rattle.rx_hoist_extraction.specs.Names.{Names}
use Rattle.rx_hoist_extraction.specs.Plan.{Leaving, Param, Variable}
use Rattle.rx_hoist_naming.specs.Pinning.{node_type, open_pattern, pins_if, type_pin, type_pins}
use Rattle.rx_hoist_naming.specs.NamedPlan.{item_of, last_number, named_leaving, named_params, named_plan, named_variables, names_in, passed, result_of, value_if, Told}
use Rattle.rx_hoist_nodes.specs.Nodes.{nodes_of}
use Rattle.rx_hoist_naming.specs.Words.{NamesTypes}
use Rattle.rx_engine_names.specs.NewPlan.{MaybeNames, TypesNamed}
use Rattle.rx_engine_names.specs.WrittenOut.{PinsName}

shared_names : (P : ProgramTree) (t : Typ) → NamesTypes P t → NamesTypes P (as_shared t)
shared_names P (integer k) h = h
shared_names P boolean h = h
shared_names P (tuple_of ts) h = h
shared_names P (reference m t) h = h
shared_names P (named i) h = h

passed_names : (P : ProgramTree) (c : Coercion) (t : Typ) → NamesTypes P t → NamesTypes P (passed c t)
passed_names P plain t h = h
passed_names P reborrow t h = h
passed_names P share t h = shared_names P t h

pub result_names : (P : ProgramTree) (o : Option Typ) → ((u : Typ) → o ≡ Some u → NamesTypes P u) → NamesTypes P (result_of o)
result_names P None f = tt
result_names P (Some u) f = f u refl

module _ (P : ProgramTree) (t : TypedFn) (ns : Names) (types : (x : Subject) → NamesTypes P (shape_of (type_at t x))) where
  variables_name : (xs : List ℕ) → Every (λ (v : Variable). NamesTypes P v.typ) (named_variables ns t xs)
  variables_name [] = tt
  variables_name (x ∷ xs) = (types (subject.Variable x), variables_name xs)

  params_name : (xs : List ℕ) (ms : List Mode) (vs : List Bool) → Every (λ (x : Param). NamesTypes P x.variable.typ) (named_params ns t xs ms vs)
  params_name [] ms vs = tt
  params_name (x ∷ xs) [] vs = tt
  params_name (x ∷ xs) (m ∷ ms) [] = tt
  params_name (x ∷ xs) (m ∷ ms) (v ∷ vs) = (types (subject.Variable x), params_name xs ms vs)

  exits_name : (ls : List ℕ) (es : List ExitOuts) → Every (λ (x : Leaving). Every (λ (v : Variable). NamesTypes P v.typ) x.outs) (map (named_leaving ns t ls) es)
  exits_name ls [] = tt
  exits_name ls (e ∷ es) = (variables_name e.outs, exits_name ls es)

  value_names : (b : Bool) (n : ℕ) → MaybeNames P (value_if b t n)
  value_names true n = passed_names P (coercion_at t n) (node_type t n) (types (subject.Node n))
  value_names false n = tt

  pin_names : (n : ℕ) (o : Option Span) → Every (λ (p : Span × Typ). NamesTypes P p.1) (type_pin t n o)
  pin_names n None = tt
  pin_names n (Some s) = (types (subject.Node (suc n)), tt)

  pins_name : (r : Span) (ds : List ℕ) (n : ℕ) (xs : List NodeTree) → Every (λ (p : Span × Typ). NamesTypes P p.1) (type_pins t r ds n xs)
  pins_name r ds n [] = tt
  pins_name r ds n (x ∷ xs) = every_both (λ (p : Span × Typ). NamesTypes P p.1) (type_pin t n (open_pattern r ds n x)) (type_pins t r ds (suc n) xs) (pin_names n (open_pattern r ds n x)) (pins_name r ds (suc n) xs)

  pins_if_name : (loose : List ℕ) (r : Span) (ds : List ℕ) (xs : List NodeTree) → PinsName P (pins_if loose t r ds xs)
  pins_if_name [] r ds xs = tt
  pins_if_name (x ∷ loose) r ds xs = pins_name r ds 0 xs

-- ---- of a plan

module _ (A : Told) (types : (x : Subject) → NamesTypes A.program (shape_of (type_at A.function x))) where
  pub plan_pins_name : PinsName A.program (named_plan A).pins
  plan_pins_name = pins_if_name A.program A.function (names_in A) types A.plan.loose A.run.span A.diverging (nodes_of (item_of A))

  pub plan_types_name : NamesTypes A.program (named_plan A).result → TypesNamed A.program (named_plan A)
  plan_types_name result = record {
    params = params_name A.program A.function (names_in A) types A.plan.params A.modes A.moved;
    locals = variables_name A.program A.function (names_in A) types A.plan.locals;
    outs = exits_name A.program A.function (names_in A) types A.loops A.plan.exits;
    value = value_names A.program A.function (names_in A) types A.plan.value (last_number A);
    result = result;
  }
