-- Where the demands of a function are met, each list of lifetimes in its signature is as long as it is declared.
use Rattle.std.proofs.Common.{ℕ, List, [], ◌∷◌, Option, Some, None, eqb-true}
use Rattle.rx_typed.specs.declared.nodes.Node.{Node}
use Rattle.rx_typed.specs.Named as named
use Rattle.rx_typed.specs.Named.{Written, WrittenTypes, Parameter, written_node, body_node}
use Rattle.rx_typeck_solver.specs.declared.facts.Op.TheVariants as op
use Rattle.rx_typeck_solver.specs.declared.facts.Demand.{Demand}
use Rattle.rx_typeck_solver.specs.Facts.{Assignment, KnownItems, MeetsEach}
use Rattle.rx_typeck_typed.specs.Demands as rules
use Rattle.rx_typeck_typed.proofs.Adding.{types_add, parameters_add, result_adds, body_adds, never_given_adds}
use Rattle.rx_typeck_typed.proofs.Meeting.{meets_front, meets_last, meets_before}
use Rattle.rx_typeck_typed.proofs.Reading.{Counted, AllCounted, ParametersCounted, ResultCounted}

module _ (K : KnownItems) (A : Assignment) where
  lifetimes_counted : (n : Node) (i : ℕ) (l : Option ℕ) (ds : List Demand) → MeetsEach K A (rules.lifetimes_asked n i l ds) → Counted K.items (named.an_item n i l)
  lifetimes_counted n i None ds h = tt
  lifetimes_counted n i (Some k) ds h = let x = meets_last K A ds _ h in eqb-true _ k x.0

  mutual
    type_counted : (t : Written) (ds : List Demand) → MeetsEach K A (rules.of_type t ds) → Counted K.items t
    type_counted (named.a_kind n k) ds h = tt
    type_counted (named.a_bool n) ds h = tt
    type_counted (named.a_tuple n ts) ds h = types_counted ts ds (meets_front K A (rules.of_types ts ds) _ h)
    type_counted (named.a_reference n m t) ds h = type_counted t ds (meets_front K A (rules.of_type t ds) _ h)
    type_counted (named.an_item n i ls) ds h = lifetimes_counted n i ls ds (meets_front K A (rules.lifetimes_asked n i ls ds) _ h)

    types_counted : (ts : WrittenTypes) (ds : List Demand) → MeetsEach K A (rules.of_types ts ds) → AllCounted K.items ts
    types_counted named.no_written ds h = tt
    types_counted (named.written_and t ts) ds h = (type_counted t ds (meets_before K A (rules.of_type t ds) (rules.of_types ts (rules.of_type t ds)) (types_add ts (rules.of_type t ds)) h), types_counted ts (rules.of_type t ds) h)

  whole_counted : (t : Written) (ds : List Demand) → MeetsEach K A (rules.whole_type t ds) → Counted K.items t
  whole_counted t ds h = type_counted t ds (meets_front K A (rules.of_type t ds) _ h)

  parameters_counted : (xs : List Parameter) (ds : List Demand) → MeetsEach K A (rules.of_parameters xs ds) → ParametersCounted K.items xs
  parameters_counted [] ds h = tt
  parameters_counted (x ∷ xs) ds h =
      (whole_counted x.typ ds (meets_front K A (rules.whole_type x.typ ds) _ (meets_before K A (rules.of_parameter x ds) (rules.of_parameters xs (rules.of_parameter x ds)) (parameters_add xs (rules.of_parameter x ds)) h)), parameters_counted xs (rules.of_parameter x ds) h)

  result_counted : (t : Option Written) (ds : List Demand) → MeetsEach K A (rules.of_result t ds) → ResultCounted K.items t
  result_counted None ds h = tt
  result_counted (Some t) ds h = whole_counted t ds h

  -- the demands of the signature are in front of those of the body
  pub signature_met : (f : named.Function) → MeetsEach K A (rules.demands f) → MeetsEach K A (rules.of_result f.result (rules.of_parameters f.params []))
  signature_met f h =
      let s = rules.of_result f.result (rules.of_parameters f.params []) in
      let b = rules.expects (body_node f.body) (op.Result f.item) [] s in
      let e = rules.of_body f.item f.body b in
      meets_front K A s _ (meets_before K A b e (body_adds f.item f.body b) (meets_before K A e (rules.demands f) (never_given_adds f.never_given e) h))

  pub function_parameters_counted : (f : named.Function) → MeetsEach K A (rules.demands f) → ParametersCounted K.items f.params
  function_parameters_counted f h = parameters_counted f.params [] (meets_before K A (rules.of_parameters f.params []) (rules.of_result f.result (rules.of_parameters f.params [])) (result_adds f.result (rules.of_parameters f.params [])) (signature_met f h))

  pub function_result_counted : (f : named.Function) → MeetsEach K A (rules.demands f) → ResultCounted K.items f.result
  function_result_counted f h = result_counted f.result (rules.of_parameters f.params []) (signature_met f h)
