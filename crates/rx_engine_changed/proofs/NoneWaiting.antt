-- A function with types leaves no variable without one.
use Rattle.std.proofs.Common.{◌≡◌, List, [], ◌∷◌, ◌++◌, refl}
use Rattle.rx_typed.specs.declared.nodes.Node.{Node}
use Rattle.rx_typed.specs.Named as named
use Rattle.rx_typeck_solver.specs.declared.facts.Demand.{Demand}
use Rattle.rx_typeck_solver.specs.declared.facts.Fact.TheVariants as fact
use Rattle.rx_typeck_solver.specs.declared.facts.Op.TheVariants as op
use Rattle.rx_typeck_solver.specs.declared.facts.Rule.{Rule}
use Rattle.rx_typeck_solver.specs.Facts.{Assignment, KnownItems, MeetsAll, MeetsEach}
use Rattle.rx_typeck_typed.specs.Asking.{ask}
use Rattle.rx_typeck_typed.specs.Demands as rules

module _ (K : KnownItems) (A : Assignment) where
  met_in_front : (ds es : List Demand) → MeetsEach K A (ds ++ es) → MeetsEach K A ds
  met_in_front [] es h = tt
  met_in_front (d ∷ ds) es h = (h.0, met_in_front ds es h.1)

  met_at_the_end : (ds : List Demand) (d : Demand) → MeetsEach K A (ds ++ d ∷ []) → MeetsAll K A d.facts
  met_at_the_end [] d h = h.0
  met_at_the_end (e ∷ ds) d h = met_at_the_end ds d h.1

  met_before : (ns : List Node) (ds : List Demand) → MeetsEach K A (rules.of_never_given ns ds) → MeetsEach K A ds
  met_before [] ds h = h
  met_before (n ∷ ns) ds h = met_in_front ds _ (met_before ns (ask n Rule.Unclear (fact.Never ∷ []) ds) h)

  none_left : (ns : List Node) (ds : List Demand) → MeetsEach K A (rules.of_never_given ns ds) → ns ≡ []
  none_left [] ds h = refl
  none_left (n ∷ ns) ds h = absurd ((met_at_the_end ds _ (met_before ns (ask n Rule.Unclear (fact.Never ∷ []) ds) h)).0)

  pub none_waits_at_the_end : (f : named.Function) → MeetsEach K A (rules.demands f) → f.never_given ≡ []
  none_waits_at_the_end f h = none_left f.never_given (rules.of_body f.item f.body (rules.expects (named.body_node f.body) (op.Result f.item) [] (rules.of_result f.result (rules.of_parameters f.params [])))) h
