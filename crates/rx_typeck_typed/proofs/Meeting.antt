-- Where all demands are met, those in front of the last are, and the last.
use Rattle.std.proofs.Common.{List, [], ◌∷◌, ◌++◌, subst}
use Rattle.rx_typeck_solver.specs.declared.facts.Demand.{Demand}
use Rattle.rx_typeck_solver.specs.Facts.{Assignment, KnownItems, MeetsAll, MeetsEach}
use Rattle.rx_typeck_typed.proofs.Adding.{Longer}

module _ (K : KnownItems) (A : Assignment) where
  pub meets_front : (ds es : List Demand) → MeetsEach K A (ds ++ es) → MeetsEach K A ds
  meets_front [] es h = tt
  meets_front (d ∷ ds) es h = (h.0, meets_front ds es h.1)

  pub meets_last : (ds : List Demand) (d : Demand) → MeetsEach K A (ds ++ d ∷ []) → MeetsAll K A d.facts
  meets_last [] d h = h.0
  meets_last (e ∷ ds) d h = meets_last ds d h.1

  pub meets_before : (ds ds' : List Demand) → Longer ds ds' → MeetsEach K A ds' → MeetsEach K A ds
  meets_before ds ds' l h = meets_front ds l.0 (subst (λ (x : List Demand). MeetsEach K A x) l.1 h)
