-- Demands that are those of another function by other numbers; others may stand for some of them.
use Rattle.std.specs.Prelude.{List, [], ◌∷◌, ◌++◌}
use Rattle.rx_typeck_solver.specs.declared.facts.Fact.{Fact}
use Rattle.rx_typeck_solver.specs.declared.facts.Demand.{Demand}
use Rattle.rx_engine_blocks.specs.Renumbering.{Renumbering, fact_at}

-- two of one thing
pub data Is {A : Type 0} : A → A → Type 0 where
  itself : {a : A} → Is a a

module _ (r : Renumbering) where
  pub data FactLike : Fact → Fact → Type 0 where
    like_fact : {f : Fact} → FactLike f (fact_at r f)

  pub data FactsLike : List Fact → List Fact → Type 0 where
    like_no_fact : FactsLike [] []
    like_more_facts : {f f' : Fact} {fs fs' : List Fact} → FactLike f f' → FactsLike fs fs' → FactsLike (f ∷ fs) (f' ∷ fs')

  -- the span may be another, and what is broken where the demand isn't met
  pub record DemandLike (d d' : Demand) : Type 0 where
    pub node : Is (r.nodes d.node) d'.node
    pub unsuffixed : Is d.unsuffixed d'.unsuffixed
    pub facts : FactsLike d.facts d'.facts

-- the demands so far, and those of the answer; `Special` says which others may stand for some
pub data DemandsLike (r : Renumbering) (Special : List Demand → List Demand → Type 0) : List Demand → List Demand → Type 0 where
  like_no_demand : DemandsLike r Special [] []
  like_more_demands : {ds ds' : List Demand} {d d' : Demand} → DemandsLike r Special ds ds' → DemandLike r d d' → DemandsLike r Special (ds ++ d ∷ []) (ds' ++ d' ∷ [])
  like_other_demands : {ds ds' : List Demand} (es es' : List Demand) → DemandsLike r Special ds ds' → Special es es' → DemandsLike r Special (ds ++ es) (ds' ++ es')

-- no others
abbrev pub NoSpecial : List Demand → List Demand → Type 0
NoSpecial es es' = ⊥
