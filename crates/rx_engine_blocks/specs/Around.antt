-- The demands of a text and of the part of the answer that has what stands round a run: in it others stand for those of the run.
use Rattle.std.specs.Prelude.{◌≡◌, List, ◌++◌}
use Rattle.rx_typeck_solver.specs.declared.facts.Demand.{Demand}

-- the run's, or such as stand for others wherever they are
pub data Round (Ordinary : List Demand → List Demand → Type 0) (run call : List Demand) : List Demand → List Demand → Type 0 where
  instead : Round Ordinary run call run call
  ordinary : {gs gs' : List Demand} → Ordinary gs gs' → Round Ordinary run call gs gs'

-- demands that are somewhere among others
pub record Among (run text : List Demand) : Type 0 where
  pub front : List Demand
  pub back : List Demand
  pub is : text ≡ front ++ (run ++ back)
