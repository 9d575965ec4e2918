-- Demands without their tests, which depend on outlines alone and give nothing a type.
use Rattle.std.specs.Prelude.{List, [], ◌∷◌}
use Rattle.rx_typeck_solver.specs.declared.facts.Fact.{Fact}
use Rattle.rx_typeck_solver.specs.declared.facts.Fact.TheVariants as fact
use Rattle.rx_typeck_solver.specs.declared.facts.Demand.{Demand}

abbrev pub no_tests : List Fact → List Fact
no_tests [] = []
no_tests (fact.Passes t xs ps qs ∷ fs) = no_tests fs
no_tests (f ∷ fs) = f ∷ no_tests fs

abbrev pub untested : List Demand → List Demand
untested [] = []
untested (d ∷ ds) = record { node = d.node; span = d.span; broken = d.broken; unsuffixed = d.unsuffixed; facts = no_tests d.facts } ∷ untested ds
