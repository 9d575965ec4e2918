use Rattle.rx_typed.specs.Naming.{of_optional, of_statements}
use Rattle.rx_engine_changed.specs.Spots.{spot}
use Rattle.rx_engine_changed.proofs.Handed.{end_fits}
use Rattle.rx_engine_changed.proofs.Spots.{optional_numbered, statements_numbered}
use Rattle.rx_engine_changed.proofs.laws.what_stands_for_an_end_fits.Goals as goal

pub returns : goal.returns
returns k = λ E f q G R items agrees follows B n b ss o c d later x a i end.
    let S = of_statements ss c in let O = of_optional n.site o S.1 in
    end_fits E f q G R items agrees follows d later B (spot c) (spot S.1) (spot O.1) n b x a i (statements_numbered ss c) (optional_numbered o n.site S.1) end
