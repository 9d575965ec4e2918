use Rattle.rx_engine_tied.proofs.NamedRuns.{planned}
use Rattle.rx_engine_tied.proofs.laws.settled_extractions_are_alike.Goals as goal

pub returns : goal.returns
returns c = λ A q bytes names t muts choice d z front free s f e u there bounds.
    let k = planned A q bytes names t muts choice d z in
    let n = c.settled_runs_are_named.ensures A q bytes names t muts choice d z front free s f e in
    let x = c.decided_extractions_are_alike.ensures A q bytes names t muts d k free s f e n.0 n.1 n.2 u there bounds in
    (x.0, n.0, n.1, n.2, x.1)
