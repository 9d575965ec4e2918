use Rattle.rx_typed.specs.PlainTypes.{declarations}
use Rattle.rx_cover.specs.Finite.{all_in}
use Rattle.rx_cover.specs.Finding.{awaited}
use Rattle.rx_cover.proofs.LeastLemmas.{Goes}
use Rattle.rx_cover.proofs.least.write.Given as goal

abbrev pub invariant-loop-column : goal.invariant-loop-column
invariant-loop-column l = Goes (declarations l.fn.decls.items) (awaited l.fn.pending) l.fn.row l.pending l.row

abbrev pub decreases-loop-column : goal.decreases-loop-column
decreases-loop-column l = all_in (declarations l.fn.decls.items) (awaited l.pending)
