-- The opening of the variant is put before the tail, and the rest of it behind.
use Rattle.rx_splice_laws.proofs.ValuedRuns.{variant_runs}
use Rattle.rx_splice_laws.proofs.laws.variant_runs_are_read.Goals as goal

pub returns : goal.returns
returns c = λ P pl r text all ts ls ss x h F L d p n i k. variant_runs P pl r F L text all ts ls ss x h d p n i k
