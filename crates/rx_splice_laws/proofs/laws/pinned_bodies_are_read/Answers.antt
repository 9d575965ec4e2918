-- By the same induction as for runs.
use Rattle.rx_splice_laws.proofs.PinsSpliced.{body_read}
use Rattle.rx_splice_laws.proofs.laws.pinned_bodies_are_read.Goals as goal

pub returns : goal.returns
returns c = λ P pl r text all ts b h F L d p n i k. body_read P pl r F L text all ts b h d p n i k
