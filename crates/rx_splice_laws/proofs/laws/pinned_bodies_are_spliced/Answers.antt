-- By the same induction as for runs.
use Rattle.rx_splice_laws.proofs.PinsSpliced.{body_spliced}
use Rattle.rx_splice_laws.proofs.laws.pinned_bodies_are_spliced.Goals as goal

pub returns : goal.returns
returns c = λ P pl r text all ts b h F L d p n i. body_spliced P pl r F L text all ts b h d p n i
