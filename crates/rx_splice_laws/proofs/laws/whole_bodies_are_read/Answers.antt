-- By the cases of the end.
use Rattle.rx_splice_laws.proofs.BodyEnds.{body_ends}
use Rattle.rx_splice_laws.proofs.laws.whole_bodies_are_read.Goals as goal

pub returns : goal.returns
returns c = λ P pl r text all ts ls ss o h F L V W d p n i ind l k. body_ends P pl r F L V W text all ts ls h d p n ind l ss o i k
