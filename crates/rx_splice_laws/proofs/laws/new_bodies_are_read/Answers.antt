-- The locals stand in front of the run, and the tail behind its statements.
use Rattle.rx_splice_laws.proofs.NewBodies.{new_bodies}
use Rattle.rx_splice_laws.proofs.laws.new_bodies_are_read.Goals as goal

pub returns : goal.returns
returns c = λ P r vs run want o h F L c f l m k. new_bodies P r vs F L run want o h c f l m k
