-- The tail follows the statements, whatever they end with.
use Rattle.rx_splice_laws.proofs.NewBodies.{front_bodies}
use Rattle.rx_splice_laws.proofs.laws.front_bodies_are_read.Goals as goal

pub returns : goal.returns
returns c = λ P r vs run ss x h F L f l m k. front_bodies P r vs F L run ss x h f l m k
