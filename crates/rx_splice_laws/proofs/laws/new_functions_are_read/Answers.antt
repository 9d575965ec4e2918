-- The body is that of the end, and the header stands in front of it.
use Rattle.rx_splice_laws.proofs.NewFunctions.{new_functions}
use Rattle.rx_splice_laws.proofs.laws.new_functions_are_read.Goals as goal

pub returns : goal.returns
returns c = λ P pl bs r text all ts ls ss o h F L V W H d p n i ind l k. new_functions P pl r ls ss o bs F L V W text all ts h H d p n i ind l k
