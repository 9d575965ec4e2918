use Rattle.rx_splice.proofs.Spliced.{SoFar}
use Rattle.rx_splice.proofs.splicing.splice.Given as goal

abbrev pub invariant-loop-edit : goal.invariant-loop-edit
invariant-loop-edit l = SoFar l.text l.edits.list l.out l.at l.edit-index
