use Rattle.rx_splice_edits.proofs.PartLemmas.{Rest}
use Rattle.rx_splice_edits.proofs.parts.push_spliced.Given as goal

abbrev pub invariant-loop-edit : goal.invariant-loop-edit
invariant-loop-edit l = Rest l.text l.from l.to l.edits l.fn.out l.out l.at l.edit-index
