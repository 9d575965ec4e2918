-- The edits that are left are in order, and the text may be cut there, where all are.
use Rattle.rx_splice_edits.proofs.PartLemmas.{Same}
use Rattle.rx_splice_edits.proofs.parts.can_be_cut.Given as goal

abbrev pub invariant-loop-edit : goal.invariant-loop-edit
invariant-loop-edit l = Same l.text l.from l.to l.edits l.at l.edit-index
