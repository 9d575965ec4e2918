use Rattle.rx_compact_edits.proofs.Cuts.{Left}
use Rattle.rx_compact_edits.proofs.cutting.can_be_cut.Given as goal

abbrev pub invariant-loop-edit : goal.invariant-loop-edit
invariant-loop-edit l = Left l.text l.edits l.at l.edit-index
