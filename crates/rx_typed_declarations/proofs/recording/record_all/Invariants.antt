use Rattle.std.proofs.Common.{◌≡◌, length}
use Rattle.rx_typed_declarations.specs.Variance.{record_all}
use Rattle.rx_typed_declarations.proofs.recording.record_all.Given as goal

abbrev pub invariant-loop-polarities : goal.invariant-loop-polarities
invariant-loop-polarities l = record_all l.items.items l.table.items ≡ record_all l.fn.items.items l.fn.table.items

abbrev pub decreases-loop-polarities : goal.decreases-loop-polarities
decreases-loop-polarities l = length l.table.items
