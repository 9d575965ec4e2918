use Rattle.std.proofs.Common.{◌≡◌, drop}
use Rattle.rx_compact_text.specs.CompactedText.{list_end}
use Rattle.rx_compact_edits.proofs.Ending.{end_of_list}
use Rattle.rx_compact_edits.proofs.list.list_end.Given as goal

abbrev pub invariant-loop-lifetime : goal.invariant-loop-lifetime
invariant-loop-lifetime l = end_of_list l.end (drop l.lifetime-index l.rest) ≡ list_end l.first l.rest
