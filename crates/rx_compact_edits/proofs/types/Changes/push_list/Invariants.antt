use Rattle.std.proofs.Common.{◌≡◌, ◌++◌, map, drop}
use Rattle.rx_splice_laws.specs.Edits.{written}
use Rattle.rx_compact_text.specs.CompactedText.{listed_edits}
use Rattle.rx_compact_edits.specs.Writing.{becoming}
use Rattle.rx_compact_edits.proofs.types.Changes.push_list.Given as goal

abbrev pub invariant-loop-lifetime : goal.invariant-loop-lifetime
invariant-loop-lifetime l = l.out ++ map written (listed_edits (becoming l.self) (drop l.lifetime-index l.lifetimes)) ≡ l.fn.out ++ map written (listed_edits (becoming l.self) l.lifetimes)
