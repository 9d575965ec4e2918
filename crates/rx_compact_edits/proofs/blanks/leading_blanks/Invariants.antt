use Rattle.std.proofs.Common.{◌≡◌, ◌+◌, drop}
use Rattle.rx_compact_text.specs.CompactedText.{leading_blanks}
use Rattle.rx_compact_edits.proofs.blanks.leading_blanks.Given as goal

abbrev pub invariant-loop-count : goal.invariant-loop-count
invariant-loop-count l = l.count + leading_blanks (drop l.count l.text) ≡ leading_blanks l.text
