-- The blanks of all are those of what is left.
use Rattle.std.proofs.Common.{◌≡◌, drop}
use Rattle.std.specs.List.{list_all}
use Rattle.rx_splice_laws.specs.Indent.{is_level}
use Rattle.rx_splice_edits.proofs.indent.is_blank.Given as goal

abbrev pub invariant-loop-byte : goal.invariant-loop-byte
invariant-loop-byte l = list_all is_level (drop l.byte-index l.byte-items) ≡ list_all is_level l.byte-items
