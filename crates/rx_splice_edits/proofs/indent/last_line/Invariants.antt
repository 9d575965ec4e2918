-- The last line of the text is that of what is left.
use Rattle.std.proofs.Common.{◌≡◌, [], length}
use denote.Text.{Utf8}
use denote.Shadow.{shadow}
use Rattle.rx_splice_laws.specs.Indent.{last_line}
use Rattle.rx_splice_edits.proofs.indent.last_line.Given as goal

abbrev pub invariant-loop-first : goal.invariant-loop-first
invariant-loop-first l = shadow (Utf8 l.rest) × (last_line [] l.rest ≡ last_line [] l.text)

abbrev pub decreases-loop-first : goal.decreases-loop-first
decreases-loop-first l = length l.rest
