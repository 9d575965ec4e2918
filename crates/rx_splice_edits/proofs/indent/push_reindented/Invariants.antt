-- What is written, and what is left of the text, are the whole.
use Rattle.std.proofs.Common.{◌≡◌, ◌++◌, length}
use denote.Text.{Utf8}
use denote.Shadow.{shadow}
use Rattle.rx_splice_laws.specs.Indent.{reindented, reindented_from}
use Rattle.rx_splice_edits.proofs.indent.push_reindented.Given as goal

abbrev pub invariant-loop-first : goal.invariant-loop-first
invariant-loop-first l = shadow (Utf8 l.rest) × (l.out ++ reindented_from 0 l.indent l.rest ≡ l.fn.out ++ reindented l.indent l.text)

abbrev pub decreases-loop-first : goal.decreases-loop-first
decreases-loop-first l = length l.rest
