-- Statements that something follows keep their form with their edits.
use Rattle.rx_splice_laws.proofs.FrontRuns.{front_on_lines}
use Rattle.rx_splice_laws.proofs.laws.front_parts_are_read.Goals as goal

pub returns : goal.returns
returns c = λ P pl r text all ts ls ss h F L d p n f ind l k. front_on_lines P pl r F L text all ts ls ss h d p n f ind l k
