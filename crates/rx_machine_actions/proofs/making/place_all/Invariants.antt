use Rattle.std.proofs.Common.{length}
use Rattle.rx_machine_actions.proofs.MakingLemmas.{Placing}
use Rattle.rx_machine_actions.proofs.making.place_all.Given as goal

abbrev pub invariant-loop-value : goal.invariant-loop-value
invariant-loop-value l = Placing l.operands l.fn.values l.values l.fn.parts.items l.parts.items

abbrev pub decreases-loop-value : goal.decreases-loop-value
decreases-loop-value l = length l.values
