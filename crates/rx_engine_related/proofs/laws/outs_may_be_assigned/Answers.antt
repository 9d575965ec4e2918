use Rattle.rx_engine_related.proofs.Outs.{out_by_modes, out_unrefused}
use Rattle.rx_engine_related.proofs.laws.outs_may_be_assigned.Goals as goal

pub returns-clause-with_modes : goal.returns-clause-with_modes
returns-clause-with_modes c = out_by_modes

pub returns-clause-unrefused : goal.returns-clause-unrefused
returns-clause-unrefused c = out_unrefused
