use Rattle.rx_modes_given.proofs.Needed.{passed_not_needed, unrefused_not_needed}
use Rattle.rx_modes_given.proofs.laws.what_is_given_away_is_not_needed.Goals as goal

pub returns-clause-passed : goal.returns-clause-passed
returns-clause-passed c A muts k x u a g f h = passed_not_needed A muts k x u a g f h

pub returns-clause-unrefused : goal.returns-clause-unrefused
returns-clause-unrefused c A muts k allowed x i g f = unrefused_not_needed A muts k x allowed i g f
