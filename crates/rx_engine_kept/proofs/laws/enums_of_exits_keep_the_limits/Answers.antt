use Rattle.rx_engine_kept.proofs.ToldLimits.{limits_give_fits}
use Rattle.rx_engine_kept.proofs.laws.enums_of_exits_keep_the_limits.Goals as goal

pub returns : goal.returns
returns c = limits_give_fits c.one_size_each.ensures.one
