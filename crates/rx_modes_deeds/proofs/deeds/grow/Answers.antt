use Rattle.std.proofs.Common.{◌∙◌}
use Rattle.rx_modes_deeds.proofs.Tables.{grown}
use Rattle.rx_modes_deeds.proofs.deeds.grow.Goals as goal

pub grow-preserved : goal.grow-preserved
grow-preserved c = grown c.grow.table.items c.push.new.self.items c.nothing_done.result c.in_ok-push.ensures.items c.nothing_done.ensures ∙ c.grow.invariant
