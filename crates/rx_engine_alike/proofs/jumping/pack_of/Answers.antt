use Rattle.rx_engine_alike.proofs.GivenLemmas.{pack_by_plan}
use Rattle.rx_engine_alike.proofs.jumping.pack_of.Goals as goal

pub returns-in-ByPlan : goal.returns-in-ByPlan
returns-in-ByPlan c =
    pack_by_plan c.args.leaving c.in-ByPlan.plan c.as_slice.result.now c.jump_exit.result c.args.number c.args.again c.pack_among.result c.in-ByPlan.is c.as_slice.ensures c.jump_exit.ensures c.pack_among.ensures
