use Rattle.rx_engine_related.proofs.Premises.{param_lives, param_written, local_dead, others_dead, out_ready, whole_unlent}
use Rattle.rx_engine_related.proofs.histories_laws.plans_give_what_calls_ask.Goals as goal

pub returns-clause-living : goal.returns-clause-living
returns-clause-living c = param_lives

pub returns-clause-written : goal.returns-clause-written
returns-clause-written c = param_written

pub returns-clause-locals : goal.returns-clause-locals
returns-clause-locals c = local_dead

pub returns-clause-dead : goal.returns-clause-dead
returns-clause-dead c = others_dead

pub returns-clause-ready : goal.returns-clause-ready
returns-clause-ready c = out_ready

pub returns-clause-unlent : goal.returns-clause-unlent
returns-clause-unlent c = whole_unlent
