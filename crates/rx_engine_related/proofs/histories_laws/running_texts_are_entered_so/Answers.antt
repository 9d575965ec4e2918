use Rattle.rx_engine_related.specs.AboutRun.{special_of}
use Rattle.rx_engine_related.specs.Running.{running_of}
use Rattle.rx_engine_related.proofs.Entered.{living_entered}
use Rattle.rx_engine_related.proofs.Runs.{running_param_written, running_local_dead}
use Rattle.rx_engine_related.proofs.histories_laws.running_texts_are_entered_so.Goals as goal

pub returns-clause-written : goal.returns-clause-written
returns-clause-written c = running_param_written

pub returns-clause-living : goal.returns-clause-living
returns-clause-living c A muts k u x m b i t h q = living_entered (running_of A k.params) (special_of A muts k) u k.params x m b i t h q

pub returns-clause-locals : goal.returns-clause-locals
returns-clause-locals c = running_local_dead
