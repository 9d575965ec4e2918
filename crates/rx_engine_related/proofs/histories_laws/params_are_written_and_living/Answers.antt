use Rattle.rx_engine_related.specs.AboutRun.{special_of, text_of}
use Rattle.rx_engine_related.proofs.Entered.{param_written, living_entered}
use Rattle.rx_engine_related.proofs.histories_laws.params_are_written_and_living.Goals as goal

pub returns-clause-written : goal.returns-clause-written
returns-clause-written c A muts acc k p xs x m b i t h q = param_written A muts acc k p xs x m b i t h q

pub returns-clause-living : goal.returns-clause-living
returns-clause-living c A muts k u x m b i t h q = living_entered (text_of A k) (special_of A muts k) u k.params x m b i t h q
