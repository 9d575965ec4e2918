use Rattle.rx_engine_related.specs.AboutRun.{special_of}
use Rattle.rx_engine_related.proofs.Entered.{local_dead}
use Rattle.rx_engine_related.proofs.histories_laws.locals_are_not_living.Goals as goal

pub returns : goal.returns
returns c A muts acc k p u x m b i t h q v = local_dead A muts acc k p k.params (λ y j. j) (special_of A muts k) u x m b i t h q v
