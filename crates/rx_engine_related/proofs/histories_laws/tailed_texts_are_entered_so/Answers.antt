use Rattle.rx_engine_related.specs.AboutRun.{special_of}
use Rattle.rx_engine_related.specs.Tailed.{tailed_of}
use Rattle.rx_engine_related.proofs.Entered.{living_entered}
use Rattle.rx_engine_related.proofs.Near.{near_param_written, near_local_dead, near_untouched, near_unlent}
use Rattle.rx_engine_related.proofs.Tailed.{at_returns, tailed_near}
use Rattle.rx_engine_related.proofs.histories_laws.tailed_texts_are_entered_so.Goals as goal

pub returns-clause-written : goal.returns-clause-written
returns-clause-written c A has xs muts acc k p x m b i t h w = near_param_written at_returns A (tailed_of A xs) xs (tailed_near A has xs) muts acc k p x m b i t h w

pub returns-clause-living : goal.returns-clause-living
returns-clause-living c A muts k u x m b i t h w = living_entered (tailed_of A k.params) (special_of A muts k) u k.params x m b i t h w

pub returns-clause-locals : goal.returns-clause-locals
returns-clause-locals c A has k p muts acc u x m b i t h w l = near_local_dead at_returns A k p (tailed_of A k.params) (tailed_near A has k.params) muts acc u x m b i t h w l

pub returns-clause-untouched : goal.returns-clause-untouched
returns-clause-untouched c A has k p muts acc none = near_untouched at_returns A k p (tailed_of A k.params) (tailed_near A has k.params) muts acc none

pub returns-clause-unlent : goal.returns-clause-unlent
returns-clause-unlent c A has k p muts acc none x i m h q b = near_unlent at_returns A k p (tailed_of A k.params) (tailed_near A has k.params) muts acc none x i m h q b
