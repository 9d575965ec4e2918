use Rattle.rx_engine_related.proofs.Runs.{running_out_written, running_others_dead, running_out_living, running_untouched, running_unlent}
use Rattle.rx_engine_related.proofs.histories_laws.running_texts_are_left_so.Goals as goal

pub returns-clause-written : goal.returns-clause-written
returns-clause-written c = running_out_written

pub returns-clause-others : goal.returns-clause-others
returns-clause-others c = running_others_dead

pub returns-clause-untouched : goal.returns-clause-untouched
returns-clause-untouched c = running_untouched

pub returns-clause-living : goal.returns-clause-living
returns-clause-living c = running_out_living

pub returns-clause-unlent : goal.returns-clause-unlent
returns-clause-unlent c = running_unlent
