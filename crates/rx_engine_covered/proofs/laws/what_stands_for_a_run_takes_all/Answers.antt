use Rattle.rx_engine_covered.proofs.Handed.{handed_take, tail_takes}
use Rattle.rx_engine_covered.proofs.laws.what_stands_for_a_run_takes_all.Goals as goal

pub returns-clause-within : goal.returns-clause-within
returns-clause-within c = λ E G R x later d vs hs ss h. handed_take E.items G R x h

pub returns-clause-at_the_end : goal.returns-clause-at_the_end
returns-clause-at_the_end c = λ E G R x s d hs o h. tail_takes E.items G R x h
