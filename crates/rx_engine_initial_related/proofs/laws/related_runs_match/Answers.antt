use Rattle.rx_engine_initial_related.proofs.MovedTrees.{also_marked}
use Rattle.rx_engine_initial_related.proofs.MovedRuns.{jumps_leave, none_leave, new_function_matches}
use Rattle.rx_engine_initial_related.proofs.laws.related_runs_match.Goals as goal

pub returns-clause-function : goal.returns-clause-function
returns-clause-function c = λ S A k had self sized sized_there text initialised nexts again modes R Ra Rb es ps ls given types items gain U J r q m s v none x u w zs g have gives T nothing no_loops f mb mg params body rest n t.
    new_function_matches S A k had self sized sized_there text initialised nexts given types m s v none u have gives T nothing no_loops f mb mg params body rest n t

pub returns-clause-jumps : goal.returns-clause-jumps
returns-clause-jumps c = jumps_leave

pub returns-clause-alone : goal.returns-clause-alone
returns-clause-alone c = none_leave

pub returns-clause-marks : goal.returns-clause-marks
returns-clause-marks c = also_marked
