use Rattle.rx_engine_names.specs.HandsOver.{told_handed, told_last}
use Rattle.rx_engine_names.specs.Placed.{inside_of}
use Rattle.rx_engine_changed.specs.Called.{BothCome, BothEnd}
use Rattle.rx_engine_changed.specs.Round.{as_mutable}
use Rattle.rx_engine_changed.proofs.GoingOn.{end_goes_on, run_goes_on}
use Rattle.rx_engine_changed.proofs.laws.runs_that_do_alike_go_on.Goals as goal

pub returns-clause-within : goal.returns-clause-within
returns-clause-within k p q n m s f r pl G ns ms R asked = run_goes_on R as_mutable (told_handed G) (inside_of p n s f) (inside_of q m s f) (BothCome p s f r pl ns ms) _ _ _ asked

pub returns-clause-at_the_end : goal.returns-clause-at_the_end
returns-clause-at_the_end k p q n m s f r pl G ns ms R asked = end_goes_on R as_mutable (told_last G) (inside_of p n s f) (inside_of q m s f) (BothEnd p s f r pl ns ms) _ _ _ _ _ asked
