use Rattle.rx_engine_names.specs.Placed.{inside_of}
use Rattle.rx_engine_changed.specs.Called.{BothCome, BothEnd, ComesToEnd, ComesToRun}
use Rattle.rx_engine_changed.specs.Round.{as_mutable}
use Rattle.rx_engine_changed.proofs.PlannedRuns.{end_does, run_does}
use Rattle.rx_engine_changed.proofs.laws.planned_runs_do_as_their_calls.Goals as goal

pub returns-clause-within : goal.returns-clause-within
returns-clause-within k p q n m s f r pl G ns ms R apart none planned handed = run_does R apart as_mutable G (inside_of p n s f) (inside_of q m s f) (ComesToRun s f r ns) (BothCome p s f r pl ns ms) (λ c c' x. x.0) _ _ _ none planned handed

pub returns-clause-at_the_end : goal.returns-clause-at_the_end
returns-clause-at_the_end k p q n m s f r pl G ns ms R apart planned = end_does R apart as_mutable G (inside_of p n s f) (inside_of q m s f) (ComesToEnd s f r ns) (BothEnd p s f r pl ns ms) (λ k d c c' x. x.0) _ _ _ _ _ planned
