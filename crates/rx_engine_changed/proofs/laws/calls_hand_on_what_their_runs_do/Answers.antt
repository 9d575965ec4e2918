use Rattle.rx_engine_names.specs.Placed.{inside_of}
use Rattle.rx_engine_changed.specs.Called.{BothCome, ComesToRun}
use Rattle.rx_engine_changed.proofs.HandedOn.{hands_on}
use Rattle.rx_engine_changed.proofs.laws.calls_hand_on_what_their_runs_do.Goals as goal

pub returns : goal.returns
returns k = λ p q n m s f r pl G ns ms R apart small declares few.
    hands_on R apart G (inside_of p n s f) (inside_of q m s f) (ComesToRun s f r ns) (BothCome p s f r pl ns ms) (λ c c' x. x.0) _ _ _ small declares (λ c c' x k l. few c' x.1 k l)
