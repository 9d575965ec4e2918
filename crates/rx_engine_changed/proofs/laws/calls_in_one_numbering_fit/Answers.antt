use Rattle.rx_engine_names.specs.Placed.{inside_of}
use Rattle.rx_engine_changed.specs.Called.{BothCome, BothEnd}
use Rattle.rx_engine_changed.proofs.CallFits.{call_fits, last_call_fits}
use Rattle.rx_engine_changed.proofs.laws.calls_in_one_numbering_fit.Goals as goal

pub returns-clause-within : goal.returns-clause-within
returns-clause-within k p q n m s h r pl G ns ms R f g x E A items agrees few there = call_fits R G (inside_of p n s h) (inside_of q m s h) (BothCome p s h r pl ns ms) (BothEnd p s h r pl ns ms) _ _ _ f g x E A items agrees few there

pub returns-clause-at_the_end : goal.returns-clause-at_the_end
returns-clause-at_the_end k p q n m s h r pl G ns ms R f g x E A items agrees few there end =
    last_call_fits R G (inside_of p n s h) (inside_of q m s h) (BothCome p s h r pl ns ms) (BothEnd p s h r pl ns ms) _ _ _ f g _ _ x E A items agrees few there end
