use Rattle.rx_tree.specs.Lists.{statements, tail}
use Rattle.rx_hoist_extraction.specs.Run.{chosen, run_block}
use Rattle.rx_engine_names.specs.CalledRuns.{call_parts}
use Rattle.rx_engine_names.specs.Placed.{inside_of}
use Rattle.rx_engine_changed.specs.Called.{BothCome, BothEnd}
use Rattle.rx_engine_changed.specs.Once.{last_without_names, without_names}
use Rattle.rx_engine_changed.proofs.CallFits.{call_fits, last_call_fits}
use Rattle.rx_engine_changed.proofs.laws.functions_with_a_call_of_a_plan_are_valid.Goals as goal

pub returns-clause-within : goal.returns-clause-within
returns-clause-within k p q n m s h r pl G ns ms R f g x D E knows A ordered valid fixes items agrees few there stand =
    let y = call_fits R G (inside_of p n s h) (inside_of q m s h) (BothCome p s h r pl ns ms) (BothEnd p s h r pl ns ms) _ _ _ f g x E A items agrees few there in
    (y.0, k.functions_with_a_call_that_fits_are_valid.ensures.within R (chosen r (statements (run_block r h))) (call_parts p r pl h).statements f g (without_names x) D E knows A ordered valid fixes y.0 y.1 (stand y.0 y.1))

pub returns-clause-at_the_end : goal.returns-clause-at_the_end
returns-clause-at_the_end k p q n m s h r pl G ns ms R f g x D E knows A ordered valid fixes items agrees few there end stand =
    let y = last_call_fits R G (inside_of p n s h) (inside_of q m s h) (BothCome p s h r pl ns ms) (BothEnd p s h r pl ns ms) _ _ _ f g _ _ x E A items agrees few there end in
    (y.0, k.functions_with_a_call_that_fits_are_valid.ensures.at_the_end R (chosen r (statements (run_block r h))) (call_parts p r pl h).statements (tail (run_block r h)) (call_parts p r pl h).tail f g (last_without_names x) D E knows A ordered valid fixes y.0 y.1 (stand y.0 y.1))
