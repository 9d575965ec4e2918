use Rattle.rx_engine_initial_typed.proofs.Given.{given_so}
use Rattle.rx_engine_initial_typed.proofs.laws.copied_params_are_given_so.Goals as goal

pub returns : goal.returns
returns c = λ r S alike A k muts types choice policy modes p R scope apart again cold Rp Rf es ps given f. given_so r S alike A k muts types choice policy R scope apart given p f
