use Rattle.rx_engine_names.proofs.NewItems.{new_function_alike}
use Rattle.rx_engine_names.proofs.laws.new_functions_are_alike.Goals as goal

pub returns : goal.returns
returns c = λ p q k ts whole plan bounds place loops scope e run names stands m a ls at i t r comes at' t' ends within inside.
    new_function_alike p q k ts whole plan bounds place loops scope e run names stands m a ls at i t r comes at' t' ends within inside
