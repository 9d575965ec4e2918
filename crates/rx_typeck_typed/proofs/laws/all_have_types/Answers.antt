use Rattle.rx_typeck_typed.proofs.Having.{all_have_types}
use Rattle.rx_typeck_typed.proofs.laws.all_have_types.Goals as goal

pub returns : goal.returns
returns c p names t typed = all_have_types p names t typed
