use Rattle.rx_meaning.proofs.Memory.{memory_grows}
use Rattle.rx_meaning.proofs.laws.memory_only_grows.Goals as goal

pub returns : goal.returns
returns c = memory_grows
