use Rattle.rx_engine_blocks.proofs.Elsewhere.{free_elsewhere}
use Rattle.rx_engine_blocks.proofs.laws.what_is_not_told_is_free.Goals as goal

pub returns : goal.returns
returns c = λ D ds o A B v s. free_elsewhere D ds o A B v s
