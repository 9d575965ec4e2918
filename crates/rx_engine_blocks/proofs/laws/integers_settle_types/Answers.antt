use Rattle.rx_engine_blocks.proofs.OneType.{one_type}
use Rattle.rx_engine_blocks.proofs.laws.integers_settle_types.Goals as goal

pub returns : goal.returns
returns c = λ D ds o A B a b i. one_type D ds o.ordered A B a b i
