use Rattle.rx_engine_blocks.proofs.OneType.{integers_settle}
use Rattle.rx_engine_blocks.proofs.laws.integers_of_the_text_settle_a_part.Goals as goal

pub returns : goal.returns
returns c = λ r E V ds es o m i. integers_settle r E V ds es o.ordered m i
