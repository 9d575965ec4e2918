use Rattle.rx_engine_blocks.proofs.Carrying.{accepted_valid}
use Rattle.rx_engine_blocks.proofs.laws.carried_is_valid.Goals as goal

pub returns : goal.returns
returns c = λ D E task part A B o v k w. accepted_valid D E task part A B o v k w
