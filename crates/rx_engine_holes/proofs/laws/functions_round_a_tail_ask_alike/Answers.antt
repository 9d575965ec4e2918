use Rattle.rx_engine_blocks.specs.Blocks.{ToldIn}
use Rattle.rx_engine_holes.proofs.Rounds.{tail_alike}
use Rattle.rx_engine_holes.proofs.laws.functions_round_a_tail_ask_alike.Goals as goal

pub returns : goal.returns
returns c = λ q w r behind es fs D E known A W x m loops n s d run o call p asked given same never f g runs calls h.
    tail_alike q w (ToldIn r behind es) fs D E known A W x m loops asked given n s d run o call p same never f g runs calls h
