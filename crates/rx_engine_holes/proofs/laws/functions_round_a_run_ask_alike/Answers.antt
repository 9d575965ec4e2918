use Rattle.rx_engine_blocks.specs.Blocks.{ToldIn}
use Rattle.rx_engine_holes.proofs.Rounds.{round_alike}
use Rattle.rx_engine_holes.proofs.laws.functions_round_a_run_ask_alike.Goals as goal

pub returns : goal.returns
returns c = λ q w r behind es fs D E k A W x m loops run call asked given same f g runs calls h.
    round_alike q w (ToldIn r behind es) fs D E k A W x m loops asked given run call same f g runs calls h
