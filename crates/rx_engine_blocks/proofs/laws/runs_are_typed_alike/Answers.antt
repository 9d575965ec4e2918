use Rattle.rx_engine_blocks.proofs.Around.{both_alike}
use Rattle.rx_engine_blocks.proofs.laws.runs_are_typed_alike.Goals as goal

pub returns : goal.returns
returns c = λ r u view behind q w D E k m A V W text run call head copy end es fs i a l lf oe of v ve vf references n x.
    both_alike r u view behind q w D E k m A V W text run call head copy end es fs i a l lf oe of v ve vf references n x
