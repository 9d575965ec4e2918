use Rattle.rx_engine_blocks.proofs.Around.{both_blocks}
use Rattle.rx_engine_blocks.proofs.laws.runs_are_blocks.Goals as goal

pub returns : goal.returns
returns c = λ r u view behind q w D E k m A V W text run call head copy end es fs i a l lf oe of ve vf n x.
    both_blocks r u view behind q w D E k m A V W text run call head copy end es fs i a l lf oe of ve.prefers.typed vf.prefers.typed n x
