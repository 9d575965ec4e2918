use Rattle.rx_engine_blocks.specs.Blocks.{ToldIn}
use Rattle.rx_engine_blocks.proofs.Settling.{settled_fixes}
use Rattle.rx_engine_blocks.proofs.laws.what_is_settled_is_fixed.Goals as goal

pub returns : goal.returns
returns c = λ r view q elsewhere fs E A es s. settled_fixes r view (ToldIn q elsewhere fs) E A es s
