use Rattle.rx_engine_blocks.proofs.Settling.{settled_fixes}
use Rattle.rx_engine_holes.specs.Named.{NamedIn}
use Rattle.rx_engine_holes.proofs.laws.what_is_named_is_fixed.Goals as goal

pub returns : goal.returns
returns c = λ r view names E A es s. settled_fixes r view (NamedIn names) E A es s
