use Rattle.rx_engine_blocks.specs.Blocks.{ToldIn}
use Rattle.rx_engine_blocks.proofs.Fronts.{front_outlined}
use Rattle.rx_engine_blocks.proofs.laws.fronts_are_outlined_alike.Goals as goal

pub returns : goal.returns
returns c = λ r u view behind q elsewhere fs D E A V gs front rest b o a v x t. front_outlined r u view behind (ToldIn q elsewhere fs) D E A V gs front rest b o.ordered a v x t
