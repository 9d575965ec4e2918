use Rattle.rx_engine_blocks.specs.Blocks.{ToldIn}
use Rattle.rx_engine_blocks.proofs.AllSigned.{signed_alike}
use Rattle.rx_engine_blocks.proofs.laws.signed_parts_are_typed_alike.Goals as goal

pub returns : goal.returns
returns c = λ r u view behind q elsewhere fs D E A V ds es o b i v w x t. signed_alike r u view behind (ToldIn q elsewhere fs) D E A V ds es o b i v w x t
