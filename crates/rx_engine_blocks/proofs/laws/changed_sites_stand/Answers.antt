use Rattle.rx_engine_blocks.specs.Blocks.{ToldIn}
use Rattle.rx_engine_blocks.proofs.Sites.{changed_stands}
use Rattle.rx_engine_blocks.proofs.laws.changed_sites_stand.Goals as goal

pub returns : goal.returns
returns c = λ r u view behind q elsewhere fs D E k A V es gs hs z. changed_stands r u view behind (ToldIn q elsewhere fs) D E k A V es gs hs z
