use Rattle.rx_engine_blocks.specs.DemandsLike.{NoSpecial}
use Rattle.rx_engine_blocks.specs.Blocks.{ToldIn}
use Rattle.rx_engine_blocks.proofs.Copying.{copied_block}
use Rattle.rx_engine_blocks.proofs.laws.copies_are_blocks.Goals as goal

pub returns : goal.returns
returns c = λ r u view behind q elsewhere fs D E k A V m ds es l w. copied_block r u view behind (ToldIn q elsewhere fs) D E k A V m NoSpecial (λ gs hs z. absurd z) l w
