use Rattle.rx_engine_names.specs.Insertion.{number_there}
use Rattle.rx_engine_names.proofs.KeptItems.{inserted_keeps, keeps_fits}
use Rattle.rx_engine_names.proofs.ReplacedBlocks.{block_ended}
use Rattle.rx_engine_names.proofs.laws.ends_are_replaced.Goals as goal

pub returns : goal.returns
returns c = λ p q k a b ls scope start around round made xs names loops span front run call tail last within at at' t t' u stands e.
    block_ended (number_there k) p a ls q b (keeps_fits (number_there k) p q (inserted_keeps p q k) a b ls) around round span front run call tail last scope start made xs names loops within at at' t t' u stands e
