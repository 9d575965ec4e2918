use Rattle.rx_engine_declared.proofs.Items.{item_declares}
use Rattle.rx_engine_declared.proofs.laws.items_declare_by_their_text.Goals as goal

pub returns : goal.returns
returns c = λ p n i t d e h. item_declares p n i t d e h
