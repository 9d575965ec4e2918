use Rattle.rx_parse_grammar.proofs.Numbered.{text_numbered}
use Rattle.rx_tree.specs.Plain as plain
use Rattle.rx_engine_tied.proofs.Seats.{item_there}
use Rattle.rx_engine_tied.proofs.Texts.{behind_tied}
use Rattle.rx_engine_tied.proofs.laws.texts_behind_are_tied.Goals as goal

pub returns : goal.returns
returns c = λ A q bytes names t k start end of is s f e r way first last past.
    behind_tied A q bytes names t k start end of is s f e r way first last
    (c.blocks_stand_in_scope.ensures A.program names t (text_numbered bytes A.program k.parsed k.short) k.meant k.typed A.function k.among s f (item_there A.program A.function.item (plain.function_item s f) e)) past
