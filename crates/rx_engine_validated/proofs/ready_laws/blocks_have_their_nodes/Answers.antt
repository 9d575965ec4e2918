use Rattle.std.proofs.Common.{length}
use Rattle.rx_typed.specs.Naming.{function_named, function_spans}
use Rattle.rx_engine_validated.proofs.Blocks.{one_block}
use Rattle.rx_engine_validated.proofs.ready_laws.blocks_have_their_nodes.Goals as goal

pub returns : goal.returns
returns c = λ A i s f ns n. one_block n A (function_named i s f ns) (length (function_spans s f ns)) (c.numbers_stand_in_order.ensures.nodes i s f ns)
